use Prim.Native.Nat.{◌+◌, ◌-◌, ◌≤◌, ◌<◌}
use native.Mathlib.Nat.{sub-zero}
use native.Mathlib.Omega.{arith}
use lib.ListN.{length}
use Rattle.sector.specs.Sector.{payload_of}
use Rattle.block.specs.Block.{parts_of}
use Rattle.block.specs.Log.{joined, sectors, bytes_of}
use Rattle.block_bytes.proofs.Pieces.{piece-length, piece-here, piece-room, piece-next, piece-none, block_at}
use Rattle.block_bytes.proofs.Turns.{Taken, taken_none, taken_more, taken-all}
use Rattle.block_bytes.proofs.digest.Goals as goal

pub loop-done-init : goal.loop-done-init
loop-done-init c =
    let a = c.args in
    let log = joined a.runs.end.0 a.runs.log.now a.runs.waiting.now in
    let q = c.requires in
    rw (sub-zero a.b.size) (omega arith, q.1.0, taken_none _ (bytes_of log a.b) c.start-s.ensures)

pub piece_at-piece-requires : goal.piece_at-piece-requires
piece_at-piece-requires c =
    let a = c.args in
    let q = c.requires in
    let l = c.loop-done in
    (q.0, piece-here a.b.label l.n a.b.size l.done _ q.1.1 c.loop-done-test.true l.invariant.1, omega arith)

pub overflow_add-done : goal.overflow_add-done
overflow_add-done c =
    let a = c.args in
    let q = c.requires in
    let log = joined a.runs.end.0 a.runs.log.now a.runs.waiting.now in
    let l = c.loop-done in
    let test = c.loop-done-test in
    omega (arith, piece-length a.b.label q.1.1 log l.n a.b.size l.done test.true _ c.piece_at-piece.ensures)

pub overflow_add-n : goal.overflow_add-n
overflow_add-n c =
    let a = c.args in
    let q = c.requires in
    let l = c.loop-done in
    let h : l.n < a.runs.end.0 + sectors (length a.runs.waiting.now) = piece-here a.b.label l.n a.b.size l.done _ q.1.1 c.loop-done-test.true l.invariant.1 in
    omega (arith, h, q.0, c.well_formed)

pub loop-done-smaller : goal.loop-done-smaller
loop-done-smaller c =
    let a = c.args in
    let q = c.requires in
    let log = joined a.runs.end.0 a.runs.log.now a.runs.waiting.now in
    let l = c.loop-done in
    let test = c.loop-done-test in
    omega (arith, piece-length a.b.label q.1.1 log l.n a.b.size l.done test.true _ c.piece_at-piece.ensures)

pub loop-done-preserved : goal.loop-done-preserved
loop-done-preserved c =
    let a = c.args in
    let q = c.requires in
    let log = joined a.runs.end.0 a.runs.log.now a.runs.waiting.now in
    let l = c.loop-done in
    let test = c.loop-done-test in
    let t = test.true in
    let e = c.piece_at-piece.ensures in (
      omega (arith, piece-length a.b.label q.1.1 log l.n a.b.size l.done t _ e),
      piece-room a.b.label q.1.1 log l.n a.b.size l.done t _ e _ l.invariant.1,
      taken_more _ _ _ _ _ _ c.absorb-s.ensures (piece-next a.b.label q.1.1 log l.n a.b.size l.done t _ e) l.invariant.2,
    )

pub returns : goal.returns
returns c =
    let a = c.args in
    let q = c.requires in
    let log = joined a.runs.end.0 a.runs.log.now a.runs.waiting.now in
    let l = c.loop-done in
    c.finish.ensures _ (taken-all _ _ _ (piece-none a.b.label log l.n a.b.size l.done c.loop-done-test.false) l.invariant.2)
