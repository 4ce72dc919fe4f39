use mathlib.Core.Path.{◌≡◌, refl, ap, sym, ◌∙◌}
use Prim.Native.Nat.{◌+◌, ◌-◌, ◌≤◌}
use native.Mathlib.Nat.{sub-zero}
use native.Mathlib.Omega.{arith}
use lib.ListN.{length}
use Rattle.buffer.specs.Bytes.{put}
use Rattle.buffer.proofs.Put.{length-put, put-none}
use Rattle.sector.specs.Sector.{payload_of}
use Rattle.block.specs.Block.{parts_of}
use Rattle.block.specs.Log.{joined, sectors, bytes_of}
use Rattle.block_bytes.proofs.Pieces.{length-bytes, piece-length, piece-here, piece-room, piece-next, piece-none, block_at}
use Rattle.block_bytes.proofs.Turns.{put-piece}
use Rattle.block_bytes.proofs.copy_out.Goals as goal

pub loop-done-init : goal.loop-done-init
loop-done-init c =
    let a = c.args in
    let q = c.requires in
    rw (sub-zero a.b.size) (omega arith, q.1.0, refl, refl)

pub piece_at-piece-requires : goal.piece_at-piece-requires
piece_at-piece-requires c =
    let a = c.args in
    let q = c.requires in
    let l = c.loop-done in
    (q.0, piece-here a.b.label l.n a.b.size l.done _ q.1.1 c.loop-done-test.true l.invariant.1, omega arith)

pub copy_at-requires : goal.copy_at-requires
copy_at-requires c =
    let a = c.args in
    let q = c.requires in
    let log = joined a.runs.end.0 a.runs.log.now a.runs.waiting.now in
    let l = c.loop-done in
    let test = c.loop-done-test in
    omega (arith, piece-length a.b.label q.1.1 log l.n a.b.size l.done test.true _ c.piece_at-piece.ensures)

pub overflow_add-done : goal.overflow_add-done
overflow_add-done c =
    let a = c.args in
    let q = c.requires in
    let log = joined a.runs.end.0 a.runs.log.now a.runs.waiting.now in
    let l = c.loop-done in
    let test = c.loop-done-test in
    let piece-at = c.piece_at-piece in
    omega (arith, piece-length a.b.label q.1.1 log l.n a.b.size l.done test.true _ piece-at.ensures)

pub overflow_add-n : goal.overflow_add-n
overflow_add-n c =
    let a = c.args in
    let q = c.requires in
    let l = c.loop-done in
    omega (arith, piece-here a.b.label l.n a.b.size l.done _ q.1.1 c.loop-done-test.true l.invariant.1)

pub loop-done-smaller : goal.loop-done-smaller
loop-done-smaller c =
    let a = c.args in
    let q = c.requires in
    let log = joined a.runs.end.0 a.runs.log.now a.runs.waiting.now in
    let l = c.loop-done in
    let test = c.loop-done-test in
    let piece-at = c.piece_at-piece in
    omega (arith, piece-length a.b.label q.1.1 log l.n a.b.size l.done test.true _ piece-at.ensures)

pub loop-done-preserved : goal.loop-done-preserved
loop-done-preserved c = let args = c.args in
    let if1 = c.loop-done-test in
    let turn = c.loop-done in
    let piece-at-here = c.piece_at-piece in
    let given = c.requires in
    let a = args in
    let q = given in
    let log = joined a.runs.end.0 a.runs.log.now a.runs.waiting.now in
    let l = turn in
    let test = if1 in
    let piece-at = piece-at-here in
    let copy_at = c.copy_at in
    let t = test.true in
    let e = piece-at.ensures in
    let p = piece-at.result.now in
    let k = piece-length a.b.label q.1.1 log l.n a.b.size l.done t p e in
    let g = piece-next a.b.label q.1.1 log l.n a.b.size l.done t p e in (
      omega (arith, k),
      piece-room a.b.label q.1.1 log l.n a.b.size l.done t p e _ l.invariant.1,
      ap length copy_at.ensures ∙ length-put l.d l.done p (omega (arith, k)) ∙ l.invariant.2,
      put-piece l.d _ l.done (bytes_of log (block_at a.b.label l.n (a.b.size - l.done))) p _
          (omega (arith, k, length-bytes log (block_at a.b.label l.n (a.b.size - l.done)) q.1.1)) copy_at.ensures g ∙ l.invariant.3,
    )

pub returns : goal.returns
returns c =
    let a = c.args in
    let q = c.requires in
    let log = joined a.runs.end.0 a.runs.log.now a.runs.waiting.now in
    let l = c.loop-done in
    sym (ap (put l.d l.done) (piece-none a.b.label log l.n a.b.size l.done c.loop-done-test.false) ∙ put-none l.d l.done) ∙ l.invariant.3
