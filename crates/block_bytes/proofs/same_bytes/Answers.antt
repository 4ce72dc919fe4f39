use mathlib.Core.Path.{◌≡◌, sym, ap, subst, ◌∙◌}
use Prim.Native.Nat.{ℕ, ◌+◌, ◌-◌, ◌≤◌}
use native.Mathlib.Nat.{sub-zero}
use native.Mathlib.Omega.{arith}
use borrow.Author.Tests.{not-true, not-false}
use lib.ListN.{length, drop}
use Rattle.buffer.specs.Bytes.{same}
use Rattle.sector.specs.Sector.{payload_of}
use Rattle.block.specs.Block.{parts_of}
use Rattle.block.specs.Log.{joined, sectors, bytes_of}
use Rattle.block_bytes.proofs.Pieces.{piece-length, piece-here, piece-room, piece-next, piece-none, block_at}
use Rattle.block_bytes.proofs.Turns.{same_turn, same_stop, same_none}
use Rattle.block_bytes.proofs.same_bytes.Goals as goal

pub loop-done-init : goal.loop-done-init
loop-done-init c =
    let a = c.args in
    let q = c.requires in
    let log = joined a.runs.end.0 a.runs.log.now a.runs.waiting.now in
    let x = a.«data».now in
    let e : length x - 0 ≡ a.b.size = sub-zero (length x) ∙ sym q.2 in (
      omega arith,
      subst (λ (m : ℕ). a.b.first.0 + parts_of (payload_of a.b.label) m ≤ a.runs.end.0 + sectors (length a.runs.waiting.now)) (sym e) q.1.0,
      ap (λ (m : ℕ). same (bytes_of log (block_at a.b.label a.b.first.0 m)) x) e,
    )

pub piece_at-piece-requires : goal.piece_at-piece-requires
piece_at-piece-requires c =
    let a = c.args in
    let q = c.requires in
    let l = c.loop-done in
    (q.0, piece-here a.b.label l.n (length a.«data».now) l.done _ q.1.1 c.loop-done-test.true l.invariant.1, omega arith)

pub overflow_add-next : goal.overflow_add-next
overflow_add-next c =
    let a = c.args in
    let q = c.requires in
    let log = joined a.runs.end.0 a.runs.log.now a.runs.waiting.now in
    let l = c.loop-done in
    omega (arith, piece-length a.b.label q.1.1 log l.n (length a.«data».now) l.done c.loop-done-test.true _ c.piece_at-piece.ensures)

pub slice_bounds-agree-end : goal.slice_bounds-agree-end
slice_bounds-agree-end c =
    let a = c.args in
    let q = c.requires in
    let log = joined a.runs.end.0 a.runs.log.now a.runs.waiting.now in
    let l = c.loop-done in
    omega (arith, piece-length a.b.label q.1.1 log l.n (length a.«data».now) l.done c.loop-done-test.true _ c.piece_at-piece.ensures)

pub returns-then-not-agree : goal.returns-then-not-agree
returns-then-not-agree c =
    let a = c.args in
    let q = c.requires in
    let log = joined a.runs.end.0 a.runs.log.now a.runs.waiting.now in
    let l = c.loop-done in
    let test = c.loop-done-test in
    let piece-at = c.piece_at-piece in
    let x = a.«data».now in
    let t = test.true in
    let e = piece-at.ensures in
    let p = piece-at.result.now in
    let k = piece-length a.b.label q.1.1 log l.n (length x) l.done t p e in
    let g = piece-next a.b.label q.1.1 log l.n (length x) l.done t p e in
    sym (same_stop _ p _ x l.done (omega (arith, k)) g (sym c.agree.ensures ∙ c.if-not-agree.true)) ∙ l.invariant.2

pub overflow_add-n : goal.overflow_add-n
overflow_add-n c =
    let a = c.args in
    let q = c.requires in
    let l = c.loop-done in
    omega (arith, piece-here a.b.label l.n (length a.«data».now) l.done _ q.1.1 c.loop-done-test.true l.invariant.1)

pub loop-done-smaller : goal.loop-done-smaller
loop-done-smaller c =
    let a = c.args in
    let q = c.requires in
    let log = joined a.runs.end.0 a.runs.log.now a.runs.waiting.now in
    let l = c.loop-done in
    let test = c.loop-done-test in
    let piece-at = c.piece_at-piece in
    omega (arith, piece-length a.b.label q.1.1 log l.n (length a.«data».now) l.done test.true _ piece-at.ensures)

pub loop-done-preserved : goal.loop-done-preserved
loop-done-preserved c =
    let a = c.args in
    let q = c.requires in
    let log = joined a.runs.end.0 a.runs.log.now a.runs.waiting.now in
    let l = c.loop-done in
    let test = c.loop-done-test in
    let piece-at = c.piece_at-piece in
    let x = a.«data».now in
    let t = test.true in
    let e = piece-at.ensures in
    let p = piece-at.result.now in
    let k = piece-length a.b.label q.1.1 log l.n (length x) l.done t p e in
    let g = piece-next a.b.label q.1.1 log l.n (length x) l.done t p e in (
      omega (arith, k),
      piece-room a.b.label q.1.1 log l.n (length x) l.done t p e _ l.invariant.1,
      same_turn _ p _ x l.done (omega (arith, k)) g (sym c.agree.ensures ∙ c.if-not-agree.false) ∙ l.invariant.2,
    )

pub returns : goal.returns
returns c =
    let a = c.args in
    let q = c.requires in
    let log = joined a.runs.end.0 a.runs.log.now a.runs.waiting.now in
    let l = c.loop-done in
    let test = c.loop-done-test in
    let x = a.«data».now in
    sym (same_none _ x l.done test.false (piece-none a.b.label log l.n (length x) l.done test.false)) ∙ l.invariant.2
