use mathlib.Core.Path.{ap, ◌∙◌}
use Prim.Native.Nat.{ℕ, ◌+◌, ◌-◌, ◌/◌, ◌%◌, ◌<◌, min}
use native.Mathlib.Nat.{mod-lt}
use native.Mathlib.Omega.{arith}
use lib.ListN.{length, take, drop}
use Rattle.block.specs.Log.{joined, bytes_of}
use Rattle.block.proofs.At.{length_at}
use Rattle.tree.proofs.Pieces.{least-bounds, part_in, piece-here}
use Rattle.tree.proofs.piece_from.Goals as goal

pub overflow_add-n : goal.overflow_add-n
overflow_add-n c =
    let a = c.args in
    let q = c.requires in
    let payload-of = c.payload_of-p in
    let log = joined a.runs.end.0 a.runs.log.now a.runs.waiting.now in
    let part = part_in log a.b q.1.1 payload-of.result payload-of.ensures a.k q.2 in
    omega (arith, part)

pub sector_at-s-requires : goal.sector_at-s-requires
sector_at-s-requires c =
    let a = c.args in
    let q = c.requires in
    let payload-of = c.payload_of-p in
    let log = joined a.runs.end.0 a.runs.log.now a.runs.waiting.now in
    let part = part_in log a.b q.1.1 payload-of.result payload-of.ensures a.k q.2 in
    (q.0, omega (arith, part))

pub overflow_add-from : goal.overflow_add-from
overflow_add-from c =
    let a = c.args in
    let payload-of = c.payload_of-p in
    let pos : 0 < payload-of.result = omega (arith, payload-of.ensures) in
    let m = mod-lt a.k pos in
    omega (arith, m, payload-of.ensures)

pub overflow_sub-p : goal.overflow_sub-p
overflow_sub-p c =
    let a = c.args in
    let payload-of = c.payload_of-p in
    let pos : 0 < payload-of.result = omega (arith, payload-of.ensures) in
    let m = mod-lt a.k pos in
    omega (arith, m, payload-of.ensures)

pub overflow_add-to : goal.overflow_add-to
overflow_add-to c =
    let a = c.args in
    let payload-of = c.payload_of-p in
    let pos : 0 < payload-of.result = omega (arith, payload-of.ensures) in
    let m = mod-lt a.k pos in
    omega (arith, m, payload-of.ensures, c.least.ensures)

pub slice_bounds-result-end : goal.slice_bounds-result-end
slice_bounds-result-end c =
    let a = c.args in
    let payload-of = c.payload_of-p in
    let pos : 0 < payload-of.result = omega (arith, payload-of.ensures) in
    let m = mod-lt a.k pos in
    let log = joined a.runs.end.0 a.runs.log.now a.runs.waiting.now in
    omega (arith, m, payload-of.ensures, c.least.ensures, ap length c.sector_at-s.ensures ∙ length_at log (a.b.first.0 + a.k / payload-of.result))

pub returns : goal.returns
returns c =
    let a = c.args in
    let q = c.requires in
    let payload-of = c.payload_of-p in
    let least = c.least in
    let p = payload-of.result in
    let log = joined a.runs.end.0 a.runs.log.now a.runs.waiting.now in
    let e = least.ensures in
    let bounds = least-bounds least.result _ _ _ e in
    piece-here log a.b q.1.1 p payload-of.ensures a.k least.result _ c.sector_at-s.ensures bounds.0 bounds.1 q.2
    ∙ ap (λ (m : ℕ). take m (drop a.k (bytes_of log a.b))) e
    ∙ ap (λ (w : ℕ). take (min (w - a.k % w) (min (a.b.size - a.k) a.room)) (drop a.k (bytes_of log a.b))) payload-of.ensures
