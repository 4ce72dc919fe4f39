use mathlib.Core.Path.{◌≡◌, ap, ◌∙◌}
use Prim.Native.Nat.{ℕ, suc, ◌-◌, ◌/◌, ◌<◌}
use native.Mathlib.Omega.{arith}
use lib.ListN.{length}
use Rattle.buffer.specs.Bytes.{zeros}
use Rattle.block.specs.Block.{parts_of, parts_in}
use Rattle.block.specs.Log.{joined}
use Rattle.block.proofs.At.{length_at}
use Rattle.block_tests.proofs.Rest.{last_part, last-bounds, rest-zeros}
use Rattle.block_tests.proofs.rest_is_zero.Goals as goal

pub overflow_mul-from : goal.overflow_mul-from
overflow_mul-from c =
    let a = c.args in
    let q = c.requires in
    let p = c.payload_of-p.result in
    let pos : 0 < p = omega (arith, c.payload_of-p.ensures) in
    omega (arith, last-bounds p pos a.b.size q.1)

pub overflow_sub-from : goal.overflow_sub-from
overflow_sub-from c =
    let a = c.args in
    let q = c.requires in
    let p = c.payload_of-p.result in
    let pos : 0 < p = omega (arith, c.payload_of-p.ensures) in
    omega (arith, last-bounds p pos a.b.size q.1)

pub overflow_add-from : goal.overflow_add-from
overflow_add-from c =
    let a = c.args in
    let q = c.requires in
    let p = c.payload_of-p.result in
    let pos : 0 < p = omega (arith, c.payload_of-p.ensures) in
    omega (arith, c.payload_of-p.ensures, last-bounds p pos a.b.size q.1)

pub overflow_add-n : goal.overflow_add-n
overflow_add-n c =
    let a = c.args in
    let q = c.requires in
    let p = c.payload_of-p.result in
    let pos : 0 < p = omega (arith, c.payload_of-p.ensures) in
    let last : suc ((a.b.size - 1) / p) ≡ parts_in a.b = last_part p pos a.b.size q.1 ∙ ap (λ (x : ℕ). parts_of x a.b.size) c.payload_of-p.ensures in
    omega (arith, last)

pub sector_at-s-requires : goal.sector_at-s-requires
sector_at-s-requires c =
    let a = c.args in
    let q = c.requires in
    let p = c.payload_of-p.result in
    let pos : 0 < p = omega (arith, c.payload_of-p.ensures) in
    let last : suc ((a.b.size - 1) / p) ≡ parts_in a.b = last_part p pos a.b.size q.1 ∙ ap (λ (x : ℕ). parts_of x a.b.size) c.payload_of-p.ensures in
    (q.0, omega (arith, last))

pub slice_bounds-is_zero-count : goal.slice_bounds-is_zero-count
slice_bounds-is_zero-count c =
    let a = c.args in
    let q = c.requires in
    let p = c.payload_of-p.result in
    let pos : 0 < p = omega (arith, c.payload_of-p.ensures) in
    omega (arith, c.payload_of-p.ensures, last-bounds p pos a.b.size q.1)

pub slice_bounds-is_zero-start : goal.slice_bounds-is_zero-start
slice_bounds-is_zero-start c =
    let a = c.args in
    let q = c.requires in
    let p = c.payload_of-p.result in
    let pos : 0 < p = omega (arith, c.payload_of-p.ensures) in
    omega (arith, c.payload_of-p.ensures, last-bounds p pos a.b.size q.1)

pub slice_bounds-is_zero-end : goal.slice_bounds-is_zero-end
slice_bounds-is_zero-end c =
    let a = c.args in
    let q = c.requires in
    let p = c.payload_of-p.result in
    let pos : 0 < p = omega (arith, c.payload_of-p.ensures) in
    let log = joined a.runs.end.0 a.runs.log.now a.runs.waiting.now in
    omega (arith, ap length c.sector_at-s.ensures ∙ length_at log _, c.payload_of-p.ensures, last-bounds p pos a.b.size q.1)

pub returns : goal.returns
returns c =
    let a = c.args in
    let log = joined a.runs.end.0 a.runs.log.now a.runs.waiting.now in
    let q = c.requires in
    let sector-at = c.sector_at-s in
    let p = c.payload_of-p in
    c.is_zero.ensures ∙ ap zeros (rest-zeros a.b.label q.2.1 log _ a.b.first.0 a.b.size p.result q.1 p.ensures sector-at.ensures)
