use mathlib.Core.Path.{ap, ◌∙◌}
use Prim.Native.Nat.{ℕ, ◌+◌, ◌*◌, ◌≤◌, ◌<◌}
use native.Mathlib.Omega.{arith}
use lib.ListN.{length, length-take}
use Rattle.buffer.specs.Bytes.{Bytes}
use Rattle.block.specs.Block.{parts_of}
use Rattle.append.proofs.Images.{part_start}
use Rattle.sector_log.specs.Parts.{beside}
use Rattle.sector_log.specs.Store.{store}
use Rattle.tree.specs.Tree.{piece}
use Rattle.cut.specs.Cut.{unit_of, whole_units}
use Rattle.writer.specs.Blocks.{cut_block}
use Rattle.write.proofs.OnePiece.{part_piece}
use Rattle.write.proofs.store_piece.Goals as goal

-- `write::store_piece` meets its contract: the part that is stored is the piece.
-- where the piece begins
begins : (width i : ℕ) (source : Bytes) → 1 ≤ width → i < parts_of width (length source) → width * i + 1 ≤ length source
begins width i source pos h = omega (arith, part_start width (length source) i pos h)

pub overflow_mul-at : goal.overflow_mul-at
overflow_mul-at c =
    let a = c.args in
    let p = c.requires in
    omega (arith, begins a.width a.i a.source.now p.2 p.5, p.4)

pub overflow_add-at : goal.overflow_add-at
overflow_add-at c =
    let a = c.args in
    let p = c.requires in
    omega (arith, begins a.width a.i a.source.now p.2 p.5, p.3, p.4)

pub slice_bounds-store_cut-count : goal.slice_bounds-store_cut-count
slice_bounds-store_cut-count c =
    let a = c.args in
    let p = c.requires in
    omega (arith, begins a.width a.i a.source.now p.2 p.5, c.min-to.ensures)

pub slice_bounds-store_cut-start : goal.slice_bounds-store_cut-start
slice_bounds-store_cut-start c =
    let a = c.args in
    let p = c.requires in
    omega (arith, begins a.width a.i a.source.now p.2 p.5, c.min-to.ensures)

pub slice_bounds-store_cut-end : goal.slice_bounds-store_cut-end
slice_bounds-store_cut-end c = omega (arith, c.min-to.ensures)

pub store_cut-requires : goal.store_cut-requires
store_cut-requires c =
    let a = c.args in
    let p = part_piece a.width a.i c.min-to.result a.source.now c.min-to.ensures in
    let short : length (piece a.width a.i a.source.now) ≤ a.width = simp length-take (omega arith) in
    (omega (arith, ap length p, short, c.requires.3), c.requires.0, c.requires.1, ap (λ (x : Bytes). whole_units (unit_of a.kind) (length x)) p ∙ c.requires.6)

pub returns : goal.returns
returns c =
    let a = c.args in
    c.store_cut.ensures
    ∙ ap (λ (x : Bytes). store (beside a.log.now a.waiting.now) a.date.now a.kind (cut_block a.kind x))
    (part_piece a.width a.i c.min-to.result a.source.now c.min-to.ensures)
