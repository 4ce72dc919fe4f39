use mathlib.Core.Path.{ap, ◌∙◌}
use native.Mathlib.Omega.{arith}
use lib.ListN.{length-take}
use Rattle.buffer.specs.Bytes.{Bytes}
use Rattle.sector_log.specs.Parts.{beside}
use Rattle.sector_log.specs.Store.{store}
use Rattle.writer.proofs.Cutting.{cut_bytes, cut_fits}
use Rattle.write.proofs.store_cut.Goals as goal

pub slice_bounds-store-end : goal.slice_bounds-store-end
slice_bounds-store-end c = let a = c.args in
    let f = cut_fits a.kind a.block.now _ (c.cut_length-n.ensures) in simp length-take (omega (arith, f))

pub store-requires : goal.store-requires
store-requires c = (simp length-take (omega (arith, (c.requires.0))), (c.requires.1))

pub returns : goal.returns
returns c = let a = c.args in
    let cut-length = c.cut_length-n in
    (c.store.ensures) ∙ ap (λ (x : Bytes). store (beside a.log.now a.waiting.now) a.date.now a.kind x) (cut_bytes a.kind a.block.now _ cut-length.ensures)
