use mathlib.Core.Path.{refl}
use Rattle.keep.proofs.Kept.{below-refused, below-done}
use Rattle.keep.proofs.keep.Goals as goal

-- `keep::keep` meets its contract: by how all below the block ended.
pub returns-in_default : goal.returns-in_default
returns-in_default c =
    let a = c.args in
    record { count = refl; exact = below-refused a.second.now a.date.now a.kind _ a.below _ c.in_default.is }

pub returns : goal.returns
returns c =
    let a = c.args in
    record { count = refl; exact = below-done a.second.now a.date.now a.kind _ a.below c.in-Ok.is _ _ c.store_block-stored.ensures }
