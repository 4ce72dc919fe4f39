use mathlib.Core.Path.{ap}
use Prim.Native.Nat.{ℕ, ◌+◌, ◌-◌, ◌/◌}
use Rattle.block.specs.Block.{parts_of}
use Rattle.block.proofs.parts_of.Goals as goal

pub returns : goal.returns
unfolding parts_of
returns c = ap (λ (p : ℕ). (c.args.size + (p - 1)) / p) c.payload_of-p.ensures
