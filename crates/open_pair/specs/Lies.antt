-- Where the blocks of a pair lie.
use Rattle.std.specs.Prelude.{◌≡◌, ℕ, ◌%◌, ◌≤◌}
use Rattle.kind.specs.Kind.{longest}
use Rattle.block.specs.Block.{Inside}
use Rattle.block.specs.declared.Block.{Block}

-- a block of a level lies before sector `end`, is no longer than a block may be, and above the leaves it is whole scores
pub record Lies (level : ℕ) (b : Block) (end : ℕ) : Type 0 where
  pub before : Inside end b
  pub not_many : b.size ≤ longest
  pub full-scores : (level ≡ 0 → ⊥) → b.size % 20 ≡ 0
