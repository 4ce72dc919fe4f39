-- Look-up by index and rebuilding, in numbers and byte strings.
use Rattle.std.specs.Prelude.{ℕ, ◌+◌, ◌*◌, ◌≤◌, Ok, Err, Result}
use Rattle.buffer.specs.Bytes.{Bytes}
use Rattle.refusal.specs.Number.{number_of, told_sector}
use Rattle.kind.specs.Kind.{longest}
use Rattle.results.specs.Sizes.{most_both, above_length}
use Rattle.hint.specs.Rebuilt.{AfterRebuild, rebuilding_number}
use Rattle.block.specs.declared.Block.{Block}
use Rattle.refusal.specs.declared.Refusal.{Refusal}

-- a block that was found: its size in 16 bits above the lowest 8, and its first sector above both; a refusal is its number, and in the place of the first sector
-- the one that it tells of, 0 where it tells of none
abbrev pub look_result : Result Block Refusal → ℕ
look_result (Ok b) = 256 * (b.size + above_length * b.first.0)
look_result (Err w) = number_of w + 256 * (above_length * told_sector w)

-- what look-up tells is small: the size of a block, a sector of the longest log and waiting part
abbrev pub SmallLook : Result Block Refusal → Type 0
SmallLook (Ok b) = (b.size ≤ longest) × (b.first.0 ≤ most_both)
SmallLook (Err w) = told_sector w ≤ most_both

-- what a rebuilding gives: its number, 0 for none, and what the index then holds
pub record RebuiltIndex : Type 0 where
  pub result : ℕ
  pub index : Bytes

abbrev pub rebuilt_index : ℕ → Bytes → RebuiltIndex
rebuilt_index r index = record { result = r; index = index }

abbrev pub rebuild_result : AfterRebuild → RebuiltIndex
rebuild_result a = rebuilt_index (rebuilding_number a.answer) a.index
