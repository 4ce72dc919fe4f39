-- Look-up by index: what a caller reads back from the number is what the definition says.
use Rattle.std.specs.Prelude.{◌≡◌, ℕ, ◌/◌, ◌%◌, Ok, Err, Result}
use Rattle.buffer.specs.Bytes.{Bytes}
use Rattle.refusal.specs.Number.{told_sector}
use Rattle.sector_log.specs.LookUp.{look_number}
use Rattle.hint.specs.Hint.{look_up_by_asked}
use Rattle.index_calls.specs.Hints.{look_result}
use Rattle.results.specs.Sizes.{above_length}
use Rattle.results.specs.Unpacked.{number_in}
use Rattle.block.specs.declared.Block.{Block}
use Rattle.refusal.specs.declared.Refusal.{Refusal}

-- look-up by index: the number, the size of the block, and its first sector, or the one that a refusal tells of
abbrev pub size_in : ℕ → ℕ
size_in r = r / 256 % above_length

abbrev pub first_in : ℕ → ℕ
first_in r = r / 256 / above_length

abbrev pub size_found : Result Block Refusal → ℕ
size_found (Ok b) = b.size
size_found (Err w) = 0

abbrev pub first_told : Result Block Refusal → ℕ
first_told (Ok b) = b.first.0
first_told (Err w) = told_sector w

abbrev pub LookUnpacks : Type 0
LookUnpacks = (log waiting index : Bytes) (t : ℕ) (s : Bytes)
    → let l = look_up_by_asked log waiting index t s in
    (number_in (look_result l) ≡ look_number l) × (size_in (look_result l) ≡ size_found l) × (first_in (look_result l) ≡ first_told l)
