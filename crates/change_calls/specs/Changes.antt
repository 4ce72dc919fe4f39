-- The first difference of two directory blocks, and the differences between two trees, each packed into one number, and unpacked again.
use Rattle.std.specs.Prelude.{◌≡◌, ℕ, ◌+◌, ◌*◌, ◌/◌, ◌%◌, Ok, Err, Result}
use Rattle.buffer.specs.Bytes.{Bytes}
use Rattle.refusal.specs.Number.{number_of}
use Rattle.visit.specs.Visit.{end_number}
use Rattle.difference.specs.declared.Difference.{Difference}
use Rattle.difference.specs.declared.Difference.TheVariants.{First, Second, Nowhere}
use Rattle.difference.specs.Difference.{answer_of}
use Rattle.comparison.specs.declared.Compared.{Compared}
use Rattle.comparison.specs.Differences.{differences_of}
use Rattle.walk_calls.specs.Walked.{end_sector}
use Rattle.results.specs.Sizes.{above_visits}
use Rattle.refusal.specs.declared.Refusal.{Refusal}

-- in the lowest 8 bits the number of the refusal, 0 for none; then 2 bits for the block that has the entry, 0 for none, 1 for the first, 2 for the second; above
-- them the byte at which the entry starts
abbrev pub difference_packed : Result Difference Refusal → ℕ
difference_packed (Ok (First at)) = 256 * (1 + 4 * at)
difference_packed (Ok (Second at)) = 256 * (2 + 4 * at)
difference_packed (Ok Nowhere) = 0
difference_packed (Err w) = number_of w

-- what a caller reads: the number, the block and the byte
pub record Handed : Type 0 where
  pub number : ℕ
  pub block : ℕ
  pub start : ℕ

abbrev pub handed : ℕ → ℕ → ℕ → Handed
handed number block start = record { number = number; block = block; start = start }

unfoldable pub difference_unpacked : ℕ → Handed
difference_unpacked r = handed (r % 256) (r / 256 % 4) (r / 256 / 4)

-- the same of a difference
abbrev pub handed_of : Result Difference Refusal → Handed
handed_of (Ok (First at)) = handed 0 1 at
handed_of (Ok (Second at)) = handed 0 2 at
handed_of (Ok Nowhere) = handed 0 0 0
handed_of (Err w) = handed (answer_of (Err w)) 0 0

abbrev pub DifferenceUnpacks : Type 0
DifferenceUnpacks = (d : Result Difference Refusal) → difference_unpacked (difference_packed d) ≡ handed_of d

-- the number of the refusal, 0 for none; 256 times the units, which take 20 bits; above them the count
abbrev pub compared_number : Compared → ℕ
compared_number c = end_number c.end + 256 * (c.units + above_visits * c.count)

-- what comparing two trees gives: its result, and what the lent number is: "the answer has the sector beside the number 12"
pub record Counts : Type 0 where
  pub result : ℕ
  pub told : ℕ

abbrev pub counts : ℕ → ℕ → Counts
counts r t = record { result = r; told = t }

abbrev pub compared_result : Compared → Counts
compared_result c = counts (compared_number c) (end_sector c.end)

-- the number, the units and the count
abbrev pub DifferencesUnpack : Type 0
DifferencesUnpack = (log waiting x y : Bytes) (allowance : ℕ)
    → let c = differences_of log waiting x y allowance in
    let r = compared_number c in
    (r % 256 ≡ end_number c.end) × (r / 256 % above_visits ≡ c.units) × (r / 256 / above_visits ≡ c.count)
