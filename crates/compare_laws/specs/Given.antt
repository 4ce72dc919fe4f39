-- What the two given entries alone decide, whatever the log holds.
use Rattle.std.specs.Prelude.{◌≡◌, true, false, ℕ, ◌≤◌, length, Ok}
use Rattle.buffer.specs.Bytes.{Bytes}
use Rattle.refusal.specs.declared.Refusal.TheVariants.{Entry as EntryRefused}
use Rattle.sector_log.specs.LookUp.{lent_allowed}
use Rattle.entry.specs.Entry.{entry_of, score_of}
use Rattle.walk.specs.Walk.{most_allowance}
use Rattle.verdict.specs.Verdict.{same_shape}
use Rattle.comparison.specs.Compared.{compared, none, refused}
use Rattle.comparison.specs.Differences.{directory_allowed, differences_of}

-- tests 3 and 23 are passed
abbrev pub Passes : Bytes → Bytes → ℕ → Type 0
Passes log waiting allowance = (lent_allowed (length log) (length waiting) ≡ true) × (allowance ≤ most_allowance)

-- "two well-formed active directory entries (else 16)", even if they are equal
abbrev pub NotDirectoryRefused : Type 0
NotDirectoryRefused = (log waiting x : Bytes) (allowance : ℕ) → Passes log waiting allowance → directory_allowed x ≡ false
    → differences_of log waiting x x allowance ≡ refused EntryRefused

-- "any other pair that differs counts one": two directories of different shape, and nothing is read
abbrev pub OtherShapeCountsOne : Type 0
OtherShapeCountsOne = (log waiting x y : Bytes) (allowance : ℕ) → Passes log waiting allowance → directory_allowed x ≡ true → directory_allowed y ≡ true
    → same_shape (entry_of x) (entry_of y) ≡ false → differences_of log waiting x y allowance ≡ compared 1 0 (Ok tt)

-- opened directories count nothing themselves: two of one shape and score, which differ by gen or size alone, give nothing, without a unit
abbrev pub SameScoreIsNone : Type 0
SameScoreIsNone = (log waiting x y : Bytes) (allowance : ℕ) → Passes log waiting allowance → directory_allowed x ≡ true → directory_allowed y ≡ true
    → same_shape (entry_of x) (entry_of y) ≡ true → score_of x ≡ score_of y → differences_of log waiting x y allowance ≡ none
