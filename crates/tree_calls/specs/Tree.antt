-- A run of a file's bytes packed into one number, and unpacked again; the answer of filling a buffer in one number.
use Rattle.std.specs.Prelude.{ℕ, ◌+◌, ◌*◌, ◌/◌, ◌%◌, Ok, Err, Result, ⊤}
use Rattle.buffer.specs.Bytes.{Bytes}
use Rattle.refusal.specs.Number.{number_of, told_sector}
use Rattle.file.specs.declared.Located.{Located}
use Rattle.file.specs.declared.Located.TheVariants.{Stored, Waiting, Zeros}
use Rattle.fill.specs.declared.Filled.{Filled}
use Rattle.fill.specs.Fill.{stop_number, FillOutcome}
use Rattle.results.specs.Sizes.{above_length}
use Rattle.refusal.specs.declared.Refusal.{Refusal}

-- in the lowest 8 bits the number of the refusal, 0 for none; then 2 bits for the slice in which the run lies, 0 for the log, 1 for the waiting part, 2 for the page;
-- 16 bits of length; and the start, or for 12 the doubtful sector
abbrev pub packed : Result Located Refusal → ℕ
packed (Ok (Stored at n)) = 256 * (4 * (n + above_length * at))
packed (Ok (Waiting at n)) = 256 * (1 + 4 * (n + above_length * at))
packed (Ok (Zeros n)) = 256 * (2 + 4 * n)
packed (Err w) = number_of w + 256 * (4 * (above_length * told_sector w))

-- what a caller reads: the number, the slice in which the run lies, its start there and its length
pub record Run : Type 0 where
  pub number : ℕ
  pub slice : ℕ
  pub start : ℕ
  pub length : ℕ

abbrev pub run : ℕ → ℕ → ℕ → ℕ → Run
run number slice start length = record { number = number; slice = slice; start = start; length = length }

unfoldable pub unpacked : ℕ → Run
unpacked r = run (r % 256) (r / 256 % 4) (r / 256 / 4 / above_length) (r / 256 / 4 % above_length)

-- the same of a located run; a refusal has no bytes, and its start is the sector that it tells of
abbrev pub run_of : Result Located Refusal → Run
run_of (Ok (Stored at n)) = run 0 0 at n
run_of (Ok (Waiting at n)) = run 0 1 at n
run_of (Ok (Zeros n)) = run 0 2 0 n
run_of (Err w) = run (number_of w) 0 (told_sector w) 0

-- the number of the refusal, 0 for none, and 256 times the count of the bytes written
abbrev pub filled_number : Filled → ℕ
filled_number f = stop_number f.stop + 256 * f.count

-- the sector that the end of filling tells of, 0 where it tells of none
abbrev pub stop_sector : Result ⊤ Refusal → ℕ
stop_sector (Ok tt) = 0
stop_sector (Err w) = told_sector w

-- what filling a buffer gives: its result, what the lent buffer then holds, and what the lent number is: "the answer has the sector beside the number 12"
pub record Fill : Type 0 where
  pub result : ℕ
  pub buffer : Bytes
  pub told : ℕ

abbrev pub filled_up : ℕ → Bytes → ℕ → Fill
filled_up r b t = record { result = r; buffer = b; told = t }

abbrev pub fill_result : FillOutcome → Fill
fill_result o = filled_up (filled_number o.filled) o.buffer (stop_sector o.filled.stop)
