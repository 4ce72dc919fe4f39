-- A log's report and its sound blocks, in numbers and byte strings.
use Rattle.std.specs.Prelude.{cond, ℕ, ◌*◌, length, Ok, Err, Result}
use Rattle.std.proofs.Math.Option.{Option, none, some}
use Rattle.buffer.specs.Bytes.{Bytes}
use Rattle.refusal.specs.Number.{number_of}
use Rattle.refusal.specs.declared.Refusal.TheVariants.{LogLength}
use Rattle.block.specs.Block.{Row}
use Rattle.block.specs.Log.{sound}
use Rattle.sector_log.specs.LookUp.{log_allowed}
use Rattle.report.specs.Report.{ReportOutcome}
use Rattle.refusal.specs.declared.Refusal.{Refusal}

-- 256 times the length of the text, at most 128, or the number of the refusal
abbrev pub report_number : Result ℕ Refusal → ℕ
report_number (Ok n) = 256 * n
report_number (Err w) = number_of w

-- the length of the text, none where it is refused
abbrev pub text_length : Result ℕ Refusal → ℕ
text_length (Ok n) = n
text_length (Err w) = 0

-- what a report gives: its result, and what the lent buffer then holds
pub record Report : Type 0 where
  pub result : ℕ
  pub buffer : Bytes

abbrev pub reported : ℕ → Bytes → Report
reported r b = record { result = r; buffer = b }

abbrev pub report_result : ReportOutcome → Report
report_result o = reported (report_number o.answer) o.buffer

-- the size of a sound block, and 0 where there is none: a sound block has at least one byte
abbrev pub size_of : Option Row → ℕ
size_of none = 0
size_of (some r) = length r.bytes

-- 256 times the size of the sound block that starts at sector n, 0 where none does; refusal 3 for a log that is not allowed
unfoldable pub sound_result : Bytes → ℕ → ℕ
sound_result log n = cond (log_allowed (length log)) (256 * size_of (sound log n)) (number_of LogLength)
