-- A report and a sound block: what a caller reads back from the number is what the definition says.
use Rattle.std.specs.Prelude.{◌≡◌, cond, ℕ, length, Ok, Err, Result}
use Rattle.buffer.specs.Bytes.{Bytes}
use Rattle.refusal.specs.Number.{number_of}
use Rattle.refusal.specs.declared.Refusal.TheVariants.{LogLength}
use Rattle.block.specs.Log.{sound}
use Rattle.sector_log.specs.LookUp.{log_allowed}
use Rattle.survey_calls.specs.Survey.{report_number, text_length, sound_result, size_of}
use Rattle.results.specs.Unpacked.{number_in, answer_in}
use Rattle.refusal.specs.declared.Refusal.{Refusal}

-- a report: the number, 0 where it is written, and the length of its text
abbrev pub reported_number : Result ℕ Refusal → ℕ
reported_number (Ok n) = 0
reported_number (Err w) = number_of w

abbrev pub ReportUnpacks : Type 0
ReportUnpacks = (r : Result ℕ Refusal) → (number_in (report_number r) ≡ reported_number r) × (answer_in (report_number r) ≡ text_length r)

-- the size of a sound block, in a log that is allowed; else refusal 3
abbrev pub SoundUnpacks : Type 0
SoundUnpacks = (log : Bytes) (n : ℕ)
    → (number_in (sound_result log n) ≡ cond (log_allowed (length log)) 0 (number_of LogLength))
    × (answer_in (sound_result log n) ≡ cond (log_allowed (length log)) (size_of (sound log n)) 0)
