-- The report of a log, by "Checked examples": its text, and where it goes.
use Rattle.std.specs.Prelude.{ℕ, cond, ltb, length, Ok, Err, Result}
use Rattle.buffer.specs.Bytes.{Bytes, put}
use Rattle.refusal.specs.declared.Refusal.TheVariants.{Buffer, LogLength}
use Rattle.block.specs.Log.{sectors, used}
use Rattle.sector_log.specs.LookUp.{log_allowed}
use Rattle.survey.specs.Survey.{survey_of}
use Rattle.print.specs.Text.{text_of}
use Rattle.refusal.specs.declared.Refusal.{Refusal}

-- "used counts the sectors of the used part": the text of a log
unfoldable pub report_text : Bytes → Bytes
report_text log = text_of (sectors (length log)) (used log) (survey_of log)

-- what the call answers, and what the lent buffer then holds
pub record ReportOutcome : Type 0 where
  pub answer : Result ℕ Refusal
  pub buffer : Bytes

abbrev pub report_outcome : Result ℕ Refusal → Bytes → ReportOutcome
report_outcome r b = record { answer = r; buffer = b }

-- "It goes to the front of a lent buffer; tests 2, 3"; on refusal, and past the text, the buffer stays
unfoldable pub report_of : Bytes → Bytes → ReportOutcome
report_of log b =
    cond (ltb (length b) 128) (report_outcome (Err Buffer) b)
    (cond (log_allowed (length log)) (report_outcome (Ok (length (report_text log))) (put b 0 (report_text log))) (report_outcome (Err LogLength) b))
