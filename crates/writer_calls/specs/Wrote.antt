-- A file written, in numbers and byte strings.
use Rattle.std.specs.Prelude.{ℕ}
use Rattle.buffer.specs.Bytes.{Bytes}
use Rattle.sector_log.specs.Parts.{Lent}
use Rattle.writer.specs.WriteFile.{end_number, WriteOutcome}

-- what a call gives: its number ("Outside messages 10, 14 and 15 too are the number only"; 0 for none), what is lent as a log, the entry and the buffer of scores afterwards
pub record WroteFile : Type 0 where
  pub result : ℕ
  pub lent : Lent
  pub entry : Bytes
  pub scores : Bytes

abbrev pub wrote_file : ℕ → Lent → Bytes → Bytes → WroteFile
wrote_file r L entry scores = record { result = r; lent = L; entry = entry; scores = scores }

abbrev pub wrote_result : WriteOutcome → WroteFile
wrote_result o = wrote_file (end_number o.end) o.lent o.entry o.scores
