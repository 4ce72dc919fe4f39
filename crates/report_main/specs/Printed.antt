-- What the program prints of the bytes on standard input.
use Rattle.std.specs.Prelude.{cond, [], ◌∷◌, ◌*◌, leb, length}
use Rattle.buffer.specs.Bytes.{Bytes}
use Rattle.sector_log.specs.LookUp.{log_allowed}
use Rattle.report.specs.Report.{report_text}
use Rattle.sector.specs.Sector.{sector_length}

-- "why=03 and a line feed"
abbrev pub why : Bytes
why = 119 ∷ 104 ∷ 121 ∷ 61 ∷ 48 ∷ 51 ∷ 10 ∷ []

-- "The program takes a log of at most 127 sectors on standard input, else it prints why=03 and a line feed"
unfoldable pub printed : Bytes → Bytes
printed log = cond (leb (length log) (127 * sector_length)) (cond (log_allowed (length log)) (report_text log) why) why
