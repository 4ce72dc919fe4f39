-- The report of a blank log of two sectors, as the definitions have it.
use mathlib.Core.Path.{◌≡◌, refl}
use mathlib.Core.List.{[], ◌∷◌}
use lib.ListN.{replicate}
use Rattle.bedrock.specs.Places.{found_from}
use Rattle.sector.specs.Sector.{is_date, is_dated, date_field}
use Rattle.hexadecimal.specs.Hex.{char_digit, read_bytes}
use Rattle.digits.specs.Number.{value_from}
use Rattle.block.specs.Log.{at, used_of, used, sound_as, sound}
use Rattle.sector_log.specs.LookUp.{blocks, outside, doubtful}
use Rattle.print.specs.Text.{digits, decimal, verdict, text_of}
use Rattle.report.specs.Report.{report_text}

blank_report : report_text (replicate 1024 0)
    ≡ 115 ∷ 101 ∷ 99 ∷ 116 ∷ 111 ∷ 114 ∷ 115 ∷ 61 ∷ 50 ∷ 10
    ∷ 117 ∷ 115 ∷ 101 ∷ 100 ∷ 61 ∷ 48 ∷ 10
    ∷ 114 ∷ 101 ∷ 99 ∷ 111 ∷ 114 ∷ 100 ∷ 115 ∷ 61 ∷ 48 ∷ 10
    ∷ 100 ∷ 111 ∷ 117 ∷ 98 ∷ 116 ∷ 102 ∷ 117 ∷ 108 ∷ 61 ∷ 48 ∷ 10
    ∷ 118 ∷ 101 ∷ 114 ∷ 100 ∷ 105 ∷ 99 ∷ 116 ∷ 61 ∷ 115 ∷ 111 ∷ 117 ∷ 110 ∷ 100 ∷ 10
    ∷ []
unfolding report_text text_of decimal digits verdict doubtful outside blocks found_from sound sound_as used used_of at date_field is_dated is_date char_digit value_from read_bytes
blank_report = refl
