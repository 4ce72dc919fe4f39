-- The text of a report, by "Checked examples".
use Rattle.std.specs.Prelude.{cond, [], ◌∷◌, ◌++◌, ℕ, zero, suc, ◌+◌, ◌/◌, ◌%◌, ltb, eqb}
use Rattle.buffer.specs.Bytes.{Bytes}
use Rattle.sector.specs.Sector.{line, lines}
use Rattle.survey.specs.declared.Survey.{Survey}

-- "numbers are decimal": the digits of n without leading zeros, at most w of them; and all of them, of which n + 1 are always enough
unfoldable pub digits : ℕ → ℕ → Bytes
digits zero n = []
digits (suc w) n = cond (ltb n 10) ((48 + n) ∷ []) (digits w (n / 10) ++ ((48 + n % 10) ∷ []))

unfoldable pub decimal : ℕ → Bytes
decimal n = digits (suc n) n

-- the names, as bytes: sectors= used= records= doubtful= verdict=
abbrev pub sectors_name : Bytes
sectors_name = 115 ∷ 101 ∷ 99 ∷ 116 ∷ 111 ∷ 114 ∷ 115 ∷ 61 ∷ []

abbrev pub used_name : Bytes
used_name = 117 ∷ 115 ∷ 101 ∷ 100 ∷ 61 ∷ []

abbrev pub records_name : Bytes
records_name = 114 ∷ 101 ∷ 99 ∷ 111 ∷ 114 ∷ 100 ∷ 115 ∷ 61 ∷ []

abbrev pub doubtful_name : Bytes
doubtful_name = 100 ∷ 111 ∷ 117 ∷ 98 ∷ 116 ∷ 102 ∷ 117 ∷ 108 ∷ 61 ∷ []

abbrev pub verdict_name : Bytes
verdict_name = 118 ∷ 101 ∷ 114 ∷ 100 ∷ 105 ∷ 99 ∷ 116 ∷ 61 ∷ []

-- the verdicts, as bytes: sound notknown
abbrev pub sound_text : Bytes
sound_text = 115 ∷ 111 ∷ 117 ∷ 110 ∷ 100 ∷ []

abbrev pub not_known_text : Bytes
not_known_text = 110 ∷ 111 ∷ 116 ∷ 107 ∷ 110 ∷ 111 ∷ 119 ∷ 110 ∷ []

-- "the verdict is notknown when doubtful isn't 0"
unfoldable pub verdict : ℕ → Bytes
verdict n = cond (eqb n 0) sound_text not_known_text

-- "whole, each line ended by a line feed": the five lines
unfoldable pub text_of : ℕ → ℕ → Survey → Bytes
text_of count end s =
    lines
    (line sectors_name (decimal count)
    ∷ line used_name (decimal end)
    ∷ line records_name (decimal s.records)
    ∷ line doubtful_name (decimal s.doubtful)
    ∷ line verdict_name (verdict s.doubtful)
    ∷ [])
