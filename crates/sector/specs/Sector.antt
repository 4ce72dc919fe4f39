-- "A sector of the log": a label, a payload that fills it up to 499 bytes, 13 bytes of check. The label is the six lines of the first edition,
-- 96 bytes; in the second edition the line of a date stands before them.
use Rattle.std.specs.Prelude.{Bool, true, cond, ◌&&◌, List, [], ◌∷◌, ◌++◌, ℕ, ◌+◌, ◌-◌, length, take, drop, replicate}
use Rattle.buffer.specs.Bytes.{Bytes, same}
use Rattle.hexadecimal.specs.Hex.{hex, hex_bytes, hex_value, read_bytes}
use Rattle.crc32_rule.specs.Crc32.{crc32_of}
use Rattle.sector.specs.declared.Label.{Label}
unfoldable pub use Rattle.date.specs.Date.{is_date}

-- "The log is sectors of 512 bytes"
abbrev pub sector_length : ℕ
sector_length = 512

-- label and payload, the bytes that the check is over
abbrev pub body_length : ℕ
body_length = 499

-- the line of a date, before a label's lines
abbrev pub front_length : ℕ
front_length = 14

-- the six lines of a label
abbrev pub lines_length : ℕ
lines_length = 96

-- how many digits a date has, and where they stand in its line
abbrev pub date_width : ℕ
date_width = 8

abbrev pub date_place : ℕ
date_place = 5

-- how many digits each line of a label has; that of the parts has as many as that of a part
abbrev pub rec_width : ℕ
rec_width = 8

abbrev pub part_width : ℕ
part_width = 4

abbrev pub kind_width : ℕ
kind_width = 2

abbrev pub size_width : ℕ
size_width = 4

abbrev pub score_width : ℕ
score_width = 40

-- where the digits stand among the six lines
abbrev pub rec_place : ℕ
rec_place = 4

abbrev pub kind_place : ℕ
kind_place = 36

abbrev pub size_place : ℕ
size_place = 44

abbrev pub score_place : ℕ
score_place = 55

-- the line of the score: its name, its digits and a line feed
abbrev pub score_line_length : ℕ
score_line_length = 47

-- "each ended by one line feed": a line is its name with "=", the value's digits and a line feed
abbrev pub line : Bytes → Bytes → Bytes
line name value = name ++ (value ++ (10 ∷ []))

-- "lines in a fixed order"
abbrev pub lines : List Bytes → Bytes
lines [] = []
lines (l ∷ ls) = l ++ lines ls

-- the names, as bytes: date= rec= part= of= type= size= score= crc=
abbrev pub date_name : Bytes
date_name = 100 ∷ 97 ∷ 116 ∷ 101 ∷ 61 ∷ []

abbrev pub rec_name : Bytes
rec_name = 114 ∷ 101 ∷ 99 ∷ 61 ∷ []

abbrev pub part_name : Bytes
part_name = 112 ∷ 97 ∷ 114 ∷ 116 ∷ 61 ∷ []

abbrev pub of_name : Bytes
of_name = 111 ∷ 102 ∷ 61 ∷ []

abbrev pub type_name : Bytes
type_name = 116 ∷ 121 ∷ 112 ∷ 101 ∷ 61 ∷ []

abbrev pub size_name : Bytes
size_name = 115 ∷ 105 ∷ 122 ∷ 101 ∷ 61 ∷ []

abbrev pub score_name : Bytes
score_name = 115 ∷ 99 ∷ 111 ∷ 114 ∷ 101 ∷ 61 ∷ []

abbrev pub crc_name : Bytes
crc_name = 99 ∷ 114 ∷ 99 ∷ 61 ∷ []

-- "rec= (8 digits, the sector number where the block starts), part= (4), of= (4), type= (2), size= (4, bytes in the block), score= (40)"
abbrev pub label_lines : Label → Bytes → List Bytes
label_lines l score =
    line rec_name (hex rec_width l.first.0)
    ∷ line part_name (hex part_width l.part)
    ∷ line of_name (hex part_width l.of)
    ∷ line type_name (hex kind_width l.kind)
    ∷ line size_name (hex size_width l.size)
    ∷ line score_name (hex_bytes score)
    ∷ []

unfoldable pub label_of : Label → Bytes → Bytes
label_of l score = lines (label_lines l score)

-- a date, or none
abbrev pub is_date_or_none : Bytes → Bool
is_date_or_none [] = true
is_date_or_none (b ∷ bs) = is_date (b ∷ bs)

-- "A second edition of the label has a first line date= with eight decimal digits"; the first edition has no date, and nothing before its lines
abbrev pub front_of : Bytes → Bytes
front_of [] = []
front_of (b ∷ bs) = line date_name (b ∷ bs)

-- the label of a sector, whole: 96 bytes, or 110 behind a date's line
abbrev pub dated_label : Bytes → Label → Bytes → Bytes
dated_label date l score = front_of date ++ label_of l score

-- how long it is
abbrev pub label_length : Bytes → ℕ
label_length date = length (front_of date) + lines_length

-- how long the payload is behind it: 403, or 389
abbrev pub payload_of : ℕ → ℕ
payload_of label = body_length - label

-- "told apart by the first line": whether a sector begins with a date's line, and that date, or none
unfoldable pub is_dated : Bytes → Bool
is_dated s = same (take front_length s) (line date_name (take date_width (drop date_place s))) && is_date (take date_width (drop date_place s))

unfoldable pub date_field : Bytes → Bytes
date_field s = cond (is_dated s) (take date_width (drop date_place s)) []

-- a sector's bytes behind the line of its date
abbrev pub behind : Bytes → Bytes
behind s = drop (length (front_of (date_field s))) s

-- what the digits at their places in the six lines say; characters that are no digits make some number too, whose label isn't these bytes
abbrev pub rec_field : Bytes → ℕ
rec_field s = hex_value (take rec_width (drop rec_place s))

abbrev pub kind_digits : Bytes → Bytes
kind_digits s = take kind_width (drop kind_place s)

abbrev pub kind_field : Bytes → ℕ
kind_field s = hex_value (kind_digits s)

abbrev pub size_field : Bytes → ℕ
size_field s = hex_value (take size_width (drop size_place s))

abbrev pub score_digits : Bytes → Bytes
score_digits s = take score_width (drop score_place s)

abbrev pub score_field : Bytes → Bytes
score_field s = read_bytes (score_digits s)

-- "then crc= (8)": the line of the check over the bytes before it
unfoldable pub check : Bytes → Bytes
check body = line crc_name (hex 8 (crc32_of body))

-- "over the first 499 bytes; it fits when the last 13 bytes are exactly its line"
unfoldable pub fits : Bytes → Bool
fits s = same (drop body_length s) (check (take body_length s))

-- data filled up with zeros, or cut, to n bytes
unfoldable pub filled : ℕ → Bytes → Bytes
filled n d = take n (d ++ replicate n 0)

-- a sector: a label, a payload that fills it up to 499 bytes, and the check
unfoldable pub encode : Bytes → Bytes → Bytes
encode label d = let body = label ++ filled (body_length - length label) d in body ++ check body

-- "A blank sector is all zeros"
unfoldable pub blank : Bytes
blank = replicate sector_length 0
