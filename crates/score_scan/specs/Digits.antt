-- Which sectors the scan judges.
use Rattle.std.specs.Prelude.{Bool, ◌||◌, ℕ, ◌+◌, ◌-◌, take, drop}
use Rattle.buffer.specs.Bytes.{Bytes, same}
use Rattle.sector.specs.Sector.{front_length, score_place, score_width}

-- where a line of a processor's cache starts that has digits of the score in either edition
abbrev pub line_start : ℕ
line_start = 64

-- a sector may hold a block of the score with these digits: in the second edition they stand from byte 69 on, and in the first the last 31 of them from
-- byte 64 on. Bytes 64 to 109 are in that line
unfoldable pub may_hold : Bytes → Bytes → Bool
may_hold s digits =
    same (take score_width (drop (front_length + score_place) s)) digits
    || same (take (score_place + score_width - line_start) (drop line_start s)) (drop (line_start - score_place) digits)
