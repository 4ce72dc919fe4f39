-- A date.
use Rattle.std.specs.Prelude.{Bool, true, ◌&&◌, [], ◌∷◌, leb, eqb, length}
use Rattle.buffer.specs.Bytes.{Bytes}

-- "eight decimal digits": bytes 0x30 to 0x39, and no calendar
abbrev pub decimals : Bytes → Bool
decimals [] = true
decimals (b ∷ bs) = (leb 48 b && leb b 57) && decimals bs

unfoldable pub is_date : Bytes → Bool
is_date d = eqb (length d) 8 && decimals d
