-- What is promised of hexadecimal characters: what is written is read back, and what is read is exactly what writing makes.
use Rattle.std.specs.Prelude.{◌≡◌, true, List, ℕ, ◌^◌, ◌<◌, length}
use Rattle.hexadecimal.specs.Hex.{hex, is_hex, hex_value}

-- a number that w hexadecimal characters hold, lower case, is read back from them
abbrev pub ValueOfHex : Type 0
ValueOfHex = (w n : ℕ) → n < 16 ^ w → hex_value (hex w n) ≡ n

-- hexadecimal characters are those of the number that they make
abbrev pub HexOfValue : Type 0
HexOfValue = (s : List ℕ) → is_hex s ≡ true → hex (length s) (hex_value s) ≡ s
