-- A number in a label.
use Rattle.std.specs.Prelude.{cond, ℕ}
use Rattle.buffer.specs.Bytes.{Bytes}
use Rattle.hexadecimal.specs.Hex.{is_hex, hex_value}

-- the number that hex digits make, and 0 where one is none
unfoldable pub number_of : Bytes → ℕ
number_of s = cond (is_hex s) (hex_value s) 0
