-- Worked values of the definitions, each computed. Assumes nothing.
use mathlib.Core.Path.{◌≡◌, refl}
use mathlib.Core.Bool.{true, false}
use mathlib.Core.List.{[], ◌∷◌}
use Rattle.digits.specs.Number.{value_from}
use Rattle.std.specs.Prelude.{Some, None}
use Rattle.hexadecimal.specs.Hex.{digit_char, char_digit, hex, read_from, read_hex, hex_bytes, read_bytes, reading, read_hex_bytes}

-- "00c0ffee"
eight : hex 8 0xc0_ffee ≡ 48 ∷ 48 ∷ 99 ∷ 48 ∷ 102 ∷ 102 ∷ 101 ∷ 101 ∷ []
unfolding hex digit_char
eight = refl

-- "09af", and "09AF", whose letters are capital
read : read_hex (48 ∷ 57 ∷ 97 ∷ 102 ∷ []) ≡ Some 0x09af
unfolding read_from value_from char_digit
read = refl

capital : read_hex (48 ∷ 57 ∷ 65 ∷ 70 ∷ []) ≡ None
unfolding read_from char_digit
capital = refl

-- the bytes da 39 are "da39"; "d:39" leaves the place as it was
bytes : hex_bytes (0xda ∷ 0x39 ∷ []) ≡ 100 ∷ 97 ∷ 51 ∷ 57 ∷ []
unfolding hex_bytes hex digit_char
bytes = refl

place : read_hex_bytes (100 ∷ 97 ∷ 51 ∷ 57 ∷ []) (7 ∷ 7 ∷ []) ≡ reading true (0xda ∷ 0x39 ∷ [])
unfolding read_hex_bytes read_bytes value_from char_digit
place = refl

place_kept : read_hex_bytes (100 ∷ 58 ∷ 51 ∷ 57 ∷ []) (7 ∷ 7 ∷ []) ≡ reading false (7 ∷ 7 ∷ [])
unfolding read_hex_bytes char_digit
place_kept = refl
