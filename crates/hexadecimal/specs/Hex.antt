-- Numbers and byte strings in lower-case hexadecimal. Assumes nothing: these are definitions.
use Rattle.std.specs.Prelude.{Bool, true, false, cond, Option, Some, None, List, [], ◌∷◌, ◌++◌, map, ℕ, zero, suc, ◌+◌, ◌-◌, ◌/◌, ◌%◌, ltb}
use Rattle.digits.specs.Number.{value_from, below}

-- the character of a digit: 0 to 9, a to f
unfoldable pub digit_char : ℕ → ℕ
digit_char d = cond (ltb d 10) (48 + d) (87 + d)

-- the digit of a character, and 16 of one that is none
unfoldable pub char_digit : ℕ → ℕ
char_digit c = cond (ltb c 58) (cond (ltb c 48) 16 (c - 48)) (cond (ltb c 97) 16 (cond (ltb c 103) (c - 87) 16))

-- the w hex digits of n
unfoldable pub hex : ℕ → ℕ → List ℕ
hex zero n = []
hex (suc w) n = hex w (n / 16) ++ (digit_char (n % 16) ∷ [])

-- every character is a hex digit
abbrev pub is_hex : List ℕ → Bool
is_hex s = below 16 (map char_digit s)

-- the number that hex digits make after a
abbrev pub hex_from : ℕ → List ℕ → ℕ
hex_from a s = value_from 16 a (map char_digit s)

-- the number that hex digits make
abbrev pub hex_value : List ℕ → ℕ
hex_value s = hex_from 0 s

-- the number read from characters after a, none if one of them is no hex digit
unfoldable pub read_from : ℕ → List ℕ → Option ℕ
read_from a s = cond (is_hex s) (Some (hex_from a s)) None

-- the number read from characters
abbrev pub read_hex : List ℕ → Option ℕ
read_hex s = read_from 0 s

-- bytes as hex digits, two for each
unfoldable pub hex_bytes : List ℕ → List ℕ
hex_bytes [] = []
hex_bytes (a ∷ x) = hex 2 a ++ hex_bytes x

-- the bytes that hex digits make, two for each
unfoldable pub read_bytes : List ℕ → List ℕ
read_bytes [] = []
read_bytes (a ∷ []) = []
read_bytes (a ∷ (b ∷ s)) = hex_value (a ∷ b ∷ []) ∷ read_bytes s

-- whether a place was read from hex digits, and what it then holds
pub record Reading : Type 0 where
  pub read : Bool
  pub bytes : List ℕ

-- the two together
abbrev pub reading : Bool → List ℕ → Reading
reading r d = record { read = r; bytes = d }

-- a place d read from the characters s: as it was if one of them is no hex digit
unfoldable pub read_hex_bytes : List ℕ → List ℕ → Reading
read_hex_bytes s d = cond (is_hex s) (reading true (read_bytes s)) (reading false d)
