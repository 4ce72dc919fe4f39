-- The names of antigens, in cards and in queries, and their order.
use Rattle.std.specs.Prelude.{Bool, true, false, not, ◌&&◌, ◌||◌, [], ◌∷◌, ℕ, leb, ltb, eqb, length}
use Rattle.buffer.specs.Bytes.{Bytes, same}

-- 0 to 9, A to Z, a to z
unfoldable pub letter_or_digit : ℕ → Bool
letter_or_digit b = (leb 0x30 b && leb b 0x39) || ((leb 0x41 b && leb b 0x5A) || (leb 0x61 b && leb b 0x7A))

abbrev pub letters_and_digits : Bytes → Bool
letters_and_digits [] = true
letters_and_digits (b ∷ s) = letter_or_digit b && letters_and_digits s

-- "words are lower case, reserved in cards too": and, or, not
unfoldable pub reserved : Bytes → Bool
reserved s = same s (0x61 ∷ 0x6E ∷ 0x64 ∷ []) || (same s (0x6F ∷ 0x72 ∷ []) || same s (0x6E ∷ 0x6F ∷ 0x74 ∷ []))

-- "names 1 to 8 bytes of ASCII letters and digits"
unfoldable pub is_name : Bytes → Bool
is_name s = (leb 1 (length s) && leb (length s) 8) && (not (reserved s) && letters_and_digits s)

-- "in strictly rising byte order": byte by byte, a beginning before its continuation
unfoldable pub before : Bytes → Bytes → Bool
before [] [] = false
before [] (b ∷ y) = true
before (a ∷ x) [] = false
before (a ∷ x) (b ∷ y) = ltb a b || (eqb a b && before x y)
