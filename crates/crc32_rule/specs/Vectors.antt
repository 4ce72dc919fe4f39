-- The rule's known value: the CRC-32 of the characters 123456789.
use Rattle.std.specs.Prelude.{◌≡◌, [], ◌∷◌}
use Rattle.crc32_rule.specs.Crc32.{crc32_of}

abbrev pub OfNineDigits : Type 0
OfNineDigits = crc32_of (49 ∷ 50 ∷ 51 ∷ 52 ∷ 53 ∷ 54 ∷ 55 ∷ 56 ∷ 57 ∷ []) ≡ 0xCBF4_3926
