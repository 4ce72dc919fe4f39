-- What is promised of burst errors: they show in the CRC.
use Rattle.std.specs.Prelude.{◌≡◌, List, ℕ}
use Rattle.crc32_rule.specs.Crc32.{Bytes, crc32_of}
use Rattle.crc32_rule.specs.Burst.{ByteBurst, BitBurst}

-- two messages that differ at most within four neighbouring bytes and have one CRC are equal
abbrev pub BytesShow : Type 0
BytesShow = (a b : List ℕ) → Bytes a → Bytes b → ByteBurst a b → crc32_of a ≡ crc32_of b → a ≡ b

-- the same of 32 neighbouring bits
abbrev pub BitsShow : Type 0
BitsShow = (a b : List ℕ) → Bytes a → Bytes b → BitBurst a b → crc32_of a ≡ crc32_of b → a ≡ b
