-- The rule's known value, computed. Assumes nothing.
use mathlib.Core.Path.{refl}
use Rattle.crc32_rule.specs.Crc32.{bit, bits, byte, crc32_of}
use Rattle.crc32_rule.specs.Vectors.{OfNineDigits}

pub nine-digits : OfNineDigits
unfolding bit bits byte crc32_of
nine-digits = refl
