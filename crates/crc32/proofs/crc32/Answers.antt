use mathlib.Core.Path.{ap}
use Prim.Native.Nat.{ℕ}
use lib.Bits.{bit_xor}
use Rattle.crc32_rule.specs.Crc32.{all_ones, crc32_of}
use Rattle.crc32.proofs.crc32.Goals as goal

pub returns-then-s-lt16 : goal.returns-then-s-lt16
unfolding crc32_of
returns-then-s-lt16 c = ap (λ (x : ℕ). bit_xor x all_ones) c.update.ensures

pub returns-then-s-lt128 : goal.returns-then-s-lt128
unfolding crc32_of
returns-then-s-lt128 c = ap (λ (x : ℕ). bit_xor x all_ones) c.rest.ensures
