-- A checksum has 32 bits. Assumes nothing.
use mathlib.Core.List.{List, [], ◌∷◌}
use Prim.Native.Nat.{ℕ, suc, ◌^◌, ◌<◌}
use native.Mathlib.Omega.{arith}
use lib.Bits.{bit_xor, xor_lt}
use lib.Dec.{lit<}
use Rattle.crc32_rule.specs.Crc32.{Bytes, all_ones, byte, feed, crc32_of}
use Rattle.crc32_rule.proofs.Step.{bits_lt}

byte_lt : (s b : ℕ) → s < 2 ^ 32 → b < 256 → byte s b < 2 ^ 32
unfolding byte
byte_lt s b hs hb = bits_lt 8 (bit_xor s b) (xor_lt 32 s b hs (omega arith))

feed_lt : (bs : List ℕ) (s : ℕ) → s < 2 ^ 32 → Bytes bs → feed s bs < 2 ^ 32
feed_lt [] s hs h = hs
feed_lt (b ∷ bs) s hs h = feed_lt bs (byte s b) (byte_lt s b hs (h 0)) (λ k. h (suc k))

pub crc32_lt : (s : List ℕ) → Bytes s → crc32_of s < 2 ^ 32
unfolding crc32_of
crc32_lt s h = xor_lt 32 (feed all_ones s) all_ones (feed_lt s all_ones (lit< tt) h) (lit< tt)
