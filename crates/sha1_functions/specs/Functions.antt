-- The functions and constants of the rounds of SHA-1, as FIPS 180-4 defines them. A word is a number below 2 ^ 32.
use Rattle.std.specs.Prelude.{ℕ, zero, suc, ◌-◌, ◌^◌}
use Rattle.std.specs.Int.Bits.{bit_and, bit_xor}

-- 2.2.2: the complement of a word
abbrev pub not32 : ℕ → ℕ
not32 x = 2 ^ 32 - 1 - x

-- 4.1.1: Ch
abbrev pub ch_of : ℕ → ℕ → ℕ → ℕ
ch_of x y z = bit_xor (bit_and x y) (bit_and (not32 x) z)

-- 4.1.1: Parity
abbrev pub parity_of : ℕ → ℕ → ℕ → ℕ
parity_of x y z = bit_xor (bit_xor x y) z

-- 4.1.1: Maj
abbrev pub maj_of : ℕ → ℕ → ℕ → ℕ
maj_of x y z = bit_xor (bit_xor (bit_and x y) (bit_and x z)) (bit_and y z)

-- 4.1.1: f_t, where q is t / 20
abbrev pub f_of : ℕ → ℕ → ℕ → ℕ → ℕ
f_of zero = ch_of
f_of (suc zero) = parity_of
f_of (suc (suc zero)) = maj_of
f_of (suc (suc (suc q))) = parity_of

-- 4.2.1: K_t, where q is t / 20
abbrev pub k_of : ℕ → ℕ
k_of zero = 0x5a827999
k_of (suc zero) = 0x6ed9eba1
k_of (suc (suc zero)) = 0x8f1bbcdc
k_of (suc (suc (suc q))) = 0xca62c1d6
