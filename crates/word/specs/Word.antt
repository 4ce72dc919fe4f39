-- 32-bit words as FIPS 180-4 uses them: a word is a natural number below 2 ^ 32.
use Rattle.std.specs.Prelude.{ℕ, ◌+◌, ◌-◌, ◌*◌, ◌/◌, ◌%◌, ◌^◌}

-- 2.2.2, ROTL^n(x): the bits that leave on the left come in on the right
abbrev pub rot_l : ℕ → ℕ → ℕ
rot_l n x = (x * 2 ^ n) % 2 ^ 32 + x / 2 ^ (32 - n)

-- 2.2.2: addition modulo 2^32
abbrev pub add32 : ℕ → ℕ → ℕ
add32 x y = (x + y) % 2 ^ 32

-- 3.1: the word of four bytes, the first one the highest
abbrev pub be32 : ℕ → ℕ → ℕ → ℕ → ℕ
be32 a b c d = a * 2 ^ 24 + b * 2 ^ 16 + c * 2 ^ 8 + d
