-- The bit step: what is shifted in from above passes through unchanged, and on 32 bits it is one to one.
-- Assumes nothing.
use mathlib.Core.Path.{◌≡◌, sym, ap, ◌∙◌}
use Prim.Native.Nat.{ℕ, zero, suc, ◌*◌, ◌/◌, ◌%◌, ◌^◌, ◌<◌}
use native.Mathlib.Nat.{mul-one, mul_assoc, pow-suc}
use native.Mathlib.Omega.{arith}
use lib.Bits.{bit_xor, xor_shr, xor_lt}
use Rattle.crc32_rule.specs.Crc32.{polynomial, bit, bits}
use Rattle.crc32_rule.proofs.Xor.{xor_half, xor_odd, xor_assoc, xor_cancel, by_digits}

-- ---- what stands above the lowest bit is only shifted

half_above : (y z : ℕ) → bit_xor (y * 2) z / 2 ≡ bit_xor y (z / 2)
half_above y z = let e : y * 2 / 2 ≡ y = omega arith in xor_half (y * 2) z ∙ ap (λ (x : ℕ). bit_xor x (z / 2)) e

odd_above : (y z : ℕ) → bit_xor (y * 2) z % 2 ≡ z % 2
odd_above y z = xor_odd (y * 2) z ∙ omega arith

bit_above : (y z : ℕ) → bit (bit_xor (y * 2) z) ≡ bit_xor y (bit z)
unfolding bit
bit_above y z = simp (half_above, odd_above, xor_assoc)

pub bits_above : (k y z : ℕ) → bits k (bit_xor (y * 2 ^ k) z) ≡ bit_xor y (bits k z)
unfolding bits
bits_above zero y z = ap (λ (x : ℕ). bit_xor x z) (mul-one y)
bits_above (suc k) y z =
    ap (λ (x : ℕ). bits k (bit (bit_xor x z))) (ap (λ (x : ℕ). y * x) (pow-suc 2 k) ∙ sym (mul_assoc y (2 ^ k) 2))
    ∙ ap (bits k) (bit_above (y * 2 ^ k) z)
    ∙ bits_above k y (bit z)

-- ---- the step keeps to 32 bits, and is one to one there: the polynomial's highest bit marks whether it was put in

bit_lt : (c : ℕ) → c < 2 ^ 32 → bit c < 2 ^ 32
unfolding bit
bit_lt c h = xor_lt 32 (c / 2) (c % 2 * polynomial) (omega arith) (omega arith)

bit-top : (c : ℕ) → c < 2 ^ 32 → bit c / 2 ^ 31 ≡ c % 2
unfolding bit
bit-top c h =
    let e : c / 2 / 2 ^ 31 ≡ 0 = omega arith in
    let f : c % 2 * polynomial / 2 ^ 31 ≡ c % 2 = omega arith in
    xor_shr (c / 2) (c % 2 * polynomial) 31 ∙ simp (e, f)

bit_inj : (c d : ℕ) → c < 2 ^ 32 → d < 2 ^ 32 → bit c ≡ bit d → c ≡ d
unfolding bit
bit_inj c d hc hd e =
    let o : c % 2 ≡ d % 2 = sym (bit-top c hc) ∙ ap (λ (x : ℕ). x / 2 ^ 31) e ∙ bit-top d hd in
    by_digits (xor_cancel (c / 2) (d / 2) (d % 2 * polynomial) (sym (ap (λ (x : ℕ). bit_xor (c / 2) (x * polynomial)) o) ∙ e)) o

pub bits_lt : (k c : ℕ) → c < 2 ^ 32 → bits k c < 2 ^ 32
unfolding bits
bits_lt zero c h = h
bits_lt (suc k) c h = bits_lt k (bit c) (bit_lt c h)

pub bits_inj : (k c d : ℕ) → c < 2 ^ 32 → d < 2 ^ 32 → bits k c ≡ bits k d → c ≡ d
unfolding bits
bits_inj zero c d hc hd e = e
bits_inj (suc k) c d hc hd e = bit_inj c d hc hd (bits_inj k (bit c) (bit d) (bit_lt c hc) (bit_lt d hd) e)
