-- The burst theorem by bits: two messages that differ, and only within 32 neighbouring bits, have different checksums.
-- Assumes nothing.
use mathlib.Core.Path.{◌≡◌, refl, sym, ap, ap₂, ◌∙◌}
use Prim.Native.Nat.{ℕ, zero, suc, ◌+◌, ◌-◌, ◌*◌, ◌/◌, ◌%◌, ◌^◌, ◌<◌, ◌≤◌}
use native.Mathlib.Nat.{zero-mul, mul_assoc}
use native.Mathlib.Omega.{arith}
use native.Mathlib.Decide.{dec_le}
use lib.Pow.{pow-add}
use lib.Bits.{bit_xor, xor_self, xor_comm, xor_zero_r}
use lib.Dec.{lit<}
use lib.ListN.{length}
use Rattle.crc32_rule.specs.Crc32.{polynomial, all_ones, bit, bits, crc32_of}
use Rattle.crc32_rule.specs.Burst.{pack}
use Rattle.crc32_rule.proofs.Xor.{xor_half, xor_odd, xor_assoc, xor_cancel}
use Rattle.crc32_rule.proofs.Step.{bits_above, bits_inj}
use Rattle.crc32_rule.proofs.Pack.{bits_add, packed, pack_inj}
use Rattle.crc32_rule.specs.Shows.{BitsShow}

-- ---- the step is linear

xor_left_comm : (a b c : ℕ) → bit_xor a (bit_xor b c) ≡ bit_xor b (bit_xor a c)
xor_left_comm a b c = sym (xor_assoc a b c) ∙ ap (λ (x : ℕ). bit_xor x c) (xor_comm a b) ∙ xor_assoc b a c

swap : (p q r s : ℕ) → bit_xor (bit_xor p q) (bit_xor r s) ≡ bit_xor (bit_xor p r) (bit_xor q s)
swap p q r s = simp (xor_assoc, xor_left_comm)

put_in : (x y p : ℕ) → x < 2 → y < 2 → (x + y) % 2 * p ≡ bit_xor (x * p) (y * p)
put_in zero zero p hx hy = simp zero-mul
put_in zero (suc zero) p hx hy = simp zero-mul
put_in (suc zero) zero p hx hy = simp (zero-mul, xor_zero_r)
put_in (suc zero) (suc zero) p hx hy = simp (zero-mul, xor_self)
put_in zero (suc (suc y)) p hx hy = absurd (omega arith)
put_in (suc zero) (suc (suc y)) p hx hy = absurd (omega arith)
put_in (suc (suc x)) y p hx hy = absurd (omega arith)

bit_xor_lem : (a b : ℕ) → bit (bit_xor a b) ≡ bit_xor (bit a) (bit b)
unfolding bit
bit_xor_lem a b =
    let o : bit_xor a b % 2 ≡ (a % 2 + b % 2) % 2 = xor_odd a b ∙ omega arith in
    ap₂ (λ (x y : ℕ). bit_xor x (y * polynomial)) (xor_half a b) o
    ∙ ap (bit_xor (bit_xor (a / 2) (b / 2))) (put_in (a % 2) (b % 2) polynomial (omega arith) (omega arith))
    ∙ swap (a / 2) (b / 2) (a % 2 * polynomial) (b % 2 * polynomial)

pub bits_xor : (n a b : ℕ) → bits n (bit_xor a b) ≡ bit_xor (bits n a) (bits n b)
unfolding bits
bits_xor zero a b = refl
bits_xor (suc n) a b = ap (bits n) (bit_xor_lem a b) ∙ bits_xor n (bit a) (bit b)

-- ---- a run of steps

pub bits-zero : (n : ℕ) → bits n 0 ≡ 0
unfolding bit bits
bits-zero zero = refl
bits-zero (suc n) = bits-zero n

-- a pattern that stands above the lowest bit comes down to it
bits_down : (k y : ℕ) → bits k (y * 2 ^ k) ≡ y
bits_down k y =
    ap (bits k) (sym (xor_zero_r (y * 2 ^ k))) ∙ bits_above k y 0 ∙ ap (bit_xor y) (bits-zero k) ∙ xor_zero_r y

-- 32 bits that lead to nothing are nothing
gone : (n j e : ℕ) → e < 2 ^ 32 → bits n (e * 2 ^ j) ≡ 0 → e * 2 ^ j ≡ 0
gone n j e h q = pick (dec_le j n)
  where
    pick : Dec (j ≤ n) → e * 2 ^ j ≡ 0
    pick (yes p) =
        let m : j + (n - j) ≡ n = omega arith in
        let z : e ≡ 0 =
        bits_inj (n - j) e 0 h (lit< tt)
        (sym (bits_add j (n - j) (e * 2 ^ j) ∙ ap (bits (n - j)) (bits_down j e))
        ∙ ap (λ (k : ℕ). bits k (e * 2 ^ j)) m ∙ q ∙ sym (bits-zero (n - j))) in
        ap (λ (x : ℕ). x * 2 ^ j) z ∙ zero-mul (2 ^ j)
    pick (no p) =
        let m : (j - n) + n ≡ j = omega arith in
        let f : e * 2 ^ j ≡ e * 2 ^ (j - n) * 2 ^ n =
        ap (λ (k : ℕ). e * 2 ^ k) (sym m) ∙ ap (λ (x : ℕ). e * x) (pow-add 2 (j - n) n) ∙ sym (mul_assoc e (2 ^ (j - n)) (2 ^ n)) in
        let z : e * 2 ^ (j - n) ≡ 0 = sym (bits_down n (e * 2 ^ (j - n))) ∙ ap (bits n) (sym f) ∙ q in
        f ∙ ap (λ (x : ℕ). x * 2 ^ n) z ∙ zero-mul (2 ^ n)

-- THE BURST THEOREM
pub bit-burst : BitsShow
unfolding crc32_of
bit-burst a b ha hb d q =
    let n = length a * 8 in
    let u = bit_xor all_ones (pack a) in
    let v = bit_xor all_ones (pack b) in
    let l = d.same_length in
    let x = d.pattern * 2 ^ d.from in
    let r : bits n u ≡ bits n v =
    sym (packed a all_ones ha) ∙ xor_cancel _ _ all_ones q ∙ packed b all_ones hb ∙ ap (λ (m : ℕ). bits (m * 8) v) (sym l) in
    let z : bits n x ≡ 0 =
    ap (bits n) (sym (swap all_ones (pack a) all_ones (pack b) ∙ d.differ))
    ∙ bits_xor n u v ∙ ap (λ (y : ℕ). bit_xor y (bits n v)) r ∙ xor_self (bits n v) in
    pack_inj a b l ha hb
    (xor_cancel (pack a) (pack b) (pack b) (d.differ ∙ gone n d.from d.pattern d.short z ∙ sym (xor_self (pack b))))
