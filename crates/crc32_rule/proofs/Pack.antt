-- A run of bytes goes into the register as one number: the register after it is eight bits of division a byte, with the number put in at once.
-- Assumes nothing.
use mathlib.Core.Path.{◌≡◌, refl, sym, ap, ap₂, ◌∙◌}
use mathlib.Core.List.{List, [], ◌∷◌}
use Prim.Native.Nat.{ℕ, zero, suc, ◌+◌, ◌*◌, ◌<◌}
use native.Mathlib.Nat.{suc-add, zero-add}
use native.Mathlib.Omega.{arith}
use lib.Bits.{bit_xor, xor_shifted, xor_zero_r, xor_comm}
use lib.ListN.{length}
use Rattle.crc32_rule.specs.Crc32.{Bytes, bit, bits, byte, feed}
use Rattle.crc32_rule.specs.Burst.{pack}
use Rattle.crc32_rule.proofs.Xor.{xor_assoc}
use Rattle.crc32_rule.proofs.Step.{bits_above}

pub bits_add : (m n c : ℕ) → bits (m + n) c ≡ bits n (bits m c)
unfolding bits
bits_add zero n c = ap (λ (k : ℕ). bits k c) (zero-add n)
bits_add (suc m) n c = ap (λ (k : ℕ). bits k c) (suc-add m n) ∙ bits_add m n (bit c)

-- one byte of the run goes in, the others wait above it
put : (s b p : ℕ) → b < 256 → bits 8 (bit_xor s (p * 256 + b)) ≡ bit_xor (byte s b) p
unfolding byte
put s b p h =
    ap (λ (x : ℕ). bits 8 (bit_xor s x)) (sym (xor_shifted p 8 b h))
    ∙ ap (bits 8) (xor_comm s (bit_xor (p * 256) b) ∙ xor_assoc (p * 256) b s ∙ ap (bit_xor (p * 256)) (xor_comm b s))
    ∙ bits_above 8 p (bit_xor s b)
    ∙ xor_comm p (bits 8 (bit_xor s b))

pub packed : (bs : List ℕ) (s : ℕ) → Bytes bs → feed s bs ≡ bits (length bs * 8) (bit_xor s (pack bs))
unfolding bits
packed [] s h = sym (xor_zero_r s)
packed (b ∷ bs) s h =
    let n = length bs in
    let e : 8 + n * 8 ≡ suc n * 8 = omega arith in
    packed bs (byte s b) (λ k. h (suc k))
    ∙ ap (bits (n * 8)) (sym (put s b (pack bs) (h 0)))
    ∙ sym (bits_add 8 (n * 8) (bit_xor s (pack bs * 256 + b)))
    ∙ ap (λ (k : ℕ). bits k (bit_xor s (pack bs * 256 + b))) e

pub pack_inj : (x y : List ℕ) → length x ≡ length y → Bytes x → Bytes y → pack x ≡ pack y → x ≡ y
pack_inj [] [] l hx hy e = refl
pack_inj [] (b ∷ y) l hx hy e = absurd (omega arith)
pack_inj (a ∷ x) [] l hx hy e = absurd (omega arith)
pack_inj (a ∷ x) (b ∷ y) l hx hy e =
    let p : a ≡ b = omega (arith, hx 0, hy 0) in
    let q : pack x ≡ pack y = omega (arith, hx 0, hy 0) in
    ap₂ {C = List ℕ} (λ (n : ℕ) (s : List ℕ). n ∷ s) p (pack_inj x y (omega arith) (λ k. hx (suc k)) (λ k. hy (suc k)) q)
