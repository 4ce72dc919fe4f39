-- One turn of each loop over byte strings, as the code has the numbers.
use mathlib.Core.Path.{◌≡◌, refl, sym, ap, ◌∙◌}
use mathlib.Core.Bool.{Bool, true, false, ◌&&◌}
use mathlib.Core.List.{[], ◌∷◌, append_assoc}
use Rattle.std.specs.Cmp.Lexicographic.{pointwise}
use Prim.Native.Nat.{ℕ, suc, ◌+◌, ◌≤◌, ◌<◌}
use native.Mathlib.Omega.{arith}
use native.Mathlib.Numerals.{add-one}
use lib.Dec.{eqb}
use lib.Bits.{bit_or, bit_xor, or_add_and, xor_add_and, xor_self, and_le_l, and_le_r}
use borrow.Author.Tests.{eqb-true, eqb-false, eq-eqb, ne_eqb}
use lib.ListN.{length, get_or, take, drop, drop_of_length-le}
use lib.Seq.{drop-cons, paste, take_all}
use Rattle.bedrock.proofs.Choices.{and_one, and_assoc}
use Rattle.buffer.specs.Bytes.{Bytes, same, zeros, put}
use Rattle.buffer.proofs.Bytes.{same_false}

-- same: one byte more
pub same_step : (a b : Bytes) (i : ℕ) → i < length a → i < length b → get_or a i 0 ≡ get_or b i 0 → same (drop i a) (drop i b) ≡ same (drop (i + 1) a) (drop (i + 1) b)
same_step a b i ha hb e = rw (drop-cons a i 0, drop-cons b i 0, add-one, eq-eqb (get_or a i 0) (get_or b i 0) e)

pub same-differ : (a b : Bytes) (i : ℕ) → i < length a → i < length b → (get_or a i 0 ≡ get_or b i 0 → ⊥) → same (drop i a) (drop i b) ≡ false
same-differ a b i ha hb n = rw (drop-cons a i 0, drop-cons b i 0, ne_eqb (get_or a i 0) (get_or b i 0) n)

pub same-lengths : (a b : Bytes) → (length a ≡ length b → ⊥) → same a b ≡ false
same-lengths a b n = same_false a b (λ e. n (ap length e))

pub same_end : (a b : Bytes) (i : ℕ) → length a ≤ i → length b ≤ i → same (drop i a) (drop i b) ≡ true
same_end a b i ha hb = rw (drop_of_length-le a ha, drop_of_length-le b hb)

-- zeros: one byte more
or_nothing : (a b : ℕ) → bit_or a b ≡ 0 → (a ≡ 0) × (b ≡ 0)
or_nothing a b e = (omega (arith, or_add_and a b, and_le_l a b, and_le_r a b), omega (arith, or_add_and a b, and_le_l a b, and_le_r a b))

pub or_test : (a b : ℕ) → eqb (bit_or a b) 0 ≡ (eqb a 0 && eqb b 0)
or_test a b = go (eqb a 0) (eqb b 0) refl refl
  where
    go : (p q : Bool) → eqb a 0 ≡ p → eqb b 0 ≡ q → eqb (bit_or a b) 0 ≡ (p && q)
    go true true ea eb = rw (eqb-true a 0 ea, eqb-true b 0 eb)
    go true false ea eb = ne_eqb (bit_or a b) 0 (λ z. eqb-false b 0 eb (or_nothing a b z).1)
    go false q ea eb = ne_eqb (bit_or a b) 0 (λ z. eqb-false a 0 ea (or_nothing a b z).0)

pub zeros-step : (s : Bytes) (i seen : ℕ) → i < length s → (eqb (bit_or seen (get_or s i 0)) 0 && zeros (drop (i + 1) s)) ≡ (eqb seen 0 && zeros (drop i s))
zeros-step s i seen h =
    rw (drop-cons s i 0, add-one, or_test seen (get_or s i 0)) (and_assoc (eqb seen 0) (eqb (get_or s i 0) 0) (zeros (drop (suc i) s)))

pub zeros-end : (s : Bytes) (i seen : ℕ) → length s ≤ i → (eqb seen 0 && zeros (drop i s)) ≡ eqb seen 0
zeros-end s i seen h = rw (drop_of_length-le s h) (and_one (eqb seen 0))

-- same, without a way out: one byte more, the end
xor_test : (a b : ℕ) → eqb (bit_xor a b) 0 ≡ eqb a b
xor_test a b = go (eqb a b) refl
  where
    go : (p : Bool) → eqb a b ≡ p → eqb (bit_xor a b) 0 ≡ p
    go true e = eq-eqb (bit_xor a b) 0 (ap (bit_xor a) (sym (eqb-true a b e)) ∙ xor_self a)
    go false e = ne_eqb (bit_xor a b) 0 (λ z. eqb-false a b e (omega (arith, xor_add_and a b, and_le_l a b, and_le_r a b, z)))

pub agree_step : (a b : Bytes) (i seen : ℕ) → i < length a → i < length b
    → (eqb (bit_or seen (bit_xor (get_or a i 0) (get_or b i 0))) 0 && same (drop (i + 1) a) (drop (i + 1) b)) ≡ (eqb seen 0 && same (drop i a) (drop i b))
agree_step a b i seen ha hb =
    rw (drop-cons a i 0, drop-cons b i 0, add-one, or_test seen (bit_xor (get_or a i 0) (get_or b i 0)), xor_test (get_or a i 0) (get_or b i 0))
    (and_assoc (eqb seen 0) (eqb (get_or a i 0) (get_or b i 0)) (same (drop (suc i) a) (drop (suc i) b)))

pub agree_end : (a b : Bytes) (i seen : ℕ) → length a ≤ i → length b ≤ i → (eqb seen 0 && same (drop i a) (drop i b)) ≡ eqb seen 0
agree_end a b i seen ha hb = rw (drop_of_length-le a ha, drop_of_length-le b hb) (and_one (eqb seen 0))

-- put: one byte more, none, all
pub put_all : (d : Bytes) (at : ℕ) (s : Bytes) → paste d at s (length s) ≡ put d at s
put_all d at s = rw (take_all (length s) s (omega arith)) (append_assoc (take at d) s (drop (at + length s) d))

-- same: as the library compares
pub same-pointwise : (a b : Bytes) → pointwise eqb a b ≡ same a b
same-pointwise [] [] = refl
same-pointwise [] (y ∷ b) = refl
same-pointwise (x ∷ a) [] = refl
same-pointwise (x ∷ a) (y ∷ b) = ap (λ (t : Bool). eqb x y && t) (same-pointwise a b)
