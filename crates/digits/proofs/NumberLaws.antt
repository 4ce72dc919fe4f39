-- Digits and the numbers that they make, for every base and width: each determines the other. Assumes nothing.
use mathlib.Core.Path.{◌≡◌, refl, sym, ap, ◌∙◌}
use mathlib.Core.Bool.{true}
use mathlib.Core.List.{List, [], ◌∷◌, ◌++◌, map, append_assoc, append-nil}
use Prim.Native.Nat.{ℕ, zero, suc, ◌+◌, ◌*◌, ◌/◌, ◌%◌, ◌^◌, ◌<◌}
use native.Mathlib.Nat.{suc-add, add-suc, add-zero, zero-add, mul_comm, pow-zero, pow-suc, mod-lt, div-add-mod, div-lt_iff_lt-mul}
use native.Mathlib.Omega.{arith}
use lib.Dec.{ltb}
use lib.Arith.{digits_div, digits_mod, digits_lt as digit_lt}
use borrow.Author.Tests.{ltb-true, lt-ltb}
use lib.ListN.{length, take, drop, replicate, length-append}
use Rattle.bedrock.proofs.Choices.{and-true}
use Rattle.digits.specs.Number.{digits, value_from, Below, below}
use Rattle.digits.specs.Promises.{ValueOfDigits, DigitsOfValue}

-- ---- every element below b: the fact and the test

pub below-test : (b : ℕ) (s : List ℕ) → Below b s → below b s ≡ true
below-test b [] h = refl
below-test b (a ∷ s) h = rw (lt-ltb a b (h 0)) (below-test b s (λ k. h (suc k)))

pub below_fact : (b : ℕ) (s : List ℕ) → 0 < b → below b s ≡ true → Below b s
below_fact b [] p e k = p
below_fact b (a ∷ s) p e zero = ltb-true a b (and-true (ltb a b) (below b s) e).0
below_fact b (a ∷ s) p e (suc k) = below_fact b s p (and-true (ltb a b) (below b s) e).1 k

module _ (b : ℕ) where
  pub below-append : (x y : List ℕ) → below b x ≡ true → below b y ≡ true → below b (x ++ y) ≡ true
  below-append [] y e f = f
  below-append (a ∷ x) y e f = let p = and-true (ltb a b) (below b x) e in rw p.0 (below-append x y p.1 f)

  pub below-take : (n : ℕ) (x : List ℕ) → below b x ≡ true → below b (take n x) ≡ true
  below-take zero x e = refl
  below-take (suc n) [] e = refl
  below-take (suc n) (a ∷ x) e = let p = and-true (ltb a b) (below b x) e in rw p.0 (below-take n x p.1)

  pub below-drop : (n : ℕ) (x : List ℕ) → below b x ≡ true → below b (drop n x) ≡ true
  below-drop zero x e = e
  below-drop (suc n) [] e = refl
  below-drop (suc n) (a ∷ x) e = below-drop n x (and-true (ltb a b) (below b x) e).1

  pub below-replicate : (n a : ℕ) → a < b → below b (replicate n a) ≡ true
  below-replicate zero a h = refl
  below-replicate (suc n) a h = rw (lt-ltb a b h) (below-replicate n a h)

  pub below-map : (c : ℕ) (f : ℕ → ℕ) → ((d : ℕ) → d < b → f d < c) → (s : List ℕ) → below b s ≡ true → below c (map f s) ≡ true
  below-map c f h [] e = refl
  below-map c f h (a ∷ s) e =
      let p = and-true (ltb a b) (below b s) e in rw (lt-ltb (f a) c (h a (ltb-true a b p.0))) (below-map c f h s p.1)

-- ---- the digits of a number

pub length_digits : (b w n : ℕ) → length (digits b w n) ≡ w
unfolding digits
length_digits b zero n = refl
length_digits b (suc w) n = omega (arith, length-append (digits b w (n / b)) (n % b ∷ []), length_digits b w (n / b))

pub below-digits : (b w n : ℕ) → 0 < b → below b (digits b w n) ≡ true
unfolding digits
below-digits b zero n h = refl
below-digits b (suc w) n h =
    below-append b (digits b w (n / b)) (n % b ∷ []) (below-digits b w (n / b) h) (rw (lt-ltb (n % b) b (mod-lt n h)))

pub digits_lt : (b w n : ℕ) → 0 < b → Below b (digits b w n)
digits_lt b w n h = below_fact b (digits b w n) h (below-digits b w n h)

-- ---- from the number to digits and back

pub value-append : (b a : ℕ) (x y : List ℕ) → value_from b a (x ++ y) ≡ value_from b (value_from b a x) y
unfolding value_from
value-append b a [] y = refl
value-append b a (d ∷ x) y = value-append b (b * a + d) x y

quotient_lt : (b w n : ℕ) → n < b ^ suc w → n / b < b ^ w
quotient_lt zero w n h = let e : zero ^ suc w ≡ 0 = pow-suc zero w ∙ omega arith in absurd (omega arith)
quotient_lt (suc b) w n h = (div-lt_iff_lt-mul {k = suc b} (omega arith)).1 (rw (← pow-suc (suc b) w) h)

pub value-digits : ValueOfDigits
unfolding digits value_from
value-digits b zero n h = let e : b ^ zero ≡ 1 = pow-zero b in omega arith
value-digits b (suc w) n h =
    value-append b 0 (digits b w (n / b)) (n % b ∷ [])
    ∙ ap (λ (m : ℕ). b * m + n % b) (value-digits b w (n / b) (quotient_lt b w n h))
    ∙ div-add-mod n b

pub digits_injective : (b w n m : ℕ) → n < b ^ w → m < b ^ w → digits b w n ≡ digits b w m → n ≡ m
digits_injective b w n m h k e = sym (value-digits b w n h) ∙ ap (value_from b 0) e ∙ value-digits b w m k

-- ---- from digits to the number and back

-- digits s after the number a are those of a and then s
digits-after : (b k a : ℕ) (s : List ℕ) → Below b s → digits b (k + length s) (value_from b a s) ≡ digits b k a ++ s
unfolding digits value_from
digits-after b k a [] h = rw (add-zero, append-nil)
digits-after b k a (d ∷ s) h =
    let e : b * a + d ≡ a * b + d = ap (λ (x : ℕ). x + d) (mul_comm b a) in
    ap (λ (w : ℕ). digits b w (value_from b (b * a + d) s)) (add-suc k (length s) ∙ sym (suc-add k (length s)))
    ∙ digits-after b (suc k) (b * a + d) s (λ i. h (suc i))
    ∙ append_assoc (digits b k ((b * a + d) / b)) ((b * a + d) % b ∷ []) s
    ∙ rw (e, digits_div a (h 0), digits_mod a (h 0))

pub digits_value : DigitsOfValue
unfolding digits
digits_value b s h = ap (λ (w : ℕ). digits b w (value_from b 0 s)) (sym (zero-add (length s))) ∙ digits-after b 0 0 s h

-- a digit after a number of i digits makes one of i + 1
pub more_lt : (b i a d : ℕ) → a < b ^ i → d < b → b * a + d < b ^ suc i
more_lt b i a d h k = rw (pow-suc, mul_comm b a) (digit_lt h k)

value_lt_from : (b i a : ℕ) (s : List ℕ) → a < b ^ i → Below b s → value_from b a s < b ^ (i + length s)
unfolding value_from
value_lt_from b i a [] h k = rw add-zero h
value_lt_from b i a (d ∷ s) h k =
    rw (add-suc, ← suc-add) (value_lt_from b (suc i) (b * a + d) s (more_lt b i a d h (k 0)) (λ j. k (suc j)))

pub value_lt : (b : ℕ) (s : List ℕ) → Below b s → value_from b 0 s < b ^ length s
value_lt b s k = rw zero-add at (value_lt_from b 0 0 s (rw pow-zero (omega arith)) k)
