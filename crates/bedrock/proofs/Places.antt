-- Whether a number is in a range; what is found at the places of a range is found at one of them, and the other way round.
use mathlib.Core.Path.{◌≡◌, refl, ap, ◌∙◌}
use mathlib.Core.Bool.{Bool, true, false}
use mathlib.Core.List.{◌∷◌, Memᴰ}
use mathlib.Core.Option.{Option, none, some}
use mathlib.Core.Logic.{◌⊎◌, inl, inr}
use Prim.Native.Nat.{ℕ, zero, suc, ◌+◌, ◌≤◌, ◌<◌}
use native.Mathlib.Omega.{arith}
use lib.Dec.{leb, ltb, eqb}
use borrow.Author.Tests.{ltb-true, leb-true, eqb-true, eqb-false, lt-ltb, le-ltb, le-leb, lt-leb}
use Rattle.bedrock.specs.Places.{within, found_from}
use Rattle.bedrock.proofs.Choices.{on_ind, and-true, and-false}

pub within-reads : (f k n : ℕ) → within f k n ≡ true → (f ≤ n) × (n < f + k)
within-reads f k n e =
    let p = and-true (leb f n) (ltb n (f + k)) e in
    (leb-true f n p.0, ltb-true n (f + k) p.1)

pub within_in : (f k n : ℕ) → f ≤ n → n < f + k → within f k n ≡ true
within_in f k n a b = simp (le-leb f n a, lt-ltb n (f + k) b)

pub within-before : (f k n : ℕ) → n < f → within f k n ≡ false
within-before f k n a = simp (lt-leb f n a)

pub within-after : (f k n : ℕ) → f + k ≤ n → within f k n ≡ false
within-after f k n a = rw (le-ltb n (f + k) a) (and-false (leb f n))

module _ {A : Type 0} (f : ℕ → Option A) where
  pub found_in : (k n m : ℕ) (r : A) → n ≤ m → m < n + k → f m ≡ some r → Memᴰ r (found_from f k n)
  unfolding found_from
  found_in zero n m r a b e = absurd (omega arith)
  found_in (suc k) n m r a b e = go (eqb n m) refl (found_in k (suc n) m r)
    where
      go : (t : Bool) → eqb n m ≡ t → (suc n ≤ m → m < suc n + k → f m ≡ some r → Memᴰ r (found_from f k (suc n)))
          → Memᴰ r (found_from f (suc k) n)
      go true q g = rw (ap f (eqb-true n m q) ∙ e) (mathlib.Core.List.Memᴰ.head refl)
      go false q g =
          let h : Memᴰ r (found_from f k (suc n)) = g (omega (arith, eqb-false n m q)) (omega arith) e in
          on_ind (λ l. Memᴰ r l) (f n) (found_from f k (suc n)) (λ s. s ∷ found_from f k (suc n)) (λ _. h) (λ s _. mathlib.Core.List.Memᴰ.tail h)

  pub found_out : (k n : ℕ) (r : A) → Memᴰ r (found_from f k n) → (m : ℕ) × (n ≤ m) × (f m ≡ some r)
  unfolding found_from
  found_out zero n r h = absurd (mathlib.Core.List.Memᴰ.not-nil h)
  found_out (suc k) n r h = go (f n) refl (found_out k (suc n) r)
    where
      Out : ℕ → Type 0
      Out i = (m : ℕ) × (i ≤ m) × (f m ≡ some r)

      later : Out (suc n) → Out n
      later p = (p.0, omega (arith, p.1), p.2)

      last : (s : A) → f n ≡ some s → (Memᴰ r (found_from f k (suc n)) → Out (suc n)) → (r ≡ s) ⊎ Memᴰ r (found_from f k (suc n)) → Out n
      last s q g (inl e) = (n, omega arith, rw e q)
      last s q g (inr h') = later (g h')

      go : (o : Option A) → f n ≡ o → (Memᴰ r (found_from f k (suc n)) → Out (suc n)) → Out n
      go none q g = later (g (rw q at h))
      go (some s) q g = last s q g (mathlib.Core.List.Memᴰ.cases_cons (rw q at h))
