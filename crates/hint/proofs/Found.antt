-- What is found at the first place where anything is.
use mathlib.Core.Path.{◌≡◌, refl, ap, ◌∙◌}
use mathlib.Core.Bool.{Bool, true, false}
use mathlib.Core.Logic.{◌⊎◌, ◌≢◌, inl, inr}
use mathlib.Core.Option.{Option, none, some}
use Prim.Native.Nat.{ℕ, zero, suc, ◌+◌, ◌≤◌, ◌<◌}
use native.Mathlib.Omega.{arith}
use lib.Dec.{eqb}
use borrow.Author.Tests.{eqb-true, eqb-false}
use Rattle.bedrock.specs.Choice.{on}
use Rattle.bedrock.proofs.Choices.{some-not-none}
use Rattle.hint.specs.Hint.{first_found}

module _ {A : Type 0} (f : ℕ → Option A) where
  pub found_at : (k n : ℕ) (r : A) → first_found f k n ≡ some r → (m : ℕ) × (n ≤ m) × (m < n + k) × (f m ≡ some r)
  unfolding first_found
  found_at zero n r e = let z : ◌≡◌ {A = ℕ} 0 1 = cc in absurd (omega arith)
  found_at (suc k) n r e = go (f n) refl (found_at k (suc n) r) e
    where
      go : (o : Option A) → f n ≡ o → (first_found f k (suc n) ≡ some r → (m : ℕ) × (suc n ≤ m) × (m < suc n + k) × (f m ≡ some r))
          → on o (first_found f k (suc n)) some ≡ some r → (m : ℕ) × (n ≤ m) × (m < n + suc k) × (f m ≡ some r)
      go none q g d = let p = g d in (p.0, omega (arith, p.1), omega (arith, p.2), p.3)
      go (some x) q g d = (n, omega arith, omega arith, q ∙ d)

  pub found_any : (k n m : ℕ) (r : A) → n ≤ m → m < n + k → f m ≡ some r → first_found f k n ≢ none
  unfolding first_found
  found_any zero n m r a b e = absurd (omega arith)
  found_any (suc k) n m r a b e = go (eqb n m) (f n) refl refl (found_any k (suc n) m r)
    where
      go : (t : Bool) (o : Option A) → eqb n m ≡ t → f n ≡ o → (suc n ≤ m → m < suc n + k → f m ≡ some r → first_found f k (suc n) ≢ none)
          → on (f n) (first_found f k (suc n)) some ≢ none
      go t (some x) p q g = rw q (some-not-none x)
      go true none p q g = absurd (some-not-none r (ap (λ (o : Option A). o) (rw (← e) (rw (← eqb-true n m p) q))))
      go false none p q g = rw q (g (omega (arith, eqb-false n m p)) (omega arith) e)

  pub found_none : (k n : ℕ) → ((m : ℕ) → n ≤ m → m < n + k → f m ≡ none) → first_found f k n ≡ none
  unfolding first_found
  found_none zero n g = refl
  found_none (suc k) n g = rw (g n (omega arith) (omega arith)) (found_none k (suc n) (λ m a b. g m (omega arith) (omega arith)))

pub found-same : {A : Type 0} (f g : ℕ → Option A) (k n : ℕ) → ((m : ℕ) → n ≤ m → m < n + k → f m ≡ g m) → first_found f k n ≡ first_found g k n
unfolding first_found
found-same f g zero n e = refl
found-same f g (suc k) n e = rw (e n (omega arith) (omega arith), found-same f g k (suc n) (λ m a b. e m (omega arith) (omega arith)))

-- where every place gives what it gave, or r
pub found_or : {A : Type 0} (f g : ℕ → Option A) (r : A) → ((m : ℕ) → (g m ≡ f m) ⊎ (g m ≡ some r)) → (k n : ℕ) (x : A) → first_found f k n ≡ some x
    → (first_found g k n ≡ some x) ⊎ (first_found g k n ≡ some r)
unfolding first_found
found_or f g r h zero n x e = inl e
found_or {A} f g r h (suc k) n x e = go (f n) refl (h n) (found_or f g r h k (suc n) x) e
  where
    go : (o : Option A) → f n ≡ o → (g n ≡ f n) ⊎ (g n ≡ some r) → (first_found f k (suc n) ≡ some x → (first_found g k (suc n) ≡ some x) ⊎ (first_found g k (suc n) ≡ some r))
        → on o (first_found f k (suc n)) some ≡ some x
        → (on (g n) (first_found g k (suc n)) some ≡ some x) ⊎ (on (g n) (first_found g k (suc n)) some ≡ some r)
    go o q (inr w) i d = inr (rw w)
    go none q (inl w) i d = rw (w ∙ q) (i d)
    go (some y) q (inl w) i d = inl (rw (w ∙ q) d)
