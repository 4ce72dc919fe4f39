-- The first row of a type and score: where there is none, where rows are added behind, where some are lost.
use mathlib.Core.Path.{◌≡◌, refl, sym, ap, ◌∙◌}
use mathlib.Core.Bool.{Bool, true, false, cond, ◌&&◌, true≢false}
use mathlib.Core.List.Memᴰ
use mathlib.Core.List.{List, [], ◌∷◌, ◌++◌, Memᴰ}
use mathlib.Core.Logic.{◌≢◌, ◌⊎◌, inl, inr}
use mathlib.Core.Option.{Option, none, some}
use Prim.Native.Nat.{ℕ, suc, ◌≤◌}
use native.Mathlib.Omega.{arith}
use lib.Dec.{eqb}
use borrow.Author.Tests.{eqb-true, eq-eqb}
use Rattle.bedrock.proofs.Choices.{and-true, some_same, false_unless}
use Rattle.buffer.specs.Bytes.{Bytes, same}
use Rattle.buffer.proofs.Bytes.{same_true, same_refl}
use Rattle.block.specs.Block.{Row}
use Rattle.ledger.specs.Ledger.{hit, intact_of}
use Rattle.ledger.proofs.Ascending.{Ascends, ascends_from}
use Rattle.demands.specs.Ledger.{first_row}
use Rattle.demands.specs.Instance.{archive}

module _ (t : ℕ) (s : Bytes) where
  -- a row of this type and score
  abbrev named : Row → Bool
  named r = eqb r.kind t && same r.score s

  is-named : (r : Row) → r.kind ≡ t → r.score ≡ s → named r ≡ true
  is-named r k e = simp (eq-eqb r.kind t k, ap (λ (b : Bytes). same b s) e ∙ same_refl s)

  pub first-none : (rows : List Row) → ((r : Row) → Memᴰ r rows → r.kind ≡ t → r.score ≢ s) → first_row t s rows ≡ none
  unfolding first_row
  first-none [] f = refl
  first-none (r ∷ rows) f =
      let other : named r ≡ false = false_unless (named r) (λ q.
      let p = and-true (eqb r.kind t) (same r.score s) q in
      f r (Memᴰ.head refl) (eqb-true r.kind t p.0) (same_true r.score s p.1)) in
      rw other (first-none rows (λ x m. f x (Memᴰ.tail m)))

  pub first-none_out : (rows : List Row) → first_row t s rows ≡ none → (r : Row) → Memᴰ r rows → r.kind ≡ t → r.score ≢ s
  unfolding first_row
  first-none_out [] e r m k score = Memᴰ.not-nil m
  first-none_out (x ∷ rows) e r m k score = go (named x) refl e (Memᴰ.cases_cons m) (λ f i. first-none_out rows f r i k score)
    where
      go : (b : Bool) → named x ≡ b → cond b (some x) (first_row t s rows) ≡ none → (r ≡ x) ⊎ Memᴰ r rows → (first_row t s rows ≡ none → Memᴰ r rows → ⊥) → ⊥
      go true q n i f = let z : ◌≡◌ {A = ℕ} 0 1 = cc in omega arith
      go false q n (inl i) f = true≢false (sym (is-named r k score) ∙ ap named i ∙ q)
      go false q n (inr i) f = f n i

  pub first_in_lem : (rows : List Row) (r : Row) → first_row t s rows ≡ some r → Memᴰ r rows × (r.kind ≡ t) × (r.score ≡ s)
  unfolding first_row
  first_in_lem [] r e = let z : ◌≡◌ {A = ℕ} 0 1 = cc in absurd (omega arith)
  first_in_lem (x ∷ rows) r e = go (named x) refl e (first_in_lem rows r)
    where
      go : (b : Bool) → named x ≡ b → cond b (some x) (first_row t s rows) ≡ some r → (first_row t s rows ≡ some r → Memᴰ r rows × (r.kind ≡ t) × (r.score ≡ s))
          → Memᴰ r (x ∷ rows) × (r.kind ≡ t) × (r.score ≡ s)
      go true q e f =
          let same_row : x ≡ r = some_same x r e in
          let p = and-true (eqb x.kind t) (same x.score s) q in
          (Memᴰ.head (sym same_row), ap (λ (y : Row). y.kind) (sym same_row) ∙ eqb-true x.kind t p.0, ap (λ (y : Row). y.score) (sym same_row) ∙ same_true x.score s p.1)
      go false q e f = let m = f e in (Memᴰ.tail m.0, m.1, m.2)

  -- where rows ascend, the first of its type and score starts before every other of them
  pub first-least : (lo : ℕ) (rows : List Row) (y : Row) → Ascends archive lo rows → Memᴰ y rows → y.kind ≡ t → y.score ≡ s
      → (r : Row) × (first_row t s rows ≡ some r) × (r.first ≤ y.first)
  unfolding first_row
  first-least lo [] y a m k e = absurd (Memᴰ.not-nil m)
  first-least lo (x ∷ rows) y a m k e = go (named x) refl (Memᴰ.cases_cons m) (λ w. first-least (suc x.first) rows y a.1 w k e)
    where
      Least : Option Row → Type 0
      Least o = (r : Row) × (o ≡ some r) × (r.first ≤ y.first)

      go : (b : Bool) → named x ≡ b → (y ≡ x) ⊎ Memᴰ y rows → (Memᴰ y rows → Least (first_row t s rows)) → Least (cond b (some x) (first_row t s rows))
      go true q (inl w) f = (x, refl, omega (arith, ap (λ (z : Row). z.first) w))
      go true q (inr w) f = (x, refl, omega (arith, ascends_from archive (suc x.first) rows a.1 y w))
      go false q (inl w) f = absurd (true≢false (sym (is-named y k e) ∙ ap named w ∙ q))
      go false q (inr w) f = f w

  pub first-front : (xs ys : List Row) (r : Row) → first_row t s xs ≡ some r → first_row t s (xs ++ ys) ≡ some r
  unfolding first_row
  first-front [] ys r e = let z : ◌≡◌ {A = ℕ} 0 1 = cc in absurd (omega arith)
  first-front (x ∷ xs) ys r e = go (named x) e (first-front xs ys r)
    where
      go : (b : Bool) → cond b (some x) (first_row t s xs) ≡ some r → (first_row t s xs ≡ some r → first_row t s (xs ++ ys) ≡ some r) → cond b (some x) (first_row t s (xs ++ ys)) ≡ some r
      go true e f = e
      go false e f = f e

  pub first-behind : (xs ys : List Row) → first_row t s xs ≡ none → first_row t s (xs ++ ys) ≡ first_row t s ys
  unfolding first_row
  first-behind [] ys e = refl
  first-behind (x ∷ xs) ys e = go (named x) e (first-behind xs ys)
    where
      go : (b : Bool) → cond b (some x) (first_row t s xs) ≡ none → (first_row t s xs ≡ none → first_row t s (xs ++ ys) ≡ first_row t s ys) → cond b (some x) (first_row t s (xs ++ ys)) ≡ first_row t s ys
      go true e f = let z : ◌≡◌ {A = ℕ} 0 1 = cc in absurd (omega arith)
      go false e f = f e

  -- the first of its type and score is the first still if it is intact
  pub first-intact : (cs : List ℕ) (rows : List Row) (r : Row) → first_row t s rows ≡ some r → hit archive cs r ≡ false → first_row t s (intact_of archive cs rows) ≡ some r
  unfolding first_row
  first-intact cs [] r e h = e
  first-intact cs (x ∷ rows) r e h = go (named x) refl (hit archive cs x) refl (first-intact cs rows r)
    where
      go : (a : Bool) → named x ≡ a → (b : Bool) → hit archive cs x ≡ b → (first_row t s rows ≡ some r → hit archive cs r ≡ false → first_row t s (intact_of archive cs rows) ≡ some r)
          → first_row t s (cond b (intact_of archive cs rows) (x ∷ intact_of archive cs rows)) ≡ some r
      go true q true p f = let same_row : x ≡ r = some_same x r (rw q at e) in absurd (true≢false (sym p ∙ ap (hit archive cs) same_row ∙ h))
      go true q false p f = rw q (rw q at e)
      go false q true p f = f (rw q at e) h
      go false q false p f = rw q (f (rw q at e) h)

pub intact-append : (cs : List ℕ) (xs ys : List Row) → intact_of archive cs (xs ++ ys) ≡ intact_of archive cs xs ++ intact_of archive cs ys
intact-append cs [] ys = refl
intact-append cs (x ∷ xs) ys = go (hit archive cs x) (intact-append cs xs ys)
  where
    go : (b : Bool) → intact_of archive cs (xs ++ ys) ≡ intact_of archive cs xs ++ intact_of archive cs ys
        → cond b (intact_of archive cs (xs ++ ys)) (x ∷ intact_of archive cs (xs ++ ys)) ≡ cond b (intact_of archive cs xs) (x ∷ intact_of archive cs xs) ++ intact_of archive cs ys
    go true e = e
    go false e = ap (λ (l : List Row). x ∷ l) e

pub intact-all : (rows : List Row) → intact_of archive [] rows ≡ rows
intact-all [] = refl
intact-all (r ∷ rows) = ap (λ (l : List Row). r ∷ l) (intact-all rows)
