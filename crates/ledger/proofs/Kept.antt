-- Rows and sectors picked from lists: which are kept, what they cover, what they put in each sector.
use mathlib.Core.Path.{◌≡◌, refl, sym, ap, ◌∙◌}
use mathlib.Core.Bool.{Bool, true, false, cond, true≢false, false≢true}
use mathlib.Core.List.Memᴰ
use mathlib.Core.List.{List, [], ◌∷◌, ◌++◌, Memᴰ}
use mathlib.Core.Logic.{◌⊎◌, inl, inr}
use Prim.Native.Nat.{ℕ, zero, suc, ◌+◌, ◌-◌, ◌≤◌, ◌<◌}
use native.Mathlib.Omega.{arith}
use lib.Dec.{eqb, ltb}
use borrow.Author.Tests.{eqb-true, eqb-false, ltb-false, le-ltb}
use Rattle.ledger.specs.Archive.{Archive}
use Rattle.ledger.specs.Ledger.{has, has_all, covers, keep_rows, there, covered, loose}
use Rattle.ledger.specs.Reflects.{Apart, cell}
use Rattle.bedrock.proofs.Choices.{cond_ind, and-true, or-false, or_right}

-- numbers of two lists, and numbers in a row
pub has_either : (n : ℕ) (a b : List ℕ) → has n (a ++ b) ≡ true → (has n a ≡ true) ⊎ (has n b ≡ true)
has_either n [] b e = inr e
has_either n (c ∷ a) b e = go (eqb n c) refl (has_either n a b)
  where
    go : (t : Bool) → eqb n c ≡ t → (has n (a ++ b) ≡ true → (has n a ≡ true) ⊎ (has n b ≡ true)) → (has n (c ∷ a) ≡ true) ⊎ (has n b ≡ true)
    go true q f = inl (rw q)
    go false q f = rw q (f (rw q at e))

pub has_neither : (n : ℕ) (a b : List ℕ) → has n (a ++ b) ≡ false → (has n a ≡ false) × (has n b ≡ false)
has_neither n [] b e = (refl, e)
has_neither n (c ∷ a) b e =
    let p = or-false (eqb n c) (has n (a ++ b)) e in
    let q = has_neither n a b p.1 in
    (rw p.0 q.0, q.1)

pub all_out : (cs : List ℕ) (n k : ℕ) → has_all cs n k ≡ true → (m : ℕ) → n ≤ m → m < n + k → has m cs ≡ true
all_out cs n zero e m a b = absurd (omega arith)
all_out cs n (suc k) e m a b = go (eqb n m) refl (all_out cs (suc n) k p.1 m)
  where
    p : (has n cs ≡ true) × (has_all cs (suc n) k ≡ true)
    p = and-true (has n cs) (has_all cs (suc n) k) e

    go : (t : Bool) → eqb n m ≡ t → (suc n ≤ m → m < suc n + k → has m cs ≡ true) → has m cs ≡ true
    go true q f = ap (λ (i : ℕ). has i cs) (sym (eqb-true n m q)) ∙ p.0
    go false q f = f (omega (arith, eqb-false n m q)) (omega arith)

pub all_in : (cs : List ℕ) (n k : ℕ) → ((m : ℕ) → n ≤ m → m < n + k → has m cs ≡ true) → has_all cs n k ≡ true
all_in cs n zero f = refl
all_in cs n (suc k) f = rw (f n (omega arith) (omega arith)) (all_in cs (suc n) k (λ m a b. f m (omega arith) (omega arith)))

module _ (A : Archive) where
  open A use {Sector, Row, first, parts, image}

  pub keep_out : (test : Row → Bool) (rows : List Row) (r : Row) → Memᴰ r (keep_rows A test rows) → Memᴰ r rows × (test r ≡ true)
  keep_out test [] r m = absurd (Memᴰ.not-nil m)
  keep_out test (s ∷ rows) r m = go (test s) refl (keep_out test rows r)
    where
      before : Memᴰ r rows × (test r ≡ true) → Memᴰ r (s ∷ rows) × (test r ≡ true)
      before p = (Memᴰ.tail p.0, p.1)

      last : test s ≡ true → (Memᴰ r (keep_rows A test rows) → Memᴰ r rows × (test r ≡ true)) → (r ≡ s) ⊎ Memᴰ r (keep_rows A test rows) → Memᴰ r (s ∷ rows) × (test r ≡ true)
      last h f (inl q) = (Memᴰ.head q, ap test q ∙ h)
      last h f (inr m') = before (f m')

      go : (b : Bool) → test s ≡ b → (Memᴰ r (keep_rows A test rows) → Memᴰ r rows × (test r ≡ true)) → Memᴰ r (s ∷ rows) × (test r ≡ true)
      go true q f = last q f (Memᴰ.cases_cons (rw q at m))
      go false q f = before (f (rw q at m))

  pub keep_in : (test : Row → Bool) (rows : List Row) (r : Row) → Memᴰ r rows → test r ≡ true → Memᴰ r (keep_rows A test rows)
  keep_in test [] r m h = absurd (Memᴰ.not-nil m)
  keep_in test (s ∷ rows) r m h = go (Memᴰ.cases_cons m) (λ m'. keep_in test rows r m' h)
    where
      go : (r ≡ s) ⊎ Memᴰ r rows → (Memᴰ r rows → Memᴰ r (keep_rows A test rows)) → Memᴰ r (keep_rows A test (s ∷ rows))
      go (inl e) f = rw (ap test (sym e) ∙ h) (Memᴰ.head e)
      go (inr m') f =
          cond_ind (λ l. Memᴰ r l) (test s) (s ∷ keep_rows A test rows) (keep_rows A test rows) (λ _. Memᴰ.tail (f m')) (λ _. f m')

  apart_down : (hi lo : ℕ) (rows : List Row) → lo ≤ hi → Apart A hi rows → Apart A lo rows
  apart_down hi lo [] h a = tt
  apart_down hi lo (r ∷ rows) h a = (omega (arith, a.0), a.1)

  pub keep_apart : (test : Row → Bool) (lo : ℕ) (rows : List Row) → Apart A lo rows → Apart A lo (keep_rows A test rows)
  keep_apart test lo [] a = tt
  keep_apart test lo (r ∷ rows) a =
      let rest : Apart A (first r + parts r) (keep_rows A test rows) = keep_apart test (first r + parts r) rows a.1 in
      cond_ind (Apart A lo) (test r) (r ∷ keep_rows A test rows) (keep_rows A test rows)
      (λ _. (a.0, rest)) (λ _. apart_down (first r + parts r) lo (keep_rows A test rows) (omega (arith, a.0)) rest)

  -- where no row that is dropped covers a sector, the rows that stay put the same there
  pub keep-cell : (test : Row → Bool) (rows : List Row) (n : ℕ) → ((r : Row) → test r ≡ false → covers A r n ≡ false) → cell A (keep_rows A test rows) n ≡ cell A rows n
  keep-cell test [] n f = refl
  keep-cell test (r ∷ rows) n f = go (test r) refl (keep-cell test rows n f)
    where
      go : (b : Bool) → test r ≡ b → cell A (keep_rows A test rows) n ≡ cell A rows n → cell A (keep_rows A test (r ∷ rows)) n ≡ cell A (r ∷ rows) n
      go true q g = rw q (ap (λ (s : Sector). cond (covers A r n) (image r (n - first r)) s) g)
      go false q g = rw (q, f r q) g

  -- after a stop inside a write: a row that waited is there only if it arrived, one that arrived is there, one that is not there waited
  pub there_late : (e : ℕ) (arrived : List ℕ) (r : Row) → e ≤ first r → there A e arrived r ≡ true → has_all arrived (first r) (parts r) ≡ true
  there_late e arrived r h t = rw (le-ltb (first r) e h) at t

  pub there-whole : (e : ℕ) (arrived : List ℕ) (r : Row) → has_all arrived (first r) (parts r) ≡ true → there A e arrived r ≡ true
  there-whole e arrived r all = or_right (ltb (first r) e) (has_all arrived (first r) (parts r)) all

  pub not-there_late : (e : ℕ) (arrived : List ℕ) (r : Row) → there A e arrived r ≡ false → e ≤ first r
  not-there_late e arrived r f = ltb-false (first r) e (or-false (ltb (first r) e) (has_all arrived (first r) (parts r)) f).0

  pub covered_out : (rows : List Row) (n : ℕ) → covered A rows n ≡ true → (r : Row) × Memᴰ r rows × (covers A r n ≡ true)
  covered_out [] n e = absurd (false≢true e)
  covered_out (s ∷ rows) n e = go (covers A s n) refl (covered_out rows n)
    where
      go : (b : Bool) → covers A s n ≡ b → (covered A rows n ≡ true → (r : Row) × Memᴰ r rows × (covers A r n ≡ true)) → (r : Row) × Memᴰ r (s ∷ rows) × (covers A r n ≡ true)
      go true q f = (s, Memᴰ.head refl, q)
      go false q f = let p = f (rw q at e) in (p.0, Memᴰ.tail p.1, p.2)

  pub covered_in : (rows : List Row) (r : Row) (n : ℕ) → Memᴰ r rows → covers A r n ≡ true → covered A rows n ≡ true
  covered_in [] r n m c = absurd (Memᴰ.not-nil m)
  covered_in (s ∷ rows) r n m c = go (Memᴰ.cases_cons m) (λ m'. covered_in rows r n m' c)
    where
      go : (r ≡ s) ⊎ Memᴰ r rows → (Memᴰ r rows → covered A rows n ≡ true) → covered A (s ∷ rows) n ≡ true
      go (inl e) f = rw (← e) (rw c)
      go (inr m') f = or_right (covers A s n) (covered A rows n) (f m')

  pub loose_out : (rows : List Row) (ns : List ℕ) (n : ℕ) → has n (loose A rows ns) ≡ true → (has n ns ≡ true) × (covered A rows n ≡ false)
  loose_out rows [] n e = absurd (false≢true e)
  loose_out rows (m ∷ ns) n e = go (covered A rows m) refl (loose_out rows ns n)
    where
      Rest : Type 0
      Rest = has n (loose A rows ns) ≡ true → (has n ns ≡ true) × (covered A rows n ≡ false)

      later : Rest → has n (loose A rows ns) ≡ true → (has n (m ∷ ns) ≡ true) × (covered A rows n ≡ false)
      later f h = (or_right (eqb n m) (has n ns) (f h).0, (f h).1)

      this : (b : Bool) → eqb n m ≡ b → covered A rows m ≡ false → has n (m ∷ loose A rows ns) ≡ true → Rest → (has n (m ∷ ns) ≡ true) × (covered A rows n ≡ false)
      this true p q h f = (rw p, ap (covered A rows) (eqb-true n m p) ∙ q)
      this false p q h f = later f (rw p at h)

      go : (b : Bool) → covered A rows m ≡ b → Rest → (has n (m ∷ ns) ≡ true) × (covered A rows n ≡ false)
      go true q f = later f (rw q at e)
      go false q f = this (eqb n m) refl q (rw q at e) f

  pub loose-not : (rows : List Row) (ns : List ℕ) (n : ℕ) → has n ns ≡ true → has n (loose A rows ns) ≡ false → covered A rows n ≡ true
  loose-not rows [] n e h = absurd (false≢true e)
  loose-not rows (m ∷ ns) n e h = go (covered A rows m) refl (eqb n m) refl (loose-not rows ns n)
    where
      go : (b : Bool) → covered A rows m ≡ b → (t : Bool) → eqb n m ≡ t → (has n ns ≡ true → has n (loose A rows ns) ≡ false → covered A rows n ≡ true) → covered A rows n ≡ true
      go true q true p f = ap (covered A rows) (eqb-true n m p) ∙ q
      go true q false p f = f (rw p at e) (rw q at h)
      go false q true p f = absurd (true≢false (sym p ∙ (or-false (eqb n m) (has n (loose A rows ns)) (rw q at h)).0))
      go false q false p f = f (rw p at e) (or-false (eqb n m) (has n (loose A rows ns)) (rw q at h)).1
