-- A comparison that ends with number 0: what was read, and each of its positions.
use mathlib.Core.Path.{◌≡◌, refl, sym, ap, subst, ◌∙◌}
use mathlib.Core.Bool.{Bool, true, false, cond}
use Prim.Native.Nat.{ℕ, zero, suc, ◌+◌, ◌-◌, ◌≤◌, ◌<◌}
use native.Mathlib.Omega.{arith}
use lib.Dec.{eqb, ltb}
use borrow.Author.Tests.{eqb-true, eqb-false}
use Rattle.buffer.specs.Bytes.{Bytes}
use Rattle.refusal.specs.declared.Refusal.TheVariants.{Nest, Spent}
use Rattle.block.specs.Block.{Row}
use Rattle.entry.specs.declared.Entry.{Entry}
use Rattle.walk_laws.proofs.Found.{not_done}
use Rattle.pair.specs.Opened.{opened}
use Rattle.pair.proofs.Opened.{ReadAs, opened_ind}
use Rattle.comparison.specs.declared.Compared.{Compared}
use Rattle.comparison.specs.Compared.{refused, one_unit, and_then, in_order}
use Rattle.comparison.specs.Compare.{spending}
use Rattle.std.specs.Prelude.{Ok, Err, Result, ⊤}
use Rattle.refusal.specs.declared.Refusal.{Refusal}

-- ---- one block

-- a block that was read, and with which the comparison went on
pub record Read (log : Bytes) (e : Entry) (level : ℕ) (s : Bytes) (next : Bytes → Compared) : Type 0 where
  pub row : Row
  pub read : ReadAs log e level s row
  pub rest-done : (next row.bytes).end ≡ Ok tt

pub read_done : (log : Bytes) (e : Entry) (level : ℕ) (s : Bytes) (next : Bytes → Compared) → (opened log e level s refused next).end ≡ Ok tt → Read log e level s next
read_done log e level s next d =
    opened_ind log e level s refused next (λ _ c. c.end ≡ Ok tt → Read log e level s next) (λ w z. not_done w z) (λ r R z. record { row = r; read = R; rest-done = z }) d

-- ---- one unit

pub spending-done : (nest left : ℕ) (c : Compared) → (spending nest left c).end ≡ Ok tt → (0 < left) × (c.end ≡ Ok tt) × (spending nest left c ≡ one_unit c)
unfolding spending
spending-done nest left c d = go (ltb 16 nest) (eqb left 0) refl d
  where
    go : (a b : Bool) → eqb left 0 ≡ b → (cond a (refused Nest) (cond b (refused Spent) (one_unit c))).end ≡ Ok tt
        → (0 < left) × (c.end ≡ Ok tt) × (cond a (refused Nest) (cond b (refused Spent) (one_unit c)) ≡ one_unit c)
    go true b q z = not_done _ z
    go false true q z = not_done _ z
    go false false q z = let p = eqb-false left 0 q in (omega arith, z, refl)

-- ---- positions in order

pub and-then-done : (e : Result ⊤ Refusal) (m n : ℕ) (k : ℕ → ℕ → Compared) → (and_then e m n k).end ≡ Ok tt → (e ≡ Ok tt) × ((k m n).end ≡ Ok tt)
and-then-done (Ok tt) m n k h = (refl, h)
and-then-done (Err w) m n k h = not_done w h

pub and-then-is : (e : Result ⊤ Refusal) (m n : ℕ) (k : ℕ → ℕ → Compared) → e ≡ Ok tt → and_then e m n k ≡ k m n
and-then-is e m n k h = rw h

module _ (at : ℕ → ℕ → Compared) (left : ℕ) where
  -- the first position was done, and the rest went on from it
  first_done : (k i m n : ℕ) → (in_order at left (suc k) i m n).end ≡ Ok tt
      → ((at i (left - n)).end ≡ Ok tt) × (in_order at left (suc k) i m n ≡ in_order at left k (suc i) (m + (at i (left - n)).count) (n + (at i (left - n)).units))
  unfolding in_order
  first_done k i m n d =
      let q = and-then-done (at i (left - n)).end _ _ _ d in (q.0, and-then-is (at i (left - n)).end _ _ (λ m n. in_order at left k (suc i) m n) q.0)

  -- the count never falls
  count-from : (k i m n : ℕ) → (in_order at left k i m n).end ≡ Ok tt → m ≤ (in_order at left k i m n).count
  unfolding in_order
  count-from zero i m n d = omega arith
  count-from (suc k) i m n d =
      let f = first_done k i m n d in
      let r = count-from k (suc i) (m + (at i (left - n)).count) (n + (at i (left - n)).units) (ap (λ (c : Compared). c.end) (sym f.1) ∙ d) in
      let z = ap (λ (c : Compared). c.count) f.1 in
      omega (arith, r, z)

  -- where nothing was counted, each position was done and counted nothing, with no more than what was left
  pub each_none : (P : ℕ → Type 0) → ((p a : ℕ) → a ≤ left → (at p a).end ≡ Ok tt → (at p a).count ≡ 0 → P p)
      → (k i m n : ℕ) → (in_order at left k i m n).end ≡ Ok tt → (in_order at left k i m n).count ≡ 0 → (p : ℕ) → i ≤ p → p < i + k → P p
  each_none P f zero i m n d z p h l = absurd (omega arith)
  each_none P f (suc k) i m n d z p h l =
      let g = first_done k i m n d in
      let d' = ap (λ (c : Compared). c.end) (sym g.1) ∙ d in
      let z' = ap (λ (c : Compared). c.count) (sym g.1) ∙ z in
      let r = count-from k (suc i) (m + (at i (left - n)).count) (n + (at i (left - n)).units) d' in
      here (eqb p i) refl (f i (left - n) (omega arith) g.0 (omega (arith, r, z'))) (each_none P f k (suc i) _ _ d' z')
    where
      here : (t : Bool) → eqb p i ≡ t → P i → ((q : ℕ) → suc i ≤ q → q < suc i + k → P q) → P p
      here true y x r = subst P (sym (eqb-true p i y)) x
      here false y x r = let w = eqb-false p i y in r p (omega arith) (omega arith)

  -- where no position counts anything, nothing is counted
  pub none-counted : ((i a : ℕ) → (at i a).end ≡ Ok tt → (at i a).count ≡ 0) → (k i m n : ℕ) → (in_order at left k i m n).end ≡ Ok tt → (in_order at left k i m n).count ≡ m
  unfolding in_order
  none-counted f zero i m n d = refl
  none-counted f (suc k) i m n d =
      let g = first_done k i m n d in
      let r = none-counted f k (suc i) (m + (at i (left - n)).count) (n + (at i (left - n)).units) (ap (λ (c : Compared). c.end) (sym g.1) ∙ d) in
      let z = ap (λ (c : Compared). c.count) g.1 in
      omega (arith, r, z, f i (left - n) g.0)
