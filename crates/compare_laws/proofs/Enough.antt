-- A bound on the calls that is more than what is left of the allowance changes nothing.
use mathlib.Core.Path.{◌≡◌, refl, ap}
use mathlib.Core.Bool.{Bool, true, false, cond}
use Prim.Native.Nat.{ℕ, zero, suc, ◌+◌, ◌-◌, ◌≤◌, ◌<◌, max}
use native.Mathlib.Omega.{arith}
use lib.Dec.{eqb, ltb}
use lib.ListN.{length}
use borrow.Author.Tests.{eqb-false}
use Rattle.buffer.specs.Bytes.{Bytes, same}
use Rattle.refusal.specs.declared.Refusal.TheVariants.{Nest, Spent}
use Rattle.entry.specs.declared.Entry.{Entry}
use Rattle.entry.specs.Entry.{entry_of, score_of}
use Rattle.tree.specs.Tree.{pointer}
use Rattle.verdict.specs.Verdict.{verdict}
use Rattle.pair.specs.Opened.{opened}
use Rattle.comparison.specs.declared.Compared.{Compared}
use Rattle.comparison.specs.Compared.{none, refused, one_unit, and_then, in_order}
use Rattle.comparison.specs.Compare.{Blocks, by_verdict, listed, position_by, positions, spending, below_by, pair_by, compare_blocks}
use Rattle.compare_laws.specs.Enough.{Enough}
use Rattle.std.specs.Prelude.{Ok, Err, Result, ⊤}
use Rattle.refusal.specs.declared.Refusal.{Refusal}

and-then-same : (e : Result ⊤ Refusal) (m n : ℕ) (k k' : ℕ → ℕ → Compared) → ((m n : ℕ) → k m n ≡ k' m n) → and_then e m n k ≡ and_then e m n k'
and-then-same (Ok tt) m n k k' h = h m n
and-then-same (Err w) m n k k' h = refl

-- two ways to compare a position that agree within the allowance give the same of any positions
order_same : (at at' : ℕ → ℕ → Compared) (left : ℕ) → ((i a : ℕ) → a ≤ left → at i a ≡ at' i a) → (k i m n : ℕ) → in_order at left k i m n ≡ in_order at' left k i m n
unfolding in_order
order_same at at' left h zero i m n = refl
order_same at at' left h (suc k) i m n =
    rw (h i (left - n) (omega arith))
    (and-then-same (at' i (left - n)).end (m + (at' i (left - n)).count) (n + (at' i (left - n)).units) _ _ (λ m n. order_same at at' left h k (suc i) m n))

spending-same : (nest left : ℕ) (c c' : Compared) → (0 < left → c ≡ c') → spending nest left c ≡ spending nest left c'
unfolding spending
spending-same nest left c c' h = ap (cond (ltb 16 nest) (refused Nest)) (go (eqb left 0) refl)
  where
    go : (b : Bool) → eqb left 0 ≡ b → cond b (refused Spent) (one_unit c) ≡ cond b (refused Spent) (one_unit c')
    go true q = refl
    go false q = let z = eqb-false left 0 q in ap one_unit (h (omega arith))

-- two ways to compare blocks that agree with less than what is left
module _ (B B' : Blocks) (log : Bytes) (e : Entry) (level nest : ℕ) (s t : Bytes) (left : ℕ)
    (h : (e : Entry) (l n : ℕ) (s t : Bytes) (a : ℕ) → a < left → B e l n s t a ≡ B' e l n s t a) where
  position-same : (b c : Bytes) (i a : ℕ) → a < left → position_by B e level nest b c i a ≡ position_by B' e level nest b c i a
  position-same b c i a l =
      λ j. cond (eqb level 0)
      (by_verdict (verdict (listed b i) (listed c i))
      (h (entry_of (listed b i)) (entry_of (listed b i)).depth (nest + 1) (score_of (listed b i)) (score_of (listed c i)) a l j))
      (h e (level - 1) nest (pointer b i) (pointer c i) a l j)

  below-same : 0 < left → (b c : Bytes) → below_by B e level nest b c (left - 1) ≡ below_by B' e level nest b c (left - 1)
  below-same p b c =
      order_same _ _ (left - 1) (λ i a l. position-same b c i a (omega arith)) (max (positions level (length b)) (positions level (length c))) 0 0 0

  pub pair_same : pair_by B log e level nest s t left ≡ pair_by B' log e level nest s t left
  pair_same =
      ap (cond (same s t) none)
      (spending-same nest left _ _ (λ p j. opened log e level s refused (λ b. opened log e level t refused (λ c. below-same p b c j))))

pub enough : Enough
unfolding compare_blocks
enough zero g log e level nest s t left hf hg = absurd (omega arith)
enough (suc f) zero log e level nest s t left hf hg = absurd (omega arith)
enough (suc f) (suc g) log e level nest s t left hf hg =
    pair_same _ _ log e level nest s t left (λ e l n s t a h. enough f g log e l n s t a (omega arith) (omega arith))
