-- Pieces taken in order, each with what is left of an allowance and a state that it may change: what is known at the head of a loop over them, and how it
-- goes on, stops or ends. The walk has no state; a copy has the second log.
use Prim.Native.Nat.{ℕ, suc, ◌+◌, ◌-◌, ◌≤◌, ◌<◌}
use mathlib.Core.Path.{◌≡◌, ◌∙◌}
use native.Mathlib.Nat.{sub-zero}
use native.Mathlib.Numerals.{add-one}
use native.Mathlib.Omega.{arith}
use Rattle.buffer.specs.Bytes.{Bytes}
use Rattle.refusal.specs.declared.Refusal.{Refusal}
use Rattle.visit.specs.declared.Walked.{Walked}
use Rattle.tree.specs.Tree.{piece}
use Rattle.visit.specs.Visit.{walked}
use Rattle.descent.specs.Descent.{in_order}
use Rattle.std.specs.Prelude.{Ok, Err}

-- what piece i gives with an allowance, and what k pieces from piece i on give with n visits spent, by every bound f on the calls
pub record Pieces (S A : Type 0) : Type 0 where
  pub left : ℕ
  pub told : Walked → S → A
  pub one : (f i a : ℕ) → S → A
  pub all : (f k i n : ℕ) → S → A

pub record InOrder {S A : Type 0} (P : Pieces S A) : Type 0 where
  pub first_done : (f i k n : ℕ) (s : S) (j : ℕ) (r : Walked) (t : S) → P.told r t ≡ P.one f i (P.left - n) s → r.end ≡ Ok tt → k ≡ suc j
      → P.all f j (i + 1) (n + r.visits) t ≡ P.all f k i n s
  pub first-refused : (f i k n : ℕ) (s : S) (j : ℕ) (r : Walked) (t : S) (x : Refusal) → P.told r t ≡ P.one f i (P.left - n) s → r.end ≡ Err x → k ≡ suc j
      → P.told (walked (n + r.visits) r.end) t ≡ P.all f k i n s
  pub none_left : (f i k n : ℕ) (s : S) → k ≡ 0 → P.told (walked n (Ok tt)) s ≡ P.all f k i n s

-- v and s are what all pieces give from s₀ on, within the allowance and by every bound on the calls that is enough
abbrev pub OfAll : {S A : Type 0} → Pieces S A → ℕ → S → Walked → S → Type 0
OfAll P count s₀ v s = (v.visits ≤ P.left) × ((f : ℕ) → P.left + P.left + 1 ≤ f → P.told v s ≡ P.all f count 0 0 s₀)

-- at piece i, with n visits spent and the state s: the rest gives what all give
pub record Rest {S A : Type 0} (P : Pieces S A) (count : ℕ) (s₀ : S) (n i : ℕ) (s : S) : Type 0 where
  pub laws : InOrder P
  pub index : i ≤ count
  pub spent : n ≤ P.left
  pub rest : (f : ℕ) → P.left + P.left + 1 ≤ f → P.all f (count - i) i n s ≡ P.all f count 0 0 s₀

pub rest-at-first : {S A : Type 0} {P : Pieces S A} → InOrder P → (count : ℕ) (s₀ : S) → Rest P count s₀ 0 0 s₀
rest-at-first I count s₀ = record { laws = I; index = omega arith; spent = omega arith; rest = λ f h. rw sub-zero }

module _ {S A : Type 0} {P : Pieces S A} {count : ℕ} {s₀ : S} {n i : ℕ} {s : S} (R : Rest P count s₀ n i s) where
  pub all_done : count ≤ i → OfAll P count s₀ (walked n (Ok tt)) s
  all_done h = (R.spent, λ f l. R.laws.none_left f i (count - i) n s (omega arith) ∙ R.rest f l)

  -- a piece's visits, with what was left of the allowance
  module _ (h : i < count) (r : Walked) (t : S) (v : r.visits ≤ P.left - n)
      (e : (f : ℕ) → (P.left - n) + (P.left - n) + 1 ≤ f → P.told r t ≡ P.one f i (P.left - n) s) where
    pub rest_goes_on : r.end ≡ Ok tt → Rest P count s₀ (n + r.visits) (i + 1) t
    rest_goes_on d = record {
      laws = R.laws;
      index = omega arith;
      spent = omega (arith, R.spent);
      rest = λ f l. R.laws.first_done f i (count - i) n s (count - (i + 1)) r t (e f (omega arith)) d (omega arith) ∙ R.rest f l;
    }

    pub refused_stops : (x : Refusal) → r.end ≡ Err x → OfAll P count s₀ (walked (n + r.visits) r.end) t
    refused_stops x d = (
      omega (arith, R.spent),
      λ f l. R.laws.first-refused f i (count - i) n s (count - (i + 1)) r t x (e f (omega arith)) d (omega arith) ∙ R.rest f l,
    )

-- ---- the pieces of a walk

abbrev pub walk_pieces : (ℕ → Bytes → ℕ → Walked) → ℕ → Bytes → ℕ → Pieces Unit Walked
walk_pieces go w b left = record { left = left; told = λ r s. r; one = λ f i a s. go f (piece w i b) a; all = λ f k i n s. in_order (go f) w b left k i n }

pub walk_in_order : (go : ℕ → Bytes → ℕ → Walked) (w : ℕ) (b : Bytes) (left : ℕ) → InOrder (walk_pieces go w b left)
unfolding in_order
walk_in_order go w b left = record {
  first_done = λ f i k n s j r t e d h. rw (h, add-one i, ← e, d);
  first-refused = λ f i k n s j r t x e d h. rw (h, ← e, d);
  none_left = λ f i k n s e. rw e;
}
