-- Positions in order: what is known at the head of the loop over them, and how it goes on, stops or ends.
use Prim.Native.Nat.{ℕ, suc, ◌+◌, ◌-◌, ◌*◌, ◌≤◌, ◌<◌}
use mathlib.Core.Path.{◌≡◌, ◌∙◌}
use native.Mathlib.Nat.{sub-zero}
use native.Mathlib.Numerals.{add-one}
use native.Mathlib.Omega.{arith}
use Rattle.refusal.specs.declared.Refusal.{Refusal}
use Rattle.comparison.specs.declared.Compared.{Compared}
use Rattle.comparison.specs.Compared.{compared, in_order}
use Rattle.comparison.proofs.Bounds.{Within}
use Rattle.std.specs.Prelude.{Ok, Err}

module _ (at : ℕ → ℕ → Compared) (left i k m n : ℕ) where
  first_done : (j : ℕ) (r : Compared) → r ≡ at i (left - n) → r.end ≡ Ok tt → k ≡ suc j
      → in_order at left j (i + 1) (m + r.count) (n + r.units) ≡ in_order at left k i m n
  unfolding in_order
  first_done j r e d h = rw (h, add-one i, ← e, d)

  first-refused : (j : ℕ) (r : Compared) (w : Refusal) → r ≡ at i (left - n) → r.end ≡ Err w → k ≡ suc j
      → compared (m + r.count) (n + r.units) r.end ≡ in_order at left k i m n
  unfolding in_order
  first-refused j r w e d h = rw (h, ← e, d)

  none_left : k ≡ 0 → compared m n (Ok tt) ≡ in_order at left k i m n
  unfolding in_order
  none_left e = rw e

-- v is what all positions give, by every bound on the calls that is enough
abbrev pub OfAll : (ℕ → ℕ → ℕ → Compared) → ℕ → ℕ → Compared → Type 0
OfAll at left most v = (f : ℕ) → left < f → v ≡ in_order (at f) left most 0 0 0

-- at position i, with m differences counted and n units spent: the rest gives what all give
pub record Rest (at : ℕ → ℕ → ℕ → Compared) (left most m n i : ℕ) : Type 0 where
  pub index : i ≤ most
  pub spent : n ≤ left
  pub counted : m ≤ 1433 * n + i
  pub rest : (f : ℕ) → left < f → in_order (at f) left (most - i) i m n ≡ in_order (at f) left most 0 0 0

pub rest-at-first : (at : ℕ → ℕ → ℕ → Compared) (left most : ℕ) → Rest at left most 0 0 0
rest-at-first at left most = record { index = omega arith; spent = omega arith; counted = omega arith; rest = λ f h. rw sub-zero }

module _ {at : ℕ → ℕ → ℕ → Compared} {left most m n i : ℕ} (R : Rest at left most m n i) where
  pub all_done : most ≤ i → OfAll at left most (compared m n (Ok tt))
  all_done h f l = none_left (at f) left i (most - i) m n (omega arith) ∙ R.rest f l

  -- what a position gives, with what was left of the allowance
  module _ (h : i < most) (r : Compared) (e : (f : ℕ) → left - n < f → r ≡ at f i (left - n)) where
    pub rest_goes_on : Within (left - n) 1 r → r.end ≡ Ok tt → Rest at left most (m + r.count) (n + r.units) (i + 1)
    rest_goes_on w d = record {
      index = omega arith;
      spent = omega (arith, R.spent, w.0);
      counted = omega (arith, R.counted, w.1);
      rest = λ f l. first_done (at f) left i (most - i) m n (most - (i + 1)) r (e f (omega arith)) d (omega arith) ∙ R.rest f l;
    }

    pub refused_stops : (x : Refusal) → r.end ≡ Err x → OfAll at left most (compared (m + r.count) (n + r.units) r.end)
    refused_stops x d f l = first-refused (at f) left i (most - i) m n (most - (i + 1)) r x (e f (omega arith)) d (omega arith) ∙ R.rest f l
