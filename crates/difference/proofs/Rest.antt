-- The positions in order: what is known at the head of the loop over them, and how it goes on or ends.
use mathlib.Core.Path.{◌≡◌, ap, sym, ◌∙◌}
use mathlib.Core.Bool.{true, false}
use Prim.Native.Nat.{ℕ, suc, ◌+◌, ◌-◌, ◌*◌, ◌/◌, ◌%◌, ◌≤◌, ◌<◌, max}
use native.Mathlib.Nat.{sub-zero}
use native.Mathlib.Numerals.{add-one}
use native.Mathlib.Omega.{arith}
use lib.Dec.{leb, eqb}
use lib.ListN.{length}
use borrow.Author.Tests.{leb-true, eqb-true}
use Rattle.bedrock.proofs.Choices.{and-true, and-false}
use Rattle.buffer.specs.Bytes.{Bytes}
use Rattle.kind.specs.Kind.{longest}
use Rattle.refusal.specs.declared.Refusal.TheVariants.{Entry as IllFormed}
use Rattle.difference.specs.declared.Side.{Side}
use Rattle.difference.specs.declared.Side.TheVariants.{Neither}
use Rattle.difference.specs.declared.Difference.{Difference}
use Rattle.difference.specs.declared.Difference.TheVariants.{Nowhere}
use Rattle.difference.specs.Difference.{entry_at, side_of, or_else, first_from, block_allowed, difference_of}
use Rattle.std.specs.Prelude.{Ok, Err, Result}
use Rattle.refusal.specs.declared.Refusal.{Refusal}

-- at position i: the rest's first difference is the first of all
pub record Rest (a b : Bytes) (count i : ℕ) : Type 0 where
  pub index : i ≤ count
  pub rest : first_from a b (count - i) i ≡ first_from a b count 0

pub rest-at-first : (a b : Bytes) (count : ℕ) → Rest a b count 0
rest-at-first a b count = record { index = omega arith; rest = rw sub-zero }

one-position : (a b : Bytes) (k j i : ℕ) → k ≡ suc j → or_else (side_of (entry_at a i) (entry_at b i)) (40 * i) (first_from a b j (i + 1)) ≡ first_from a b k i
unfolding first_from
one-position a b k j i e = rw (e, add-one i)

no_position : (a b : Bytes) (k i : ℕ) → k ≡ 0 → Ok Nowhere ≡ first_from a b k i
unfolding first_from
no_position a b k i e = rw e

module _ {a b : Bytes} {count i : ℕ} (R : Rest a b count i) where
  pub none_left : count ≤ i → Ok Nowhere ≡ first_from a b count 0
  none_left h = no_position a b (count - i) i (omega arith) ∙ R.rest

  module _ (h : i < count) {s : Side} (e : s ≡ side_of (entry_at a i) (entry_at b i)) where
    here : or_else s (40 * i) (first_from a b (count - (i + 1)) (i + 1)) ≡ first_from a b count 0
    here = ap (λ (t : Side). or_else t (40 * i) (first_from a b (count - (i + 1)) (i + 1))) e ∙ one-position a b (count - i) (count - (i + 1)) i (omega arith) ∙ R.rest

    pub ends_here : {t : Side} → s ≡ t → or_else t (40 * i) (first_from a b (count - (i + 1)) (i + 1)) ≡ first_from a b count 0
    ends_here d = ap (λ (t : Side). or_else t (40 * i) (first_from a b (count - (i + 1)) (i + 1))) (sym d) ∙ here

    pub goes_on_lem : s ≡ Neither → Rest a b count (i + 1)
    goes_on_lem d = record { index = omega arith; rest = ends_here d }

-- ---- the tests

pub allowed_facts : (b : Bytes) → block_allowed b ≡ true → (length b % 40 ≡ 0) × (length b ≤ longest)
unfolding block_allowed
allowed_facts b e = let p = and-true (eqb (length b % 40) 0) (leb (length b) longest) e in (eqb-true (length b % 40) 0 p.0, leb-true (length b) longest p.1)

module _ (a b : Bytes) where
  pub first-refused : block_allowed a ≡ false → Err IllFormed ≡ difference_of a b
  unfolding difference_of
  first-refused e = rw e

  pub second-refused : block_allowed b ≡ false → Err IllFormed ≡ difference_of a b
  unfolding difference_of
  second-refused e = rw (e, and-false (block_allowed a))

  pub both-allowed : block_allowed a ≡ true → block_allowed b ≡ true → {d : Result Difference Refusal} {count : ℕ} → count ≡ max (length a) (length b) → d ≡ first_from a b (count / 40) 0 → d ≡ difference_of a b
  unfolding difference_of
  both-allowed p q {d} e f = f ∙ rw (p, q, e)
