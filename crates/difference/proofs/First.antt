-- The first difference is pinned: it is one, there is none before it, and it is the same from either side.
use mathlib.Core.Path.{◌≡◌, refl, sym, subst, ◌∙◌}
use mathlib.Core.Bool.{Bool, true, false, cond, ◌&&◌, false≢true}
use Prim.Native.Nat.{ℕ, zero, suc, ◌+◌, ◌-◌, ◌*◌, ◌/◌, ◌%◌, ◌≤◌, ◌<◌, min, max}
use native.Mathlib.Nat.{max_comm}
use native.Mathlib.Omega.{arith}
use lib.Dec.{ltb, eqb}
use lib.ListN.{length, length-take, length-drop}
use borrow.Author.Tests.{ltb-true, ltb-false, eqb-true, eqb-false}
use Rattle.bedrock.proofs.Choices.{cond_ind, and-true, and_comm}
use Rattle.buffer.specs.Bytes.{Bytes}
use Rattle.refusal.specs.declared.Refusal.TheVariants.{Entry as IllFormed}
use Rattle.difference.specs.declared.Side.{Side}
use Rattle.difference.specs.declared.Side.TheVariants as side
use Rattle.difference.specs.declared.Difference.{Difference}
use Rattle.difference.specs.declared.Difference.TheVariants.{First, Second, Nowhere}
use Rattle.difference.specs.Difference.{entry_at, active, side_of, or_else, first_from, block_allowed, difference_of, answer_of}
use Rattle.difference.specs.First.{Agree, FirstAt, Says, SaysTheFirst, NoneInEqual, place_of, SwappedAlike}
use Rattle.difference.proofs.Positions.{past_end, active-within, whole-within, side_agrees, agrees_side, first-active, second-active}
use Rattle.difference.proofs.Rest.{allowed_facts}
use Rattle.std.specs.Prelude.{Ok, Err, Result}
use Rattle.refusal.specs.declared.Refusal.{Refusal}

agrees_back : {a b : Bytes} {i : ℕ} → Agree a b i → Agree b a i
agrees_back A = record { alike = sym A.alike; equal = λ h. sym (A.equal (A.alike ∙ h)) }

-- past the end of both
both-past : (a b : Bytes) (i : ℕ) → length a ≤ 40 * i → length b ≤ 40 * i → Agree a b i
both-past a b i p q = record {
  alike = past_end a i p ∙ sym (past_end b i q);
  equal = λ h. absurd (false≢true (sym (past_end a i p) ∙ h));
}

-- where whole entries are
within : (b : Bytes) (i at : ℕ) → at ≡ 40 * i → length (entry_at b i) ≡ 40 → at + 40 ≤ length b
within b i at e w = let l : length (entry_at b i) ≡ min 40 (length b - 40 * i) = simp (length-take, length-drop) in omega arith

-- ---- what the first of all positions says

-- the first's entry there is active, and the two differ
first-at : (a b : Bytes) (i : ℕ) → length a % 40 ≡ 0 → ((j : ℕ) → j < i → Agree a b j) → active (entry_at a i) ≡ true → (Agree a b i → ⊥) → FirstAt a b (40 * i)
first-at a b i w h p d = record {
  position = i;
  byte = refl;
  is-active = p;
  full-length = whole-within a i (active-within a i w p);
  before = h;
  differ = d;
}

module _ (a b : Bytes) (wa : length a % 40 ≡ 0) (wb : length b % 40 ≡ 0) where
  one_more : (i : ℕ) → ((j : ℕ) → j < i → Agree a b j) → Agree a b i → (j : ℕ) → j < suc i → Agree a b j
  one_more i h x j l = here (eqb j i) refl
    where
      here : (t : Bool) → eqb j i ≡ t → Agree a b j
      here true z = subst (Agree a b) (sym (eqb-true j i z)) x
      here false z = let y = eqb-false j i z in h j (omega arith)

  says-from : (k i : ℕ) → max (length a) (length b) ≤ 40 * (i + k) → ((j : ℕ) → j < i → Agree a b j) → Says a b (first_from a b k i)
  unfolding first_from first-at
  says-from zero i e h = λ j. here j (ltb j i) refl
    where
      here : (j : ℕ) (t : Bool) → ltb j i ≡ t → Agree a b j
      here j true z = h j (ltb-true j i z)
      here j false z = let y = ltb-false j i z in both-past a b j (omega arith) (omega arith)
  says-from (suc k) i e h = here (side_of (entry_at a i) (entry_at b i)) refl (λ q. says-from k (suc i) (omega arith) (one_more i h (side_agrees a b i q)))
    where
      here : (s : Side) → side_of (entry_at a i) (entry_at b i) ≡ s → (side_of (entry_at a i) (entry_at b i) ≡ side.Neither → Says a b (first_from a b k (suc i)))
          → Says a b (or_else s (40 * i) (first_from a b k (suc i)))
      here side.First q r = first-at a b i wa h (first-active a b i q) (λ A. let z = agrees_side a b i A in let n : ◌≡◌ {A = ℕ} 0 1 = cc in absurd (omega arith))
      here side.Second q r =
          let p = second-active a b i q in
          record {
            first = first-at b a i wb (λ j l. agrees_back (h j l)) p.1 (λ A. false≢true (sym p.0 ∙ sym A.alike ∙ p.1));
            inactive = p.0;
          }
      here side.Neither q r = r q

pub says_the_first : SaysTheFirst
unfolding difference_of
says_the_first a b = cond_ind (Says a b) (block_allowed a && block_allowed b) _ _ passed (λ q. (refl, q))
  where
    passed : (block_allowed a && block_allowed b) ≡ true → Says a b (first_from a b (max (length a) (length b) / 40) 0)
    passed q =
        let p = and-true (block_allowed a) (block_allowed b) q in
        let f = allowed_facts a p.0 in
        let g = allowed_facts b p.1 in
        says-from a b f.0 g.0 (max (length a) (length b) / 40) 0 (omega (arith, f.0, g.0)) (λ j l. absurd (omega arith))

-- ---- within the blocks

-- an entry that is handed back lies within its block
pub first-within : (a b : Bytes) (at : ℕ) → difference_of a b ≡ Ok (First at) → at + 40 ≤ length a
first-within a b at e = let s = subst (Says a b) e (says_the_first a b) in within a s.position at s.byte s.full-length

pub second-within : (a b : Bytes) (at : ℕ) → difference_of a b ≡ Ok (Second at) → at + 40 ≤ length b
second-within a b at e = let s = (subst (Says a b) e (says_the_first a b)).first in within b s.position at s.byte s.full-length

-- ---- equal blocks, and the other order

self_agrees : (a : Bytes) (i : ℕ) → Agree a a i
self_agrees a i = record { alike = refl; equal = λ h. refl }

none_from : (a : Bytes) (k i : ℕ) → first_from a a k i ≡ Ok Nowhere
unfolding first_from
none_from a zero i = refl
none_from a (suc k) i = rw (agrees_side a a i (self_agrees a i)) (none_from a k (suc i))

pub none_in_equal : NoneInEqual
unfolding difference_of
none_in_equal a h = rw h (none_from a (max (length a) (length a) / 40) 0)

-- the side from the other side
abbrev Alike : Result Difference Refusal → Result Difference Refusal → Type 0
Alike d e = (place_of d ≡ place_of e) × (answer_of d ≡ answer_of e)

swapped_from : (a b : Bytes) (k i : ℕ) → Alike (first_from b a k i) (first_from a b k i)
unfolding first_from
swapped_from a b zero i = (refl, refl)
swapped_from a b (suc k) i = here (side_of (entry_at b i) (entry_at a i)) (side_of (entry_at a i) (entry_at b i)) refl refl (swapped_from a b k (suc i))
  where
    here : (s t : Side) → side_of (entry_at b i) (entry_at a i) ≡ s → side_of (entry_at a i) (entry_at b i) ≡ t → Alike (first_from b a k (suc i)) (first_from a b k (suc i))
        → Alike (or_else s (40 * i) (first_from b a k (suc i))) (or_else t (40 * i) (first_from a b k (suc i)))
    here side.Neither side.Neither p q r = r
    here side.Neither side.First p q r = let z = agrees_side a b i (agrees_back (side_agrees b a i p)) in let n : ◌≡◌ {A = ℕ} 0 1 = cc in absurd (omega arith)
    here side.Neither side.Second p q r = let z = agrees_side a b i (agrees_back (side_agrees b a i p)) in let n : ◌≡◌ {A = ℕ} 0 1 = cc in absurd (omega arith)
    here side.First side.Neither p q r = let z = agrees_side b a i (agrees_back (side_agrees a b i q)) in let n : ◌≡◌ {A = ℕ} 0 1 = cc in absurd (omega arith)
    here side.Second side.Neither p q r = let z = agrees_side b a i (agrees_back (side_agrees a b i q)) in let n : ◌≡◌ {A = ℕ} 0 1 = cc in absurd (omega arith)
    here side.First side.First p q r = (refl, refl)
    here side.First side.Second p q r = (refl, refl)
    here side.Second side.First p q r = (refl, refl)
    here side.Second side.Second p q r = (refl, refl)

pub swapped_alike : SwappedAlike
unfolding difference_of
swapped_alike a b = rw (and_comm (block_allowed b) (block_allowed a), max_comm (length b) (length a)) (go (block_allowed a && block_allowed b))
  where
    go : (t : Bool) → Alike (cond t (first_from b a (max (length a) (length b) / 40) 0) (Err IllFormed)) (cond t (first_from a b (max (length a) (length b) / 40) 0) (Err IllFormed))
    go true = swapped_from a b (max (length a) (length b) / 40) 0
    go false = (refl, refl)
