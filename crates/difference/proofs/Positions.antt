-- One position of two directory blocks: past the end, within a block, and which entry is handed back.
use mathlib.Core.Path.{◌≡◌, refl, sym, ap, ◌∙◌}
use mathlib.Core.Bool.{Bool, true, false, cond, ◌&&◌, true≢false, false≢true}
use mathlib.Core.List.{[]}
use Prim.Native.Nat.{ℕ, ◌+◌, ◌-◌, ◌*◌, ◌%◌, ◌≤◌}
use native.Mathlib.Omega.{arith}
use lib.Dec.{leb}
use lib.ListN.{length, length-take, length-drop}
use borrow.Author.Tests.{leb-true, leb-false}
use Rattle.buffer.specs.Bytes.{Bytes, same}
use Rattle.buffer.proofs.Bytes.{same_refl, same_true, no_bytes}
use Rattle.digits.specs.Number.{value_from}
use Rattle.entry.specs.Entry.{entry_of}
use Rattle.difference.specs.declared.Side.{Side}
use Rattle.difference.specs.declared.Side.TheVariants.{First, Second, Neither}
use Rattle.difference.specs.Difference.{entry_at, active, side_of}
use Rattle.difference.specs.First.{Agree}

-- ---- where an entry is

nothing-inactive : active [] ≡ false
unfolding entry_of value_from
nothing-inactive = refl

pub past_end : (b : Bytes) (i : ℕ) → length b ≤ 40 * i → active (entry_at b i) ≡ false
past_end b i h = ap active (no_bytes (entry_at b i) (simp (length-take, length-drop) (omega arith))) ∙ nothing-inactive

-- an active entry of whole entries lies within them
pub active-within : (b : Bytes) (i : ℕ) → length b % 40 ≡ 0 → active (entry_at b i) ≡ true → 40 * i + 40 ≤ length b
active-within b i w a = go (leb (length b) (40 * i)) refl
  where
    go : (t : Bool) → leb (length b) (40 * i) ≡ t → 40 * i + 40 ≤ length b
    go true q = absurd (false≢true (sym (past_end b i (leb-true (length b) (40 * i) q)) ∙ a))
    go false q = let h = leb-false (length b) (40 * i) q in omega arith

pub whole-within : (b : Bytes) (i : ℕ) → 40 * i + 40 ≤ length b → length (entry_at b i) ≡ 40
whole-within b i h = simp (length-take, length-drop) (omega arith)

-- ---- what each side says

-- no two of them are the same
first_or_neither : First ≡ Neither → ⊥
first_or_neither e = let z : ◌≡◌ {A = ℕ} 0 1 = cc in omega arith

second_or_neither : Second ≡ Neither → ⊥
second_or_neither e = let z : ◌≡◌ {A = ℕ} 0 1 = cc in omega arith

first_or_second : First ≡ Second → ⊥
first_or_second e = let z : ◌≡◌ {A = ℕ} 0 1 = cc in omega arith

abbrev side_by : Bool → Bool → Bool → Side
side_by p q s = cond p (cond (q && s) Neither First) (cond q Second Neither)

module _ (a b : Bytes) (i : ℕ) where
  abbrev x : Bytes
  x = entry_at a i

  abbrev y : Bytes
  y = entry_at b i

  pub side_agrees : side_of x y ≡ Neither → Agree a b i
  unfolding side_of
  side_agrees e = go (active x) (active y) (same x y) refl refl refl e
    where
      go : (p q s : Bool) → active x ≡ p → active y ≡ q → same x y ≡ s → side_by p q s ≡ Neither → Agree a b i
      go true true true p q s d = record { alike = p ∙ sym q; equal = λ h. same_true x y s }
      go true true false p q s d = absurd (first_or_neither d)
      go true false s' p q s d = absurd (first_or_neither d)
      go false true s' p q s d = absurd (second_or_neither d)
      go false false s' p q s d = record { alike = p ∙ sym q; equal = λ h. absurd (false≢true (sym p ∙ h)) }

  pub agrees_side : Agree a b i → side_of x y ≡ Neither
  unfolding side_of
  agrees_side A = go (active x) (active y) refl refl
    where
      go : (p q : Bool) → active x ≡ p → active y ≡ q → side_by p q (same x y) ≡ Neither
      go true true p q = rw (ap (λ (z : Bytes). same x z) (sym (A.equal p)) ∙ same_refl x)
      go true false p q = absurd (true≢false (sym p ∙ A.alike ∙ q))
      go false true p q = absurd (false≢true (sym p ∙ A.alike ∙ q))
      go false false p q = refl

  pub first-active : side_of x y ≡ First → active x ≡ true
  unfolding side_of
  first-active e = go (active x) (active y) refl e
    where
      go : (p q : Bool) → active x ≡ p → side_by p q (same x y) ≡ First → active x ≡ true
      go true q p d = p
      go false true p d = absurd (first_or_second (sym d))
      go false false p d = absurd (first_or_neither (sym d))

  pub second-active : side_of x y ≡ Second → (active x ≡ false) × (active y ≡ true)
  unfolding side_of
  second-active e = go (active x) (active y) (same x y) refl refl e
    where
      go : (p q s : Bool) → active x ≡ p → active y ≡ q → side_by p q s ≡ Second → (active x ≡ false) × (active y ≡ true)
      go true true true p q d = absurd (second_or_neither (sym d))
      go true true false p q d = absurd (first_or_second d)
      go true false s p q d = absurd (first_or_second d)
      go false true s p q d = (p, q)
      go false false s p q d = absurd (second_or_neither (sym d))

-- ---- which of two entries is handed back

module _ (x y : Bytes) where
  side_by_lem : (p q s : Bool) → p ≡ active x → q ≡ active y → s ≡ same x y → side_by p q s ≡ side_of x y
  unfolding side_of
  side_by_lem p q s ep eq es = rw (ep, eq, es)

  pub only-second : {p q : Bool} → p ≡ active x → q ≡ active y → p ≡ false → q ≡ true → Second ≡ side_of x y
  only-second ep eq p q = side_by_lem false true (same x y) (sym p ∙ ep) (sym q ∙ eq) refl

  pub no_active : {p q : Bool} → p ≡ active x → q ≡ active y → p ≡ false → q ≡ false → Neither ≡ side_of x y
  no_active ep eq p q = side_by_lem false false (same x y) (sym p ∙ ep) (sym q ∙ eq) refl

  module _ {p q : Bool} (ep : p ≡ active x) (eq : q ≡ active y) (hp : p ≡ true) where
    pub only-first : q ≡ false → First ≡ side_of x y
    only-first hq = side_by_lem true false (same x y) (sym hp ∙ ep) (sym hq ∙ eq) refl

    pub both-active : q ≡ true → (s : Bool) → s ≡ same x y → cond s Neither First ≡ side_of x y
    both-active hq s es = side_by_lem true true s (sym hp ∙ ep) (sym hq ∙ eq) es
