-- Two entries: the verdict by its tests, what each verdict says, and the same verdict from either side.
use mathlib.Core.Path.{◌≡◌, refl, sym, ap, ap₂, ◌∙◌}
use mathlib.Core.Bool.{Bool, true, false, not, cond, ◌&&◌, ◌||◌, or_comm}
use mathlib.Core.Logic.{◌⊎◌, inl, inr}
use Prim.Native.Nat.{ℕ}
use native.Mathlib.Omega.{arith}
use lib.Dec.{eqb}
use lib.ListN.{length, take, drop}
use lib.Seq.{take_all}
use borrow.Author.Tests.{eqb-true, eqb-false, eq-eqb, ne_eqb}
use Rattle.bedrock.proofs.Choices.{and-true, and_comm}
use Rattle.buffer.specs.Bytes.{Bytes, same}
use Rattle.buffer.proofs.Bytes.{same_refl, same_true}
use Rattle.entry.specs.declared.Entry.{Entry}
use Rattle.entry.specs.Entry.{entry_of, well_formed}
use Rattle.verdict.specs.declared.Verdict.{Verdict}
use Rattle.verdict.specs.declared.Verdict.TheVariants.{Skip, IllFormed, Open, Differ}
use Rattle.verdict.specs.Verdict.{same_shape, verdict_of, verdict}

-- ---- what each verdict says

-- equal entries, ill-formed or not
pub equal_skip : (x : Bytes) → verdict x x ≡ Skip
unfolding verdict
equal_skip x = rw (same_refl x)

-- the verdict by its tests: which is active, which is well-formed, and whether they have one shape
abbrev verdict_by : Bool → Bool → Bool → Bool → Bool → Verdict
verdict_by p q w v s = cond (p || q) (cond ((p && not w) || (q && not v)) IllFormed (cond ((p && q) && s) Open Differ)) Skip

-- two directories that are opened
pub record Opening (e d : Entry) : Type 0 where
  pub first-active : e.active ≡ true
  pub second-active : d.active ≡ true
  pub first-formed : well_formed e ≡ true
  pub second-formed : well_formed d ≡ true
  pub directory : e.directory ≡ true
  pub second-directory : d.directory ≡ true
  pub psize : e.psize ≡ d.psize
  pub dsize : e.dsize ≡ d.dsize
  pub depth : e.depth ≡ d.depth

module _ (e d : Entry) where
  skip_by : (p q w v s : Bool) → e.active ≡ p → d.active ≡ q → verdict_by p q w v s ≡ Skip → (e.active ≡ false) × (d.active ≡ false)
  skip_by true true true true true p q x = let z : ◌≡◌ {A = ℕ} 0 1 = cc in absurd (omega arith)
  skip_by true true true true false p q x = let z : ◌≡◌ {A = ℕ} 0 1 = cc in absurd (omega arith)
  skip_by true true true false t p q x = let z : ◌≡◌ {A = ℕ} 0 1 = cc in absurd (omega arith)
  skip_by true true false u t p q x = let z : ◌≡◌ {A = ℕ} 0 1 = cc in absurd (omega arith)
  skip_by true false true u t p q x = let z : ◌≡◌ {A = ℕ} 0 1 = cc in absurd (omega arith)
  skip_by true false false u t p q x = let z : ◌≡◌ {A = ℕ} 0 1 = cc in absurd (omega arith)
  skip_by false true r true t p q x = let z : ◌≡◌ {A = ℕ} 0 1 = cc in absurd (omega arith)
  skip_by false true r false t p q x = let z : ◌≡◌ {A = ℕ} 0 1 = cc in absurd (omega arith)
  skip_by false false r u t p q x = (p, q)

  open_by : (p q w v s : Bool) → e.active ≡ p → d.active ≡ q → well_formed e ≡ w → well_formed d ≡ v → same_shape e d ≡ s → verdict_by p q w v s ≡ Open → Opening e d
  unfolding same_shape
  open_by true true true true true p q w v s x =
      let k = and-true (e.directory && d.directory) _ s in
      let g = and-true e.directory d.directory k.0 in
      let a = and-true (eqb e.psize d.psize) _ k.1 in
      let b = and-true (eqb e.dsize d.dsize) _ a.1 in
      record {
        first-active = p;
        second-active = q;
        first-formed = w;
        second-formed = v;
        directory = g.0;
        second-directory = g.1;
        psize = eqb-true e.psize d.psize a.0;
        dsize = eqb-true e.dsize d.dsize b.0;
        depth = eqb-true e.depth d.depth b.1;
      }
  open_by true true true true false p q w v s x = let z : ◌≡◌ {A = ℕ} 0 1 = cc in absurd (omega arith)
  open_by true true true false t p q w v s x = let z : ◌≡◌ {A = ℕ} 0 1 = cc in absurd (omega arith)
  open_by true true false u t p q w v s x = let z : ◌≡◌ {A = ℕ} 0 1 = cc in absurd (omega arith)
  open_by true false true u t p q w v s x = let z : ◌≡◌ {A = ℕ} 0 1 = cc in absurd (omega arith)
  open_by true false false u t p q w v s x = let z : ◌≡◌ {A = ℕ} 0 1 = cc in absurd (omega arith)
  open_by false true r true t p q w v s x = let z : ◌≡◌ {A = ℕ} 0 1 = cc in absurd (omega arith)
  open_by false true r false t p q w v s x = let z : ◌≡◌ {A = ℕ} 0 1 = cc in absurd (omega arith)
  open_by false false r u t p q w v s x = let z : ◌≡◌ {A = ℕ} 0 1 = cc in absurd (omega arith)

module _ (x y : Bytes) where
  -- skipped: the same 40 bytes, or two that are inactive
  pub skip_says : verdict x y ≡ Skip → (x ≡ y) ⊎ (((entry_of x).active ≡ false) × ((entry_of y).active ≡ false))
  unfolding verdict verdict_of
  skip_says h = go (same x y) refl h
    where
      go : (t : Bool) → same x y ≡ t → cond t Skip (verdict_of (entry_of x) (entry_of y)) ≡ Skip → (x ≡ y) ⊎ (((entry_of x).active ≡ false) × ((entry_of y).active ≡ false))
      go true q z = inl (same_true x y q)
      go false q z =
          inr (skip_by (entry_of x) (entry_of y) (entry_of x).active (entry_of y).active (well_formed (entry_of x)) (well_formed (entry_of y)) (same_shape (entry_of x) (entry_of y)) refl refl z)

  -- opened: two active, well-formed directories of one shape
  pub open_says : verdict x y ≡ Open → Opening (entry_of x) (entry_of y)
  unfolding verdict verdict_of
  open_says h = go (same x y) h
    where
      go : (t : Bool) → cond t Skip (verdict_of (entry_of x) (entry_of y)) ≡ Open → Opening (entry_of x) (entry_of y)
      go true z = let n : ◌≡◌ {A = ℕ} 0 1 = cc in absurd (omega arith)
      go false z =
          open_by (entry_of x) (entry_of y) (entry_of x).active (entry_of y).active (well_formed (entry_of x)) (well_formed (entry_of y)) (same_shape (entry_of x) (entry_of y)) refl refl refl refl refl z

-- two inactive ones
pub inactive_skip : (x y : Bytes) → (entry_of x).active ≡ false → (entry_of y).active ≡ false → verdict x y ≡ Skip
unfolding verdict verdict_of
inactive_skip x y p q = rw (p, q) (go (same x y))
  where
    go : (t : Bool) → cond t Skip Skip ≡ Skip
    go true = refl
    go false = refl

-- ---- from either side

pub same_comm : (x y : Bytes) → same x y ≡ same y x
same_comm x y = go (same x y) (same y x) refl refl
  where
    go : (p q : Bool) → same x y ≡ p → same y x ≡ q → p ≡ q
    go true true p q = refl
    go false false p q = refl
    go true false p q = sym (ap (λ (z : Bytes). same z x) (sym (same_true x y p)) ∙ same_refl x) ∙ q
    go false true p q = sym p ∙ ap (λ (z : Bytes). same x z) (same_true y x q) ∙ same_refl x

eqb_comm : (m n : ℕ) → eqb m n ≡ eqb n m
eqb_comm m n = go (eqb n m) refl
  where
    go : (t : Bool) → eqb n m ≡ t → eqb m n ≡ t
    go true q = eq-eqb m n (sym (eqb-true n m q))
    go false q = ne_eqb m n (λ z. eqb-false n m q (sym z))

shape_comm : (e d : Entry) → same_shape e d ≡ same_shape d e
unfolding same_shape
shape_comm e d =
    rw (and_comm e.directory d.directory, eqb_comm e.psize d.psize, eqb_comm e.dsize d.dsize, eqb_comm e.depth d.depth)

-- a directory has its own shape
pub shape_self : (e : Entry) → e.directory ≡ true → same_shape e e ≡ true
unfolding same_shape
shape_self e d = rw (d, eq-eqb e.psize e.psize refl, eq-eqb e.dsize e.dsize refl, eq-eqb e.depth e.depth refl)

verdict-of_comm : (e d : Entry) → verdict_of e d ≡ verdict_of d e
unfolding verdict_of
verdict-of_comm e d =
    rw (shape_comm e d, and_comm e.active d.active, or_comm e.active d.active, or_comm (e.active && not (well_formed e)) (d.active && not (well_formed d)))

pub verdict_comm : (x y : Bytes) → verdict x y ≡ verdict y x
unfolding verdict
verdict_comm x y = ap₂ (λ (t : Bool) (v : Verdict). cond t Skip v) (same_comm x y) (verdict-of_comm (entry_of x) (entry_of y))

-- ---- by the program's tests

module _ (e d : Entry) where
  pub by_tests_lem : (p q w v s : Bool) → e.active ≡ p → d.active ≡ q → well_formed e ≡ w → well_formed d ≡ v → same_shape e d ≡ s → verdict_by p q w v s ≡ verdict_of e d
  unfolding verdict_of
  by_tests_lem p q w v s ep eq ew ev es = λ i. verdict_by (sym ep i) (sym eq i) (sym ew i) (sym ev i) (sym es i)

  pub only-second : e.active ≡ false → d.active ≡ true → cond (well_formed d) Differ IllFormed ≡ verdict_of e d
  only-second p q = go (well_formed d) refl
    where
      go : (t : Bool) → well_formed d ≡ t → cond t Differ IllFormed ≡ verdict_of e d
      go true z = by_tests_lem false true (well_formed e) true (same_shape e d) p q refl z refl
      go false z = by_tests_lem false true (well_formed e) false (same_shape e d) p q refl z refl

  pub only-first : e.active ≡ true → d.active ≡ false → cond (well_formed e) Differ IllFormed ≡ verdict_of e d
  only-first p q = go (well_formed e) refl
    where
      go : (t : Bool) → well_formed e ≡ t → cond t Differ IllFormed ≡ verdict_of e d
      go true z = by_tests_lem true false true (well_formed d) (same_shape e d) p q z refl refl
      go false z = by_tests_lem true false false (well_formed d) (same_shape e d) p q z refl refl

  abbrev shape_by : Bool → Bool → Bool → Bool → Bool → Bool
  shape_by p q a b c = (p && q) && (a && (b && c))

  shape_by_lem : (p q a b : Bool) → e.directory ≡ p → d.directory ≡ q → eqb e.psize d.psize ≡ a → eqb e.dsize d.dsize ≡ b
      → shape_by p q a b (eqb e.depth d.depth) ≡ same_shape e d
  unfolding same_shape
  shape_by_lem p q a b ep eq ea eb = λ i. shape_by (sym ep i) (sym eq i) (sym ea i) (sym eb i) (eqb e.depth d.depth)

  pub first_no_directory : e.directory ≡ false → false ≡ same_shape e d
  first_no_directory p = shape_by_lem false d.directory _ _ p refl refl refl

  module _ (p : e.directory ≡ true) where
    pub second_no_directory : d.directory ≡ false → false ≡ same_shape e d
    second_no_directory q = shape_by_lem true false _ _ p q refl refl

    module _ (q : d.directory ≡ true) where
      pub other_psize : (e.psize ≡ d.psize → ⊥) → false ≡ same_shape e d
      other_psize a = shape_by_lem true true false _ p q (ne_eqb e.psize d.psize a) refl

      module _ (a : e.psize ≡ d.psize) where
        pub other_dsize : (e.dsize ≡ d.dsize → ⊥) → false ≡ same_shape e d
        other_dsize b = shape_by_lem true true true false p q (eq-eqb e.psize d.psize a) (ne_eqb e.dsize d.dsize b)

        pub by_depth : e.dsize ≡ d.dsize → eqb e.depth d.depth ≡ same_shape e d
        by_depth b = shape_by_lem true true true true p q (eq-eqb e.psize d.psize a) (eq-eqb e.dsize d.dsize b)

module _ (x y : Bytes) where
  pub equal-bytes : same x y ≡ true → Skip ≡ verdict x y
  unfolding verdict
  equal-bytes q = rw q

  pub other_bytes : length x ≡ 40 → length y ≡ 40 → same x y ≡ false → {e d : Entry} → e ≡ entry_of (take 40 (drop 0 x)) → d ≡ entry_of (take 40 (drop 0 y))
      → verdict_of e d ≡ verdict x y
  unfolding verdict
  other_bytes lx ly q ee ed = rw q (ap₂ verdict_of (ee ∙ ap entry_of (take_all 40 x (omega arith))) (ed ∙ ap entry_of (take_all 40 y (omega arith))))
