-- The order of names: nothing is before itself, and what rises goes on rising.
use mathlib.Core.Path.{◌≡◌, refl, ◌∙◌}
use mathlib.Core.Bool.{true, false, ◌&&◌, ◌||◌, false≢true}
use mathlib.Core.List.{[], ◌∷◌}
use mathlib.Core.Logic.{◌⊎◌, inl, inr}
use native.Mathlib.Omega.{arith}
use lib.Dec.{ltb, eqb}
use borrow.Author.Tests.{ltb-true, eqb-true, lt-ltb, le-ltb, eq-eqb}
use Rattle.bedrock.proofs.Choices.{and-true, or_cases, or_right}
use Rattle.buffer.specs.Bytes.{Bytes}
use Rattle.antigen.specs.Name.{before}

-- "strictly rising": so one antigen has one line
pub before_self : (x : Bytes) → before x x ≡ false
unfolding before
before_self [] = refl
before_self (a ∷ x) = rw (le-ltb a a (omega arith), eq-eqb a a refl) (before_self x)

pub before_trans : (x y z : Bytes) → before x y ≡ true → before y z ≡ true → before x z ≡ true
unfolding before
before_trans x [] z e f = absurd (none x e)
  where
    none : (x : Bytes) → before x [] ≡ true → ⊥
    none [] e = false≢true e
    none (a ∷ x) e = false≢true e
before_trans x (b ∷ y) [] e f = absurd (false≢true f)
before_trans [] (b ∷ y) (c ∷ z) e f = refl
before_trans (a ∷ x) (b ∷ y) (c ∷ z) e f = go (or_cases (ltb a b) (eqb a b && before x y) e) (or_cases (ltb b c) (eqb b c && before y z) f) (before_trans x y z)
  where
    go : (ltb a b ≡ true) ⊎ ((eqb a b && before x y) ≡ true) → (ltb b c ≡ true) ⊎ ((eqb b c && before y z) ≡ true)
        → (before x y ≡ true → before y z ≡ true → before x z ≡ true) → (ltb a c || (eqb a c && before x z)) ≡ true
    go (inl p) (inl q) h = rw (lt-ltb a c (omega (arith, ltb-true a b p, ltb-true b c q)))
    go (inl p) (inr q) h = let r = and-true (eqb b c) (before y z) q in rw (lt-ltb a c (omega (arith, ltb-true a b p, eqb-true b c r.0)))
    go (inr p) (inl q) h = let r = and-true (eqb a b) (before x y) p in rw (lt-ltb a c (omega (arith, eqb-true a b r.0, ltb-true b c q)))
    go (inr p) (inr q) h =
        let r = and-true (eqb a b) (before x y) p in
        let s = and-true (eqb b c) (before y z) q in
        or_right (ltb a c) (eqb a c && before x z) (rw (eq-eqb a c (eqb-true a b r.0 ∙ eqb-true b c s.0)) (h r.1 s.1))
