-- Two accounts that choose by the same test, or by one and its contrary.
use mathlib.Core.Path.{◌≡◌, refl}
use mathlib.Core.Bool.{Bool, true, false, cond, not}
use Prim.Native.Nat.{ℕ}
use lib.Dec.{leb, ltb}
use borrow.Author.Tests.{leb-true, leb-false, lt-ltb, le-ltb}

module _ {A B C : Type 0} (f : A → C) (g : B → C) where
  pub alike : (b : Bool) {x y : A} {u v : B} → (b ≡ true → f x ≡ g u) → (b ≡ false → f y ≡ g v) → f (cond b x y) ≡ g (cond b u v)
  alike true h k = h refl
  alike false h k = k refl

  pub contrary : (a b : Bool) {x y : A} {u v : B} → a ≡ not b → (b ≡ true → f y ≡ g u) → (b ≡ false → f x ≡ g v) → f (cond a x y) ≡ g (cond b u v)
  contrary a true e h k = rw e (h refl)
  contrary a false e h k = rw e (k refl)

pub ltb-not : (a b : ℕ) → ltb a b ≡ not (leb b a)
ltb-not a b = go (leb b a) refl
  where
    go : (t : Bool) → leb b a ≡ t → ltb a b ≡ not t
    go true q = le-ltb a b (leb-true b a q)
    go false q = lt-ltb a b (leb-false b a q)
