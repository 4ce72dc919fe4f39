-- What the tests on byte strings say: same, zeros, small.
use mathlib.Core.Path.{◌≡◌, refl, sym, ap, ap₂, ◌∙◌}
use mathlib.Core.Bool.{Bool, true, false, ◌&&◌, false≢true}
use mathlib.Core.List.{[], ◌∷◌, ◌++◌}
use mathlib.Core.Logic.{◌≢◌}
use Prim.Native.Nat.{ℕ, zero, suc, ◌<◌}
use native.Mathlib.Omega.{arith}
use lib.Dec.{ltb, eqb}
use borrow.Author.Tests.{ltb-true, eqb-true, lt-ltb, eq-eqb}
use lib.ListN.{length, get_or, take, drop, replicate}
use Rattle.bedrock.proofs.Choices.{and-true, and_assoc, false_unless}
use Rattle.digits.specs.Number.{small}
use Rattle.buffer.specs.Bytes.{Bytes, same, zeros}

pub same_refl : (x : Bytes) → same x x ≡ true
same_refl [] = refl
same_refl (a ∷ x) = rw (eq-eqb a a refl) (same_refl x)

pub same_true : (x y : Bytes) → same x y ≡ true → x ≡ y
same_true [] [] e = refl
same_true [] (b ∷ y) e = absurd (false≢true e)
same_true (a ∷ x) [] e = absurd (false≢true e)
same_true (a ∷ x) (b ∷ y) e = let p = and-true (eqb a b) (same x y) e in ap₂ ◌∷◌ (eqb-true a b p.0) (same_true x y p.1)

pub same_false : (x y : Bytes) → x ≢ y → same x y ≡ false
same_false x y n = false_unless (same x y) (λ q. n (same_true x y q))

-- compared by two parts
pub same-append : (a b x y : Bytes) → length a ≡ length b → same (a ++ x) (b ++ y) ≡ (same a b && same x y)
same-append [] [] x y e = refl
same-append [] (b ∷ bs) x y e = absurd (omega arith)
same-append (a ∷ ts) [] x y e = absurd (omega arith)
same-append (a ∷ ts) (b ∷ bs) x y e = ap (λ (z : Bool). eqb a b && z) (same-append ts bs x y (omega arith)) ∙ sym (and_assoc (eqb a b) (same ts bs) (same x y))

pub no_bytes : (b : Bytes) → length b ≡ 0 → b ≡ []
no_bytes [] e = refl
no_bytes (a ∷ b) e = absurd (omega arith)

pub zeros-replicate : (n : ℕ) → zeros (replicate n 0) ≡ true
zeros-replicate zero = refl
zeros-replicate (suc n) = zeros-replicate n

-- all zeros, by elements
pub zeros_get_d : (l : Bytes) (i : ℕ) → zeros l ≡ true → get_or l i 0 ≡ 0
zeros_get_d [] i e = refl
zeros_get_d (a ∷ l) zero e = eqb-true a 0 (and-true (eqb a 0) (zeros l) e).0
zeros_get_d (a ∷ l) (suc i) e = zeros_get_d l i (and-true (eqb a 0) (zeros l) e).1

pub zeros-all : (l : Bytes) → ((i : ℕ) → i < length l → get_or l i 0 ≡ 0) → zeros l ≡ true
zeros-all [] f = refl
zeros-all (a ∷ l) f = rw (eq-eqb a 0 (f 0 (omega arith))) (zeros-all l (λ i h. f (suc i) (omega arith)))

pub zeros_replicated : (l : Bytes) → zeros l ≡ true → l ≡ replicate (length l) 0
zeros_replicated [] e = refl
zeros_replicated (a ∷ l) e = let p = and-true (eqb a 0) (zeros l) e in ap₂ ◌∷◌ (eqb-true a 0 p.0) (zeros_replicated l p.1)

-- bytes, by elements
pub small_get_d : (l : Bytes) (i : ℕ) → small l ≡ true → get_or l i 0 < 256
small_get_d [] i e = omega arith
small_get_d (a ∷ l) zero e = ltb-true a 256 (and-true (ltb a 256) (small l) e).0
small_get_d (a ∷ l) (suc i) e = small_get_d l i (and-true (ltb a 256) (small l) e).1

pub small_all : (l : Bytes) → ((i : ℕ) → get_or l i 0 < 256) → small l ≡ true
small_all [] f = refl
small_all (a ∷ l) f = rw (lt-ltb a 256 (f 0)) (small_all l (λ i. f (suc i)))

pub small-append : (x y : Bytes) → small x ≡ true → small y ≡ true → small (x ++ y) ≡ true
small-append [] y e f = f
small-append (a ∷ x) y e f = let p = and-true (ltb a 256) (small x) e in rw p.0 (small-append x y p.1 f)

pub small-take : (n : ℕ) (x : Bytes) → small x ≡ true → small (take n x) ≡ true
small-take zero x e = refl
small-take (suc n) [] e = refl
small-take (suc n) (a ∷ x) e = let p = and-true (ltb a 256) (small x) e in rw p.0 (small-take n x p.1)

pub small-drop : (n : ℕ) (x : Bytes) → small x ≡ true → small (drop n x) ≡ true
small-drop zero x e = e
small-drop (suc n) [] e = refl
small-drop (suc n) (a ∷ x) e = small-drop n x (and-true (ltb a 256) (small x) e).1

pub small-replicate : (n : ℕ) → small (replicate n 0) ≡ true
small-replicate zero = refl
small-replicate (suc n) = small-replicate n
