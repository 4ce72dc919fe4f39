-- Tests and options, by cases.
use mathlib.Core.Path.{◌≡◌, refl, sym, ap}
use mathlib.Core.Bool.{Bool, true, false, cond, ◌&&◌, ◌||◌, true≢false, false≢true}
use mathlib.Core.Logic.{◌⊎◌, ◌≢◌, inl, inr}
use mathlib.Core.Option.{Option, none, some}
use Prim.Native.Nat.{ℕ}
use native.Mathlib.Omega.{arith}
use Rattle.bedrock.specs.Choice.{on}

pub cond_ind {ℓ κ} : {A : Type ℓ} (P : A → Type κ) (b : Bool) (x y : A) → (b ≡ true → P x) → (b ≡ false → P y) → P (cond b x y)
cond_ind P true x y f g = f refl
cond_ind P false x y f g = g refl

pub on_ind {ℓ κ} : {B : Type 0} {A : Type ℓ} (P : A → Type κ) (o : Option B) (x : A) (f : B → A) → (o ≡ none → P x) → ((r : B) → o ≡ some r → P (f r)) → P (on o x f)
on_ind P none x f g h = g refl
on_ind P (some r) x f g h = h r refl

-- a test that cannot hold fails, and one that cannot fail holds
pub false_unless : (b : Bool) → (b ≡ true → ⊥) → b ≡ false
false_unless true n = absurd (n refl)
false_unless false n = refl

pub true_unless : (b : Bool) → (b ≡ false → ⊥) → b ≡ true
true_unless true n = refl
true_unless false n = absurd (n refl)

pub and-true : (a b : Bool) → (a && b) ≡ true → (a ≡ true) × (b ≡ true)
and-true true b e = (refl, e)
and-true false b e = absurd (false≢true e)

pub and_both : (a b : Bool) → a ≡ true → b ≡ true → (a && b) ≡ true
and_both a b e f = rw (e, f)

pub and-false : (b : Bool) → (b && false) ≡ false
and-false true = refl
and-false false = refl

pub or-false : (a b : Bool) → (a || b) ≡ false → (a ≡ false) × (b ≡ false)
or-false true b e = absurd (true≢false e)
or-false false b e = (refl, e)

pub or_cases : (a b : Bool) → (a || b) ≡ true → (a ≡ true) ⊎ (b ≡ true)
or_cases true b e = inl refl
or_cases false b e = inr e

pub or_right : (a b : Bool) → b ≡ true → (a || b) ≡ true
or_right true b e = refl
or_right false b e = e

-- a test beside one that always holds, or never does
pub and_one : (b : Bool) → (b && true) ≡ b
and_one true = refl
and_one false = refl

pub or_none : (b : Bool) → (b || false) ≡ b
or_none true = refl
or_none false = refl

-- the second test counts where the first holds
pub and-first_holds : (a b : Bool) → a ≡ true → (a && b) ≡ b
and-first_holds a b e = ap (λ (x : Bool). x && b) e

pub and-first_fails : (a b : Bool) → a ≡ false → (a && b) ≡ false
and-first_fails a b e = ap (λ (x : Bool). x && b) e

pub and_assoc : (a b c : Bool) → ((a && b) && c) ≡ (a && (b && c))
and_assoc true b c = refl
and_assoc false b c = refl

pub and_comm : (a b : Bool) → (a && b) ≡ (b && a)
and_comm true true = refl
and_comm true false = refl
and_comm false true = refl
and_comm false false = refl

pub some_same : {A : Type 0} (x y : A) → some x ≡ some y → x ≡ y
some_same {A} x y e = ap (λ (o : Option A). on o x (λ (z : A). z)) e

pub some-not-none : {A : Type 0} (x : A) → some x ≢ none
some-not-none x e = let z : ◌≡◌ {A = ℕ} 0 1 = cc in absurd (omega arith)

pub is_some : {A : Type 0} (o : Option A) → o ≢ none → (x : A) × (o ≡ some x)
is_some none n = absurd (n refl)
is_some (some x) n = (x, refl)

-- a choice that does not give its second gives its first
pub cond-first : {A : Type 0} (b : Bool) (x y z : A) → y ≢ z → cond b x y ≡ z → (b ≡ true) × (x ≡ z)
cond-first true x y z n e = (refl, e)
cond-first false x y z n e = absurd (n e)

pub cond_or_none : {A : Type 0} (b : Bool) (o : Option A) (x : A) → cond b o none ≡ some x → (b ≡ true) × (o ≡ some x)
cond_or_none b o x e = cond-first b o none (some x) (λ q. some-not-none x (sym q)) e

pub cond-of-none : {A : Type 0} (b : Bool) → ◌≡◌ {A = Option A} (cond b none none) none
cond-of-none true = refl
cond-of-none false = refl

-- two ways to go on that agree wherever there is something
pub on_same {ℓ} : {B : Type 0} {A : Type ℓ} (o : Option B) (x : A) (f g : B → A) → ((r : B) → f r ≡ g r) → on o x f ≡ on o x g
on_same none x f g e = refl
on_same (some r) x f g e = e r
