-- The line of a date, before the lines of a label: when a sector begins with one, and that it is read back.
use mathlib.Core.Path.{◌≡◌, refl, sym, ap, ap₂, ◌∙◌}
use mathlib.Core.Bool.{Bool, true, false, ◌&&◌}
use mathlib.Core.List.{[], ◌∷◌, ◌++◌}
use Prim.Native.Nat.{ℕ, ◌+◌, ◌≤◌}
use native.Mathlib.Omega.{arith}
use lib.ListN.{length, get_or, take, drop, length-append}
use lib.Seq.{drop-cons, take-add, get_or-take, get_or-append-add, drop-drop}
use Rattle.bedrock.proofs.Choices.{and-true}
use Rattle.buffer.specs.Bytes.{Bytes, same}
use Rattle.buffer.proofs.Bytes.{same_true, same_refl}
use Rattle.buffer.proofs.Parts.{part_within}
use Rattle.sector.specs.Sector.{line, date_name, is_date, is_date_or_none, front_of, is_dated, date_field}
pub use Rattle.date.proofs.Digits.{date-length}

-- what begins with a date's line
module _ (s : Bytes) (e : is_dated s ≡ true) where
  pub dated-line : take 14 s ≡ line date_name (take 8 (drop 5 s))
  unfolding is_dated
  dated-line = same_true (take 14 s) _ (and-true (same (take 14 s) (line date_name (take 8 (drop 5 s)))) (is_date (take 8 (drop 5 s))) e).0

  pub dated-date : is_date (take 8 (drop 5 s)) ≡ true
  unfolding is_dated
  dated-date = (and-true (same (take 14 s) (line date_name (take 8 (drop 5 s)))) (is_date (take 8 (drop 5 s))) e).1

  pub dated-name : take 5 s ≡ date_name
  dated-name = sym (part_within 5 0 14 s (omega arith)) ∙ ap (take 5) dated-line

  pub dated-end : get_or s 13 0 ≡ 10
  dated-end =
      let x = take 8 (drop 5 s) in
      let n : length x + 0 ≡ 8 = omega (arith, date-length x dated-date) in
      sym (get_or-take 14 s 13 0 (omega arith)) ∙ ap (λ (b : Bytes). get_or b 13 0) dated-line
      ∙ ap (λ (k : ℕ). get_or (x ++ (10 ∷ [])) k 0) (sym n) ∙ get_or-append-add x (10 ∷ []) 0 0

  pub dated-field : date_field s ≡ take 8 (drop 5 s)
  unfolding date_field
  dated-field = rw e refl

pub undated : (s : Bytes) → is_dated s ≡ false → date_field s ≡ []
unfolding date_field
undated s e = rw e refl

-- by its parts
pub dated_by : (s : Bytes) → 14 ≤ length s → take 5 s ≡ date_name → get_or s 13 0 ≡ 10 → is_date (take 8 (drop 5 s)) ≡ true → is_dated s ≡ true
unfolding is_dated
dated_by s h n f d =
    let one : take 1 (drop 13 s) ≡ 10 ∷ [] = rw (drop-cons s 13 0) (ap (λ (b : ℕ). b ∷ []) f) in
    let e : take 14 s ≡ line date_name (take 8 (drop 5 s)) =
    take-add 5 9 s ∙ ap₂ ◌++◌ n (take-add 8 1 (drop 5 s) ∙ ap (λ (x : Bytes). take 8 (drop 5 s) ++ take 1 x) (drop-drop 8 5 s) ∙ ap (λ (x : Bytes). take 8 (drop 5 s) ++ x) one) in
    rw (e, d) (ap (λ (b : Bool). b && true) (same_refl (line date_name (take 8 (drop 5 s)))))

-- how long the line is
pub length-date : (date : Bytes) → length (line date_name date) ≡ length date + 6
length-date date = omega (arith, length-append date_name (date ++ (10 ∷ [])), length-append date (10 ∷ []))

pub front-eight : (d : Bytes) → length d ≡ 8 → length (front_of d) ≡ 14
front-eight [] e = absurd (omega arith)
front-eight (b ∷ bs) e = omega (arith, length-append (b ∷ bs) (10 ∷ []))

pub front-is : (d : Bytes) → length d ≡ 8 → front_of d ≡ line date_name d
front-is [] e = absurd (omega arith)
front-is (b ∷ bs) e = refl

pub front-none : (s : Bytes) → (is_dated s ≡ true → ⊥) → 0 ≡ length (front_of (date_field s))
front-none s n = go (is_dated s) refl
  where
    go : (b : Bool) → is_dated s ≡ b → 0 ≡ length (front_of (date_field s))
    go true q = absurd (n q)
    go false q = ap (λ (d : Bytes). length (front_of d)) (sym (undated s q))

pub front-some : (s : Bytes) → is_dated s ≡ true → 14 ≡ length (front_of (date_field s))
front-some s e = sym (ap (λ (d : Bytes). length (front_of d)) (dated-field s e) ∙ front-eight (take 8 (drop 5 s)) (date-length (take 8 (drop 5 s)) (dated-date s e)))

-- a test that failed
pub unequal : (a b : Bytes) (t : Bool) → t ≡ same a b → t ≡ false → a ≡ b → ⊥
unequal a b t p q e =
    let z : false ≡ true = sym q ∙ p ∙ ap (λ (x : Bytes). same x b) e ∙ same_refl b in
    let y : ◌≡◌ {A = ℕ} 0 1 = cc in
    omega arith

pub denied : (b t : Bool) → t ≡ b → t ≡ false → b ≡ true → ⊥
denied b t p q e =
    let z : false ≡ true = sym q ∙ p ∙ e in
    let y : ◌≡◌ {A = ℕ} 0 1 = cc in
    omega arith

pub date_or_none : (d : Bytes) → is_date d ≡ true → is_date_or_none d ≡ true
date_or_none [] e = refl
date_or_none (b ∷ bs) e = e

-- what a sector's date is: one, or none
pub field-date : (s : Bytes) → is_date_or_none (date_field s) ≡ true
field-date s = go (is_dated s) refl
  where
    go : (b : Bool) → is_dated s ≡ b → is_date_or_none (date_field s) ≡ true
    go true q = ap is_date_or_none (dated-field s q) ∙ date_or_none (take 8 (drop 5 s)) (dated-date s q)
    go false q = ap is_date_or_none (undated s q)

-- as many bytes as the line of its date has, a sector begins with that line
pub front-field : (s : Bytes) → take (length (front_of (date_field s))) s ≡ front_of (date_field s)
front-field s = go (is_dated s) refl
  where
    go : (b : Bool) → is_dated s ≡ b → take (length (front_of (date_field s))) s ≡ front_of (date_field s)
    go true q =
        let d = take 8 (drop 5 s) in
        ap (λ (n : ℕ). take n s) (sym (front-some s q)) ∙ dated-line s q ∙ sym (front-is d (date-length d (dated-date s q))) ∙ ap front_of (sym (dated-field s q))
    go false q = ap (λ (d : Bytes). take (length (front_of d)) s) (undated s q) ∙ ap front_of (sym (undated s q))

pub front-most : (s : Bytes) → length (front_of (date_field s)) ≤ 14
front-most s = go (is_dated s) refl
  where
    go : (b : Bool) → is_dated s ≡ b → length (front_of (date_field s)) ≤ 14
    go true q = omega (arith, front-some s q)
    go false q = let z : length (front_of (date_field s)) ≡ 0 = ap (λ (d : Bytes). length (front_of d)) (undated s q) in omega arith
