-- Decimal digits: a number and its tenth, how many digits there are, that they make the number, and that the first is not zero.
use mathlib.Core.Path.{◌≡◌, refl, ap, ◌∙◌}
use mathlib.Core.Bool.{Bool, true, false}
use mathlib.Core.List.{[], ◌∷◌, ◌++◌, map, map-append}
use Prim.Native.Nat.{ℕ, zero, suc, ◌+◌, ◌-◌, ◌*◌, ◌/◌, ◌%◌, ◌≤◌, ◌<◌, ◌^◌}
use native.Mathlib.Omega.{arith}
use lib.Dec.{ltb}
use borrow.Author.Tests.{ltb-false, lt-ltb, le-ltb}
use lib.ListN.{length, get_or, length-append, get_or-append}
use Rattle.buffer.specs.Bytes.{Bytes}
use Rattle.digits.specs.Number.{value_from}
use Rattle.digits.proofs.NumberLaws.{value-append}
use Rattle.print.specs.Text.{digits, decimal}

-- places beyond enough change nothing
enough : (w v n : ℕ) → n < w → n < v → digits w n ≡ digits v n
unfolding digits
enough zero v n h k = absurd (omega arith)
enough (suc w) zero n h k = absurd (omega arith)
enough (suc w) (suc v) n h k = go (ltb n 10) refl (enough w v (n / 10))
  where
    go : (b : Bool) → ltb n 10 ≡ b → (n / 10 < w → n / 10 < v → digits w (n / 10) ≡ digits v (n / 10)) → digits (suc w) n ≡ digits (suc v) n
    go true q f = rw q
    go false q f =
        let t = ltb-false n 10 q in
        rw q (ap (λ (x : Bytes). x ++ ((48 + n % 10) ∷ [])) (f (omega arith) (omega arith)))

pub decimal-one : (n : ℕ) → n < 10 → decimal n ≡ (48 + n) ∷ []
unfolding digits decimal
decimal-one n h = rw (lt-ltb n 10 h)

pub decimal-more : (n : ℕ) → 10 ≤ n → decimal n ≡ decimal (n / 10) ++ ((48 + n % 10) ∷ [])
unfolding digits decimal
decimal-more n h =
    rw (le-ltb n 10 h) (ap (λ (x : Bytes). x ++ ((48 + n % 10) ∷ [])) (enough n (suc (n / 10)) (n / 10) (omega arith) (omega arith)))

-- a number below a power of ten has at most so many digits
tenth : (p n : ℕ) → n < 10 * p → n / 10 < p
tenth p n h = omega arith

short : (w k n : ℕ) → n < 10 ^ suc k → length (digits w n) ≤ suc k
unfolding digits
short zero k n h = omega arith
short (suc w) k n h = go k (ltb n 10) refl h (short w)
  where
    go : (j : ℕ) (b : Bool) → ltb n 10 ≡ b → n < 10 ^ suc j → ((i m : ℕ) → m < 10 ^ suc i → length (digits w m) ≤ suc i) → length (digits (suc w) n) ≤ suc j
    go j true q h f = rw q (omega arith)
    go zero false q h f = absurd (omega (arith, ltb-false n 10 q))
    go (suc j) false q h f =
        rw q (omega (arith, length-append (digits w (n / 10)) ((48 + n % 10) ∷ []), f j (n / 10) (tenth (10 ^ suc j) n (omega arith))))

pub decimal-short : (k n : ℕ) → n < 10 ^ suc k → length (decimal n) ≤ suc k
unfolding decimal
decimal-short k n h = short (suc n) k n h

-- the digits make the number, and the first of more than none is not zero
pub value_of : (w n : ℕ) → n < w → value_from 10 0 (map (λ (c : ℕ). c - 48) (digits w n)) ≡ n
unfolding digits value_from
value_of zero n h = absurd (omega arith)
value_of (suc w) n h = go (ltb n 10) refl (value_of w (n / 10))
  where
    go : (b : Bool) → ltb n 10 ≡ b → (n / 10 < w → value_from 10 0 (map (λ (c : ℕ). c - 48) (digits w (n / 10))) ≡ n / 10) → value_from 10 0 (map (λ (c : ℕ). c - 48) (digits (suc w) n)) ≡ n
    go true q f = rw q (omega arith)
    go false q f =
        let t = ltb-false n 10 q in
        let x = digits w (n / 10) in
        let y = (48 + n % 10) ∷ [] in
        rw q
        (ap (value_from 10 0) (map-append (λ (c : ℕ). c - 48) x y)
        ∙ value-append 10 0 (map (λ (c : ℕ). c - 48) x) (map (λ (c : ℕ). c - 48) y)
        ∙ ap (λ (v : ℕ). 10 * v + (48 + n % 10 - 48)) (f (omega arith))
        ∙ omega arith)

pub decimal-value : (n : ℕ) → value_from 10 0 (map (λ (c : ℕ). c - 48) (decimal n)) ≡ n
unfolding decimal
decimal-value n = value_of (suc n) n (omega arith)

first_digit : (w n : ℕ) → n < w → 0 < n → (0 < length (digits w n)) × (48 < get_or (digits w n) 0 0)
unfolding digits
first_digit zero n h k = absurd (omega arith)
first_digit (suc w) n h k = go (ltb n 10) refl (first_digit w (n / 10))
  where
    go : (b : Bool) → ltb n 10 ≡ b → (n / 10 < w → 0 < n / 10 → (0 < length (digits w (n / 10))) × (48 < get_or (digits w (n / 10)) 0 0))
        → (0 < length (digits (suc w) n)) × (48 < get_or (digits (suc w) n) 0 0)
    go true q f = rw q (omega arith, omega arith)
    go false q f =
        let t = ltb-false n 10 q in
        let g = f (omega arith) (omega arith) in
        let x = digits w (n / 10) in
        let y = (48 + n % 10) ∷ [] in
        rw q (omega (arith, length-append x y, g.0), rw (get_or-append x y 0 0 g.0) g.1)

pub decimal-first : (n : ℕ) → 0 < n → 48 < get_or (decimal n) 0 0
unfolding decimal
decimal-first n h = (first_digit (suc n) n (omega arith) h).1
