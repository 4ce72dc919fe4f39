-- One turn of each loop over digits, and its end: what is left to do still makes the whole. Assumes nothing.
use mathlib.Core.Path.{◌≡◌, sym, ap, ap₂, ◌∙◌}
use mathlib.Core.List.{List, [], ◌∷◌, ◌++◌}
use Prim.Native.Nat.{ℕ, suc, ◌+◌, ◌-◌, ◌*◌, ◌/◌, ◌%◌, ◌^◌, ◌≤◌, ◌<◌}
use native.Mathlib.Nat.{pow-le-pow_right, lt_of_lt_of_le}
use native.Mathlib.Numerals.{add-one}
use native.Mathlib.Omega.{arith}
use lib.ListN.{length, get_or, drop, set, length-set, drop_of_length-le}
use lib.Seq.{drop-cons, drop-set-lt, get_or-set_same, append_snoc}
use Rattle.digits.specs.Number.{value_from}
use Rattle.digits.proofs.NumberLaws.{more_lt}

-- ---- a number from its digits

-- a digit more keeps the number below the m-th power of the base
pub room : (b m i a d : ℕ) → i < m → a < b ^ i → d < b → b * a + d < b ^ m
room b m i a d l h k = lt_of_lt_of_le (more_lt b i a d h k) (pow-le-pow_right (omega arith) l)

pub value_turn : (b a i e : ℕ) (s : List ℕ) → i < length s → value_from b a (drop i s) ≡ e → value_from b (b * a + get_or s i 0) (drop (i + 1) s) ≡ e
unfolding value_from
value_turn b a i e s h q = rw add-one (ap (value_from b a) (sym (drop-cons s i 0 h)) ∙ q)

pub value-end : (b a i e : ℕ) (s : List ℕ) → length s ≤ i → value_from b a (drop i s) ≡ e → a ≡ e
unfolding value_from
value-end b a i e s h q = ap (value_from b a) (sym (drop_of_length-le s h)) ∙ q

-- ---- a place filled from its back with the digits of what is left of a number

module _ (b : ℕ) (f : ℕ → ℕ) (D : ℕ → ℕ → List ℕ) (step : (w n : ℕ) → D (suc w) n ≡ D w (n / b) ++ (f (n % b) ∷ [])) where
  fill_suc : (d : List ℕ) (j n : ℕ) → j < length d → D j (n / b) ++ drop j (set d j (f (n % b))) ≡ D (suc j) n ++ drop (suc j) d
  fill_suc d j n h =
      let v = f (n % b) in
      let k : j < length (set d j v) = rw length-set h in
      ap (λ (x : List ℕ). D j (n / b) ++ x) (drop-cons (set d j v) j 0 k ∙ ap₂ ◌∷◌ (get_or-set_same d j v 0 h) (drop-set-lt (suc j) d j v (omega arith)))
      ∙ sym (append_snoc (D j (n / b)) v (drop (suc j) d))
      ∙ ap (λ (x : List ℕ). x ++ drop (suc j) d) (sym (step j n))

  pub fill_turn : (d e : List ℕ) (i n : ℕ) → 0 < i → i ≤ length d → D i n ++ drop i d ≡ e → D (i - 1) (n / b) ++ drop (i - 1) (set d (i - 1) (f (n % b))) ≡ e
  fill_turn d e i n p h q =
      let s : suc (i - 1) ≡ i = omega arith in fill_suc d (i - 1) n (omega arith) ∙ ap (λ (w : ℕ). D w n ++ drop w d) s ∙ q
