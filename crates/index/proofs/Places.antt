-- An entry's length; a place after a write to it, and to another.
use mathlib.Core.Path.{◌≡◌, refl, sym, ap, ◌∙◌}
use mathlib.Core.Bool.{Bool, true, false}
use mathlib.Core.List.{[], ◌∷◌, ◌++◌}
use mathlib.Core.Logic.{◌≢◌}
use Prim.Native.Nat.{ℕ, ◌+◌, ◌-◌, ◌*◌, ◌≤◌}
use native.Mathlib.Omega.{arith}
use lib.Dec.{ltb}
use borrow.Author.Tests.{ltb-true, ltb-false}
use lib.ListN.{length, take, drop, length-append, length-drop}
use lib.Seq.{take_at, drop_at, drop-append-le, take-append-le, drop-drop, length-take-le}
use Rattle.buffer.specs.Bytes.{Bytes, put}
use Rattle.buffer.proofs.Parts.{part_within}
use Rattle.buffer.proofs.Put.{drop-put}
use Rattle.digits.specs.Number.{be_bytes}
use Rattle.digits.proofs.NumberLaws.{length_digits}
use Rattle.index.specs.Index.{place_at, named, entry_bytes}

pub length-named : (score : Bytes) (kind : ℕ) → length score ≡ 20 → length (named score kind) ≡ 21
length-named score kind h = omega (arith, length-append score (kind ∷ []))

pub length-entry : (score : Bytes) (kind first : ℕ) → length score ≡ 20 → length (entry_bytes score kind first) ≡ 25
length-entry score kind first h =
    omega (arith, length-append (named score kind) (be_bytes 4 first), length-named score kind h, length_digits 256 4 first)

module _ (index x : Bytes) (p : ℕ) (l : length x ≡ 25) (h : 25 * p + 25 ≤ length index) where
  -- from the end of what was written on
  pub drop-behind : (n : ℕ) → 25 * p + 25 ≤ n → drop n (put index (25 * p) x) ≡ drop n index
  drop-behind n k =
      let e = 25 * p + length x in
      let m : n ≡ e + (n - e) = omega arith in
      ap (λ (i : ℕ). drop i (put index (25 * p) x)) m
      ∙ sym (drop-drop (n - e) e (put index (25 * p) x))
      ∙ ap (drop (n - e)) (drop-put index (25 * p) x (omega arith))
      ∙ drop-drop (n - e) e index
      ∙ ap (λ (i : ℕ). drop i index) (sym m)

  length_before : length (take (25 * p) index) ≡ 25 * p
  length_before = length-take-le (25 * p) index (omega arith)

  pub put-place : place_at (put index (25 * p) x) p ≡ x
  unfolding place_at
  put-place =
      let rest = drop (25 * p + length x) index in
      ap (take 25) (drop_at (take (25 * p) index) (x ++ rest) (25 * p) length_before) ∙ take_at x rest 25 l

  pub put_other : (q : ℕ) → q ≢ p → place_at (put index (25 * p) x) q ≡ place_at index q
  unfolding place_at
  put_other q n = go (ltb q p) refl
    where
      rest : Bytes
      rest = x ++ drop (25 * p + length x) index

      go : (b : Bool) → ltb q p ≡ b → take 25 (drop (25 * q) (put index (25 * p) x)) ≡ take 25 (drop (25 * q) index)
      go true e =
          let k = ltb-true q p e in
          let front = take (25 * p) index in
          let d : length (drop (25 * q) front) ≡ 25 * p - 25 * q = length-drop (25 * q) front ∙ ap (λ (i : ℕ). i - 25 * q) length_before in
          ap (take 25) (drop-append-le (25 * q) front rest (omega (arith, length_before)))
          ∙ take-append-le 25 (drop (25 * q) front) rest (omega (arith, d))
          ∙ part_within 25 (25 * q) (25 * p) index (omega arith)
      go false e = ap (take 25) (drop-behind (25 * q) (let k = ltb-false q p e in omega (arith, n)))
