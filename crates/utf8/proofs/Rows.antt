-- Which row of the grammar an octet begins.
use mathlib.Core.Path.{◌≡◌, refl, sym, ap, ◌∙◌}
use mathlib.Core.Bool.{Bool, true, false, ◌&&◌, and-false, or-false}
use mathlib.Core.List.{List, [], ◌∷◌, ◌++◌}
use Prim.Native.Nat.{ℕ, suc, ◌≤◌, ◌<◌}
use native.Mathlib.Omega.{arith}
use lib.Dec.{leb, ltb}
use lib.ListN.{get_or, take, drop}
use borrow.Author.Tests.{ltb-true, le-leb, lt-leb}
use Rattle.bedrock.proofs.Choices.{and-true}
use Rattle.buffer.specs.Bytes.{Bytes}
use Rattle.utf8.specs.Grammar.{Range, octet, in_range, Form, form, some, utf8_char, follows}

pub inside : (r : Range) (b : ℕ) → r.low ≤ b → b ≤ r.high → in_range r b ≡ true
inside r b h k = rw (le-leb r.low b h, le-leb b r.high k)

pub under : (r : Range) (b : ℕ) → b < r.low → in_range r b ≡ false
under r b h = rw (lt-leb r.low b h)

pub over : (r : Range) (b : ℕ) → r.high < b → in_range r b ≡ false
over r b h = rw (lt-leb b r.high h, and-false (leb r.low b))

-- every row begins with octets under n; every row with octets over n
abbrev pub before : ℕ → List Form → Bool
before n [] = true
before n (c ∷ cs) = ltb c.first.high n && before n cs

abbrev pub behind : ℕ → List Form → Bool
behind n [] = true
behind n (c ∷ cs) = ltb n c.first.low && behind n cs

-- what a row says of octets
abbrev pub tells : ℕ → Bytes → Form → Bool
tells b bs c = in_range c.first b && follows c.rest bs

-- row k of the grammar, counted from 0
abbrev pub row_at : ℕ → Form
row_at k = get_or utf8_char k (form (octet 0) [])

module _ (b : ℕ) (bs : Bytes) where
  passed : (n : ℕ) (xs ys : List Form) → before n xs ≡ true → n ≤ b → some (tells b bs) (xs ++ ys) ≡ some (tells b bs) ys
  passed n [] ys e h = refl
  passed n (c ∷ xs) ys e h =
      let p = and-true (ltb c.first.high n) (before n xs) e in
      rw (over c.first b (omega (arith, ltb-true c.first.high n p.0))) (passed n xs ys p.1 h)

  none : (n : ℕ) (ys : List Form) → behind n ys ≡ true → b ≤ n → some (tells b bs) ys ≡ false
  none n [] e h = refl
  none n (c ∷ ys) e h =
      let p = and-true (ltb n c.first.low) (behind n ys) e in
      rw (under c.first b (omega (arith, ltb-true n c.first.low p.0))) (none n ys p.1 h)

  -- an octet of row k begins that row and no other
  pub begins : (k : ℕ) → take k utf8_char ++ (row_at k ∷ drop (suc k) utf8_char) ≡ utf8_char
      → before (row_at k).first.low (take k utf8_char) ≡ true → behind (row_at k).first.high (drop (suc k) utf8_char) ≡ true
      → (row_at k).first.low ≤ b → b ≤ (row_at k).first.high → follows [] (b ∷ bs) ≡ follows (row_at k).rest bs
  unfolding follows
  begins k s e f h l =
      let c = row_at k in
      ap (some (tells b bs)) (sym s)
      ∙ passed c.first.low (take k utf8_char) (c ∷ drop (suc k) utf8_char) e h
      ∙ rw (inside c.first b h l, none c.first.high (drop (suc k) utf8_char) f l, or-false (follows c.rest bs)) refl

  -- an octet from l to h, between row k and the one before it, begins none
  pub begins-none : (k l h : ℕ) → take k utf8_char ++ drop k utf8_char ≡ utf8_char
      → before l (take k utf8_char) ≡ true → behind h (drop k utf8_char) ≡ true
      → l ≤ b → b ≤ h → follows [] (b ∷ bs) ≡ false
  unfolding follows
  begins-none k l h s e f m n =
      ap (some (tells b bs)) (sym s) ∙ passed l (take k utf8_char) (drop k utf8_char) e m ∙ none h (drop k utf8_char) f n
