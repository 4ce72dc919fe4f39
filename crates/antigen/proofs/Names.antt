-- Names: the library's tests, and the tests of a name one by one.
use mathlib.Core.Path.{◌≡◌, refl, sym, ap, ◌∙◌}
use mathlib.Core.Bool.{Bool, true, false, cond, ◌&&◌, ◌||◌}
use Rattle.std.specs.Prelude.{Option, Some}
use Rattle.std.specs.Char.{is_ascii_alphanumeric}
use Rattle.std.specs.List.{list_all}
use Rattle.std.specs.Cmp.Lexicographic.{slice_partial_cmp}
use Rattle.std.specs.Ordering.{nat_cmp, partial_lt, is_lt, is_some_and, partial_ordering_then}
use Rattle.std.specs.declared.cmp.Ordering.{Ordering}
use Rattle.std.specs.declared.cmp.Ordering.TheVariants.{Less, Equal, Greater}
use mathlib.Core.List.{[], ◌∷◌}
use Prim.Native.Nat.{ℕ, ◌≤◌, ◌<◌}
use native.Mathlib.Omega.{arith}
use lib.Dec.{leb, ltb, eqb}
use borrow.Author.Tests.{le-leb, lt-leb}
use lib.ListN.{length}
use Rattle.buffer.specs.Bytes.{Bytes, same}
use Rattle.antigen.specs.Name.{letter_or_digit, letters_and_digits, reserved, is_name, before}

-- ---- the library's tests

or_assoc : (x y z : Bool) → ((x || y) || z) ≡ (x || (y || z))
or_assoc true y z = refl
or_assoc false y z = refl

pub letter_or_digit-ascii : (b : ℕ) → is_ascii_alphanumeric b ≡ letter_or_digit b
unfolding letter_or_digit
letter_or_digit-ascii b = or_assoc (leb 0x30 b && leb b 0x39) (leb 0x41 b && leb b 0x5A) (leb 0x61 b && leb b 0x7A)

pub letters-all : (s : Bytes) → list_all letter_or_digit s ≡ letters_and_digits s
letters-all [] = refl
letters-all (b ∷ s) = ap (λ (t : Bool). letter_or_digit b && t) (letters-all s)

pub before-less : (a b : Bytes) → partial_lt (slice_partial_cmp (λ x y. Some (nat_cmp x y))) a b ≡ before a b
unfolding before
before-less [] [] = refl
before-less [] (y ∷ b) = refl
before-less (x ∷ a) [] = refl
before-less (x ∷ a) (y ∷ b) = first (ltb x y) (eqb x y) (slice_partial_cmp (λ x y. Some (nat_cmp x y)) a b) (before a b) (before-less a b)
  where
    first : (p q : Bool) (o : Option Ordering) (t : Bool) → is_some_and is_lt o ≡ t
        → is_some_and is_lt (partial_ordering_then (Some (cond p Less (cond q Equal Greater))) o) ≡ (p || (q && t))
    first true q o t e = refl
    first false true o t e = e
    first false false o t e = refl

-- ---- a name, test by test

pub either : (a b t : Bool) → a ≡ true → t ≡ true → t ≡ (a || b)
either a b t e f = f ∙ sym (ap (λ (x : Bool). x || b) e)

pub neither : (a b t : Bool) → a ≡ false → t ≡ b → t ≡ (a || b)
neither a b t e f = f ∙ sym (ap (λ (x : Bool). x || b) e)

module _ (s : Bytes) where
  module _ (t : Bool) (e : t ≡ (same s (0x61 ∷ 0x6E ∷ 0x64 ∷ []) || same s (0x6F ∷ 0x72 ∷ []))) where
    thirds : (u : Bool) → t ≡ u → (u || same s (0x6E ∷ 0x6F ∷ 0x74 ∷ [])) ≡ reserved s
    unfolding reserved
    thirds u q =
        sym (ap (λ (x : Bool). x || same s (0x6E ∷ 0x6F ∷ 0x74 ∷ [])) (sym e ∙ q))
        ∙ or_assoc (same s (0x61 ∷ 0x6E ∷ 0x64 ∷ [])) (same s (0x6F ∷ 0x72 ∷ [])) (same s (0x6E ∷ 0x6F ∷ 0x74 ∷ []))

    pub two-words : t ≡ true → t ≡ reserved s
    two-words q = q ∙ thirds true q

    pub third-word : t ≡ false → (u : Bool) → u ≡ same s (0x6E ∷ 0x6F ∷ 0x74 ∷ []) → u ≡ reserved s
    third-word q u f = f ∙ thirds false q

  pub name-short : length s < 1 → false ≡ is_name s
  unfolding is_name
  name-short h = rw (lt-leb 1 (length s) h)

  pub name-long : 8 < length s → false ≡ is_name s
  unfolding is_name
  name-long h = rw (le-leb 1 (length s) (omega arith), lt-leb (length s) 8 h)

  module _ (h : 1 ≤ length s) (k : length s ≤ 8) (t : Bool) (e : t ≡ reserved s) where
    pub name-reserved : t ≡ true → false ≡ is_name s
    unfolding is_name
    name-reserved q = rw (le-leb 1 (length s) h, le-leb (length s) 8 k, sym e ∙ q)

    pub name-letters : t ≡ false → (u : Bool) → u ≡ letters_and_digits s → u ≡ is_name s
    unfolding is_name
    name-letters q u f = rw (le-leb 1 (length s) h, le-leb (length s) 8 k, sym e ∙ q) f
