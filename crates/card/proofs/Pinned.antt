-- A card is exactly the text of good lines; no name has two.
use mathlib.Core.Path.{◌≡◌, refl, sym, ap, ◌∙◌}
use mathlib.Core.Bool.{Bool, true, false, cond, not, ◌&&◌, false≢true}
use mathlib.Core.List.Memᴰ
use mathlib.Core.List.{List, [], ◌∷◌, ◌++◌, append_assoc}
use mathlib.Core.Option.{none, some}
use Prim.Native.Nat.{ℕ}
use native.Mathlib.Omega.{arith}
use lib.Dec.{eqb, leb}
use borrow.Author.Tests.{eqb-true}
use lib.ListN.{length, drop}
use lib.Seq.{drop-append_seam}
use Rattle.bedrock.proofs.Choices.{and-true}
use Rattle.buffer.specs.Bytes.{Bytes, same}
use Rattle.buffer.proofs.Bytes.{same_true, same_refl}
use Rattle.antigen.specs.Name.{letter_or_digit, letters_and_digits, reserved, is_name}
use Rattle.card.specs.Card.{Line, line, ending, line_text, text, good_from, good, up_to, up_to_equals, line_with, line_of, front_lines, well_formed, lines_of}
use Rattle.card.specs.Pinned.{Pinned, OneLineOfAName}
use Rattle.card.proofs.Lines.{nothing_read, front-none, front-some}
use Rattle.card.proofs.Order.{good-first, good_other, good-rest}

-- ---- the line at the front of a line's text

-- "=" is no letter and no digit
equals_no_letter : letter_or_digit 0x3D ≡ false
unfolding letter_or_digit
equals_no_letter = refl

up_to-name : (n t : Bytes) → letters_and_digits n ≡ true → up_to_equals (n ++ (0x3D ∷ t)) ≡ n
unfolding up_to
up_to-name [] t e = refl
up_to-name (b ∷ n) t e = go (eqb b 0x3D) refl (up_to-name n t)
  where
    go : (q : Bool) → eqb b 0x3D ≡ q → (letters_and_digits n ≡ true → up_to_equals (n ++ (0x3D ∷ t)) ≡ n) → cond (eqb b 0x3D) [] (b ∷ up_to_equals (n ++ (0x3D ∷ t))) ≡ b ∷ n
    go true q f = absurd (false≢true (sym equals_no_letter ∙ ap letter_or_digit (sym (eqb-true b 0x3D q)) ∙ (and-true (letter_or_digit b) (letters_and_digits n) e).0))
    go false q f = rw q (ap (λ (x : Bytes). b ∷ x) (f (and-true (letter_or_digit b) (letters_and_digits n) e).1))

-- an ending's first byte
abbrev behind_equals : Bool → Bytes
behind_equals p = drop 1 (ending p)

split-ending : (p : Bool) → ending p ≡ 0x3D ∷ behind_equals p
split-ending true = refl
split-ending false = refl

with_ending : (n : Bytes) (p : Bool) (t : Bytes) → line_with n (ending p ++ t) ≡ some (line n p)
unfolding line_with
with_ending n true t = refl
with_ending n false t = refl

pub name-letters : (n : Bytes) → is_name n ≡ true → letters_and_digits n ≡ true
unfolding is_name
name-letters n e = (and-true (not (reserved n)) (letters_and_digits n) (and-true (leb 1 (length n) && leb (length n) 8) (not (reserved n) && letters_and_digits n) e).1).1

pub line_read : (l : Line) (t : Bytes) → is_name l.name ≡ true → line_of (line_text l ++ t) ≡ some l
line_read l t e =
    let n = l.name in
    let x = ending l.present in
    let s : line_text l ++ t ≡ n ++ (x ++ t) = append_assoc n x t in
    let u : up_to_equals (n ++ (x ++ t)) ≡ n = ap (λ (y : Bytes). up_to_equals (n ++ (y ++ t))) (split-ending l.present) ∙ up_to-name n (behind_equals l.present ++ t) (name-letters n e) in
    ap line_of s ∙ rw u (ap (line_with n) (drop-append_seam n (x ++ t)) ∙ with_ending n l.present t)

-- ---- all lines

pub lines-read : (n : Bytes) (ls : List Line) → good_from n ls ≡ true → front_lines (text ls) ≡ ls
unfolding text
lines-read n [] e = front-none [] nothing_read
lines-read n (l ∷ ls) e =
    let p = good-first n l ls e in
    front-some (line_text l ++ text ls) l (line_read l (text ls) p.0)
    ∙ ap (λ (s : Bytes). l ∷ front_lines s) (drop-append_seam (line_text l) (text ls))
    ∙ ap (λ (ms : List Line). l ∷ ms) (lines-read l.name ls p.2)

-- the lines of a card are those at its front
pub lines_are : (s : Bytes) (ls : List Line) → lines_of s ≡ some ls → (well_formed s ≡ true) × (front_lines s ≡ ls)
lines_are s ls = go (well_formed s) refl
  where
    go : (t : Bool) → well_formed s ≡ t → cond t (some (front_lines s)) none ≡ some ls → (well_formed s ≡ true) × (front_lines s ≡ ls)
    go true q e = (q, cc)
    go false q e = let z : ◌≡◌ {A = ℕ} 0 1 = cc in absurd (omega arith)

lines-written : (s : Bytes) (ls : List Line) → lines_of s ≡ some ls → (text ls ≡ s) × (good ls ≡ true)
unfolding well_formed
lines-written s ls e =
    let p = lines_are s ls e in
    let q = and-true (same (text (front_lines s)) s) (good (front_lines s)) p.0 in
    (ap text (sym p.1) ∙ same_true (text (front_lines s)) s q.0, ap good (sym p.1) ∙ q.1)

text-read : (ls : List Line) → good ls ≡ true → lines_of (text ls) ≡ some ls
unfolding well_formed
text-read ls e = rw (lines-read [] ls e, same_refl (text ls), e)

pub pinned : Pinned
pinned = record {
  written = lines-written;
  read = text-read;
  one = λ ls ms e f q. sym (lines-read [] ls e) ∙ ap front_lines q ∙ lines-read [] ms f;
}

pub one_line : OneLineOfAName
one_line x y z l m e = let p = good-rest [] x (l ∷ (y ++ (m ∷ z))) e in good_other p.0 l (y ++ (m ∷ z)) p.1 m (Memᴰ.append_right y (Memᴰ.head refl))
