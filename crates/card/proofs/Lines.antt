-- The lines at the front of bytes: the first one and those behind it.
use mathlib.Core.Path.{◌≡◌, refl, sym, ap, ◌∙◌}
use mathlib.Core.Bool.{Bool, true, false, cond, ◌&&◌}
use mathlib.Core.List.{List, [], ◌∷◌, ◌++◌, append_assoc}
use mathlib.Core.Option.{Option, none, some}
use Prim.Native.Nat.{ℕ, zero, suc, ◌≤◌}
use native.Mathlib.Omega.{arith}
use lib.Dec.{eqb}
use borrow.Author.Tests.{eq-eqb}
use lib.ListN.{length, take, drop, length-append, length-drop, take-append-drop}
use lib.Seq.{drop-append_seam}
use Rattle.bedrock.specs.Choice.{on}
use Rattle.bedrock.proofs.Choices.{and_one}
use Rattle.buffer.specs.Bytes.{Bytes, same}
use Rattle.buffer.proofs.Bytes.{same_true}
use Rattle.kleene.specs.declared.Value.TheVariants.{NotKnown}
use Rattle.antigen.specs.Name.{is_name, before}
use Rattle.card.specs.Card.{Line, line, ending, line_text, text, good_from, up_to, up_to_equals, begins, line_with, line_of, lines_at, front_lines, well_formed, told, say, value_in}

-- ---- what stands at the front

-- a front that is there
pub seam : (s x t : Bytes) → s ≡ x ++ t → s ≡ x ++ drop (length x) s
seam s x t e = e ∙ ap (λ (y : Bytes). x ++ y) (sym (drop-append_seam x t)) ∙ ap (λ (y : Bytes). x ++ drop (length x) y) (sym e)

up_to_lem : (s : Bytes) → s ≡ up_to_equals s ++ drop (length (up_to_equals s)) s
unfolding up_to
up_to_lem [] = refl
up_to_lem (b ∷ s) = go (eqb b 0x3D) refl (up_to_lem s)
  where
    go : (t : Bool) → eqb b 0x3D ≡ t → s ≡ up_to_equals s ++ drop (length (up_to_equals s)) s → b ∷ s ≡ up_to_equals (b ∷ s) ++ drop (length (up_to_equals (b ∷ s))) (b ∷ s)
    go true q h = rw q
    go false q h = rw q (ap (λ (y : Bytes). b ∷ y) h)

begins-front : (s p : Bytes) → begins s p ≡ true → s ≡ p ++ drop (length p) s
begins-front s p e = sym (take-append-drop (length p) s) ∙ ap (λ (y : Bytes). y ++ drop (length p) s) (same_true (take (length p) s) p e)

pub same-append : (x a b : Bytes) → same (x ++ a) (x ++ b) ≡ same a b
same-append [] a b = refl
same-append (c ∷ x) a b = rw (eq-eqb c c refl) (same-append x a b)

pub ending-some : (p : Bool) → 8 ≤ length (ending p)
ending-some true = omega arith
ending-some false = omega arith

pub line-some : (l : Line) → 8 ≤ length (line_text l)
line-some l = omega (arith, length-append l.name (ending l.present), ending-some l.present)

-- ---- one line

pub nothing_read : line_of [] ≡ none
unfolding line_with up_to
nothing_read = refl

with_line : (n s : Bytes) (l : Line) → line_with n s ≡ some l → (l.name ≡ n) × (s ≡ ending l.present ++ drop (length (ending l.present)) s)
unfolding line_with
with_line n s l = go (begins s (ending true)) (begins s (ending false)) refl refl
  where
    go : (t u : Bool) → begins s (ending true) ≡ t → begins s (ending false) ≡ u → cond t (some (line n true)) (cond u (some (line n false)) none) ≡ some l
        → (l.name ≡ n) × (s ≡ ending l.present ++ drop (length (ending l.present)) s)
    go true u q r e = let h : line n true ≡ l = cc in rw (← h) (refl, begins-front s (ending true) q)
    go false true q r e = let h : line n false ≡ l = cc in rw (← h) (refl, begins-front s (ending false) r)
    go false false q r e = let z : ◌≡◌ {A = ℕ} 0 1 = cc in absurd (omega arith)

-- bytes with a line at their front: its text, and what is behind it
pub line-front : (s : Bytes) (l : Line) → line_of s ≡ some l → s ≡ line_text l ++ drop (length (line_text l)) s
line-front s l e =
    let n = up_to_equals s in
    let r = drop (length n) s in
    let h = with_line n r l e in
    let x = ending l.present in
    seam s (line_text l) (drop (length x) r)
    (up_to_lem s ∙ ap (λ (y : Bytes). y ++ r) (sym h.0) ∙ ap (λ (y : Bytes). l.name ++ y) h.1 ∙ sym (append_assoc l.name x (drop (length x) r)))

-- ---- all lines

-- as many as there are bytes are enough
enough : (k j : ℕ) (s : Bytes) → length s ≤ k → length s ≤ j → lines_at k s ≡ lines_at j s
unfolding lines_at line_with up_to
enough zero zero s h g = refl
enough zero (suc j) [] h g = refl
enough zero (suc j) (b ∷ s) h g = absurd (omega arith)
enough (suc k) zero [] h g = refl
enough (suc k) zero (b ∷ s) h g = absurd (omega arith)
enough (suc k) (suc j) s h g = go (line_of s) (enough k j)
  where
    go : (o : Option Line) → ((t : Bytes) → length t ≤ k → length t ≤ j → lines_at k t ≡ lines_at j t)
        → on o [] (λ l. l ∷ lines_at k (drop (length (line_text l)) s)) ≡ on o [] (λ l. l ∷ lines_at j (drop (length (line_text l)) s))
    go none f = refl
    go (some l) f =
        let n = length-drop (length (line_text l)) s in
        let m = line-some l in
        ap (λ (ls : List Line). l ∷ ls) (f (drop (length (line_text l)) s) (omega (arith, n, m)) (omega (arith, n, m)))

-- one turn more
front_turn : (s : Bytes) → front_lines s ≡ on (line_of s) [] (λ l. l ∷ lines_at (length s) (drop (length (line_text l)) s))
unfolding front_lines lines_at
front_turn s = enough (length s) (suc (length s)) s (omega arith) (omega arith)

pub front-none : (s : Bytes) → line_of s ≡ none → front_lines s ≡ []
front-none s e = front_turn s ∙ rw e

pub front-some : (s : Bytes) (l : Line) → line_of s ≡ some l → front_lines s ≡ l ∷ front_lines (drop (length (line_text l)) s)
unfolding front_lines
front-some s l e =
    let t = drop (length (line_text l)) s in
    front_turn s ∙ rw e (ap (λ (ls : List Line). l ∷ ls) (enough (length s) (length t) t (omega (arith, length-drop (length (line_text l)) s)) (omega arith)))

-- ---- what the lines say, and whether they are good

pub value_none : (s n : Bytes) → line_of s ≡ none → value_in s n ≡ NotKnown
unfolding value_in say
value_none s n e = rw (front-none s e)

pub value-some : (s n : Bytes) (l : Line) → line_of s ≡ some l → value_in s n ≡ cond (same l.name n) (told l.present) (value_in (drop (length (line_text l)) s) n)
unfolding value_in say
value-some s n l e = rw (front-some s l e)

-- the rest of a card behind a line of the name n
unfoldable pub lawful_from : Bytes → Bytes → Bool
lawful_from n s = same (text (front_lines s)) s && good_from n (front_lines s)

pub lawful-none : (n s : Bytes) → line_of s ≡ none → lawful_from n s ≡ same [] s
unfolding lawful_from text good_from
lawful-none n s e = rw (front-none s e) (and_one (same [] s))

shuffle : (a b c d : Bool) → (a && (b && (c && d))) ≡ (b && (c && (a && d)))
shuffle a true true d = refl
shuffle true true false d = refl
shuffle false true false d = refl
shuffle true false c d = refl
shuffle false false c d = refl

pub lawful-some : (n s : Bytes) (l : Line) → line_of s ≡ some l
    → lawful_from n s ≡ (is_name l.name && (before n l.name && lawful_from l.name (drop (length (line_text l)) s)))
unfolding lawful_from text good_from
lawful-some n s l e =
    let t = drop (length (line_text l)) s in
    let ls = front_lines t in
    ap (λ (x : List Line). same (text x) s && good_from n x) (front-some s l e)
    ∙ ap (λ (b : Bool). b && good_from n (l ∷ ls)) (ap (same (line_text l ++ text ls)) (line-front s l e) ∙ same-append (line_text l) (text ls) t)
    ∙ shuffle (same (text ls) t) (is_name l.name) (before n l.name) (good_from l.name ls)

pub lawful-whole : (s : Bytes) → lawful_from [] s ≡ well_formed s
unfolding lawful_from well_formed
lawful-whole s = refl
