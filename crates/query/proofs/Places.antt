-- The words of a text from a place on.
use mathlib.Core.Path.{◌≡◌, refl, sym, ap, ◌∙◌}
use mathlib.Core.Bool.{Bool, true, false, cond, false≢true}
use mathlib.Core.List.{List, [], ◌∷◌}
use Prim.Native.Nat.{ℕ, suc, ◌+◌, ◌-◌, ◌≤◌, ◌<◌}
use native.Mathlib.Omega.{arith}
use lib.Dec.{eqb, leb}
use borrow.Author.Tests.{le-leb, lt-leb, leb-true, leb-false}
use lib.ListN.{length, take, drop, length-drop}
use lib.Seq.{drop-drop}
use Rattle.bedrock.proofs.Choices.{cond_ind}
use Rattle.buffer.specs.Bytes.{Bytes, same}
use Rattle.buffer.proofs.Bytes.{same_true}
use Rattle.card.specs.Card.{up_to}
use Rattle.query.specs.Grammar.{onto, words}
use Rattle.query.proofs.Front.{NotNext}
use Rattle.query.specs.Place.{first_word, words_from, next_is}

-- ---- where a word ends

first-at-front : (s : Bytes) → take (length (first_word s)) s ≡ first_word s
unfolding up_to
first-at-front [] = refl
first-at-front (b ∷ s) = go (eqb b 0x20) (first-at-front s)
  where
    go : (t : Bool) → take (length (first_word s)) s ≡ first_word s
        → take (length (cond t [] (b ∷ first_word s))) (b ∷ s) ≡ cond t [] (b ∷ first_word s)
    go true h = refl
    go false h = ap (λ (x : Bytes). b ∷ x) h

-- the part of a text from a word's place to its end
pub word_part : (s : Bytes) (at e : ℕ) → e ≡ at + length (first_word (drop at s)) → take (e - at) (drop at s) ≡ first_word (drop at s)
word_part s at e q = let z : e - at ≡ length (first_word (drop at s)) = omega arith in rw z (first-at-front (drop at s))

-- ---- the words from a place on

pub from_start : (s : Bytes) → words_from s 0 ≡ words s
unfolding words_from
from_start s = rw (le-leb 0 (length s) (omega arith))

pub from-outside : (s : Bytes) (at : ℕ) → length s < at → words_from s at ≡ []
unfolding words_from
from-outside s at h = rw (lt-leb at (length s) h)

leb-suc : (a b : ℕ) → leb (suc a) (suc b) ≡ leb a b
leb-suc a b = go (leb a b) refl
  where
    go : (t : Bool) → leb a b ≡ t → leb (suc a) (suc b) ≡ t
    go true q = le-leb (suc a) (suc b) (omega (arith, leb-true a b q))
    go false q = lt-leb (suc a) (suc b) (omega (arith, leb-false a b q))

in_text : (s : Bytes) (at : ℕ) → at ≤ length s → words_from s at ≡ words (drop at s)
unfolding words_from
in_text s at h = rw (le-leb at (length s) h)

from_cons : (b : ℕ) (s : Bytes) (n : ℕ) → words_from (b ∷ s) (suc n) ≡ words_from s n
unfolding words_from
from_cons b s n = rw (leb-suc n (length s))

from-drop : (s : Bytes) (at n : ℕ) → at ≤ length s → words_from (drop at s) n ≡ words_from s (at + n)
unfolding words_from
from-drop s at n h =
    rw (length-drop at s, drop-drop n at s) (go (leb (at + n) (length s)) refl)
  where
    go : (t : Bool) → leb (at + n) (length s) ≡ t → cond (leb n (length s - at)) (words (drop (at + n) s)) [] ≡ cond t (words (drop (at + n) s)) []
    go true q = rw (le-leb n (length s - at) (omega (arith, leb-true (at + n) (length s) q)))
    go false q = rw (lt-leb n (length s - at) (omega (arith, leb-false (at + n) (length s) q)))

words-first : (s : Bytes) → words s ≡ first_word s ∷ words_from s (length (first_word s) + 1)
unfolding words up_to
words-first [] = ap (λ (x : List Bytes). [] ∷ x) (sym (from-outside [] 1 (omega arith)))
words-first (b ∷ s) = go (eqb b 0x20) (words-first s)
  where
    go : (t : Bool) → words s ≡ first_word s ∷ words_from s (length (first_word s) + 1)
        → cond t ([] ∷ words s) (onto b (words s)) ≡ cond t [] (b ∷ first_word s) ∷ words_from (b ∷ s) (length (cond t [] (b ∷ first_word s)) + 1)
    go true h = ap (λ (x : List Bytes). [] ∷ x) (sym (from_start s) ∙ sym (from_cons b s 0))
    go false h =
        let z : suc (length (first_word s)) + 1 ≡ suc (length (first_word s) + 1) = omega arith in
        rw h (ap (λ (x : List Bytes). (b ∷ first_word s) ∷ x) (sym (ap (words_from (b ∷ s)) z ∙ from_cons b s (length (first_word s) + 1))))

-- a word, and the words behind the space behind it
pub from-inside : (s : Bytes) (at : ℕ) → at ≤ length s
    → words_from s at ≡ first_word (drop at s) ∷ words_from s (at + length (first_word (drop at s)) + 1)
from-inside s at h =
    let z : at + (length (first_word (drop at s)) + 1) ≡ at + length (first_word (drop at s)) + 1 = omega arith in
    in_text s at h ∙ (words-first (drop at s)
    ∙ ap (λ (x : List Bytes). first_word (drop at s) ∷ x) (from-drop s at (length (first_word (drop at s)) + 1) h ∙ ap (words_from s) z))

first-length : (s : Bytes) → length (first_word s) ≤ length s
unfolding up_to
first-length [] = omega arith
first-length (b ∷ s) = cond_ind (λ x. length x ≤ suc (length s)) (eqb b 0x20) [] (b ∷ first_word s) (λ _. omega arith) (λ _. omega (arith, first-length s))

-- ---- the next word is a given one, or another

pub another_next : (t : Bytes) (ws : List Bytes) → next_is t ws ≡ false → NotNext t ws
another_next t [] e = tt
another_next t (w ∷ ws) e = e

-- a given word, and the words behind it
pub record Next (s : Bytes) (at : ℕ) (t : Bytes) : Type 0 where
  pub inside : at + length t ≤ length s
  pub words : words_from s at ≡ t ∷ words_from s (at + (length t + 1))

pub next_known : (s : Bytes) (at : ℕ) (t : Bytes) → next_is t (words_from s at) ≡ true → Next s at t
next_known s at t e = go (leb at (length s)) refl
  where
    go : (b : Bool) → leb at (length s) ≡ b → Next s at t
    go true q =
        let h = leb-true at (length s) q in
        let w : first_word (drop at s) ≡ t = same_true (first_word (drop at s)) t (rw (from-inside s at h) at e) in
        let z : at + length t + 1 ≡ at + (length t + 1) = omega arith in
        record {
          inside = omega (arith, ap length w, first-length (drop at s), length-drop at s);
          words = from-inside s at h ∙ rw (w, z);
        }
    go false q = absurd (false≢true (rw (from-outside s at (leb-false at (length s) q)) at e))

-- by the part of the text where the word stands
module _ (s : Bytes) (at : ℕ) (t : Bytes) where
  pub no_word : length s < at → false ≡ next_is t (words_from s at)
  no_word h = rw (from-outside s at h)

  pub word_is : at ≤ length s → {e : ℕ} → e ≡ at + length (first_word (drop at s)) → {r : Bool} → r ≡ same (take (e - at) (drop at s)) t → r ≡ next_is t (words_from s at)
  word_is h {e} q p = p ∙ rw (word_part s at e q, from-inside s at h)
