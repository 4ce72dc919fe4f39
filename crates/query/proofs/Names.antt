-- Names are no other words, and have no spaces; so no token has one.
use mathlib.Core.Path.{◌≡◌, refl, sym, ap, ◌∙◌}
use mathlib.Core.Bool.{true, false, not, true≢false}
use mathlib.Core.List.{[], ◌∷◌}
use Prim.Native.Nat.{ℕ}
use lib.Dec.{eqb}
use borrow.Author.Tests.{eqb-true}
use Rattle.bedrock.proofs.Choices.{and-true, false_unless}
use Rattle.buffer.specs.Bytes.{Bytes, same}
use Rattle.buffer.proofs.Bytes.{same_false}
use Rattle.antigen.specs.Name.{letter_or_digit, letters_and_digits, reserved, is_name}
use Rattle.card.proofs.Pinned.{name-letters}
use Rattle.query.specs.Reading.{Reading, choice, or_else, Choice, term, and_also, Term, name, negated, group, or_word, and_word}
use Rattle.query.specs.Reading.{not_word, open_word, close_word, tokens, choice_tokens, term_tokens, named, choice_named, term_named}
use Rattle.query.proofs.Words.{unspaced, all_unspaced, unspaced-append}

-- a name is no word that is no name
pub name-differs : (w v : Bytes) → is_name w ≡ true → is_name v ≡ false → same w v ≡ false
name-differs w v p q = same_false w v (λ e. true≢false (sym p ∙ ap is_name e ∙ q))

pub not-is_no_name : is_name not_word ≡ false
unfolding is_name reserved
not-is_no_name = refl

pub open_is_no_name : is_name open_word ≡ false
unfolding is_name reserved letter_or_digit
open_is_no_name = refl

letter-unspaced : (b : ℕ) → letter_or_digit b ≡ true → not (eqb b 0x20) ≡ true
unfolding letter_or_digit
letter-unspaced b e = ap not (false_unless (eqb b 0x20) (λ q. true≢false (sym e ∙ ap letter_or_digit (eqb-true b 0x20 q))))

letters-unspaced : (w : Bytes) → letters_and_digits w ≡ true → unspaced w ≡ true
letters-unspaced [] e = refl
letters-unspaced (b ∷ w) e = let h = and-true (letter_or_digit b) (letters_and_digits w) e in rw (letter-unspaced b h.0) (letters-unspaced w h.1)

mutual
  unfolding tokens named

  pub tokens-unspaced : (q : Reading) → named q ≡ true → all_unspaced (tokens q) ≡ true
  tokens-unspaced (choice c) e = choice-unspaced c e
  tokens-unspaced (or_else c q) e =
      let h = and-true (choice_named c) (named q) e in
      unspaced-append (choice_tokens c) (or_word ∷ tokens q) (choice-unspaced c h.0) (tokens-unspaced q h.1)

  choice-unspaced : (c : Choice) → choice_named c ≡ true → all_unspaced (choice_tokens c) ≡ true
  choice-unspaced (term t) e = term-unspaced t e
  choice-unspaced (and_also t c) e =
      let h = and-true (term_named t) (choice_named c) e in
      unspaced-append (term_tokens t) (and_word ∷ choice_tokens c) (term-unspaced t h.0) (choice-unspaced c h.1)

  term-unspaced : (t : Term) → term_named t ≡ true → all_unspaced (term_tokens t) ≡ true
  term-unspaced (name n) e = rw (letters-unspaced n (name-letters n e))
  term-unspaced (negated t) e = term-unspaced t e
  term-unspaced (group q) e = unspaced-append (tokens q) (close_word ∷ []) (tokens-unspaced q e) refl
