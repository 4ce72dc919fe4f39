-- The tokens of a reading are read as this reading, where no token behind them goes on with it.
use mathlib.Core.Path.{◌≡◌, refl, ◌∙◌}
use mathlib.Core.Bool.{true}
use mathlib.Core.List.{List, [], ◌∷◌, ◌++◌, append_assoc}
use mathlib.Core.Option.{some}
use Prim.Native.Nat.{ℕ, zero, suc, ◌+◌, ◌*◌, ◌≤◌}
use native.Mathlib.Nat.{le-max_left, le-max_right}
use native.Mathlib.Omega.{arith}
use lib.ListN.{length, length-append}
use Rattle.bedrock.proofs.Choices.{and-true}
use Rattle.buffer.specs.Bytes.{Bytes}
use Rattle.antigen.specs.Name.{is_name}
use Rattle.query.specs.Reading.{Reading, choice, or_else, Choice, term, and_also, Term, name, negated, group, or_word, and_word, not_word, open_word}
use Rattle.query.specs.Reading.{close_word, tokens, choice_tokens, term_tokens, named, choice_named, term_named, depth, choice_depth, term_depth}
use Rattle.query.specs.Grammar.{name_at, list_read_at, choice_at, term_at}
use Rattle.query.proofs.Front.{NotNext, after_other, after_word}
use Rattle.query.proofs.Names.{name-differs, not-is_no_name, open_is_no_name}

-- ---- a step each

module _ (f d : ℕ) (ws vs : List Bytes) where
  choice-alone : (c : Choice) → choice_at f d ws ≡ some (c, vs) → NotNext or_word vs → list_read_at (suc f) d ws ≡ some (choice c, vs)
  unfolding list_read_at
  choice-alone c e n = rw e (after_other or_word vs _ _ n)

  choice_or : (c : Choice) (us : List Bytes) (q : Reading) → choice_at f d ws ≡ some (c, or_word ∷ us) → list_read_at f d us ≡ some (q, vs)
      → list_read_at (suc f) d ws ≡ some (or_else c q, vs)
  unfolding list_read_at
  choice_or c us q e h = rw e (after_word or_word us _ _ ∙ rw h)

  term-alone : (t : Term) → term_at f d ws ≡ some (t, vs) → NotNext and_word vs → choice_at (suc f) d ws ≡ some (term t, vs)
  unfolding list_read_at
  term-alone t e n = rw e (after_other and_word vs _ _ n)

  term-and : (t : Term) (us : List Bytes) (c : Choice) → term_at f d ws ≡ some (t, and_word ∷ us) → choice_at f d us ≡ some (c, vs)
      → choice_at (suc f) d ws ≡ some (and_also t c, vs)
  unfolding list_read_at
  term-and t us c e h = rw e (after_word and_word us _ _ ∙ rw h)

  not-term : (t : Term) → term_at f d ws ≡ some (t, vs) → term_at (suc f) d (not_word ∷ ws) ≡ some (negated t, vs)
  unfolding list_read_at
  not-term t e = after_word not_word ws _ _ ∙ rw e

  in_brackets : (q : Reading) → list_read_at f d ws ≡ some (q, close_word ∷ vs) → term_at (suc f) (suc d) (open_word ∷ ws) ≡ some (group q, vs)
  unfolding list_read_at
  in_brackets q e = after_other not_word (open_word ∷ ws) _ _ refl ∙ (after_word open_word ws _ _ ∙ rw e (after_word close_word vs _ _))

name-first : (f d : ℕ) (n : Bytes) (vs : List Bytes) → is_name n ≡ true → term_at (suc f) d (n ∷ vs) ≡ some (name n, vs)
unfolding list_read_at name_at
name-first f d n vs e =
    after_other not_word (n ∷ vs) _ _ (name-differs n not_word e not-is_no_name)
    ∙ (after_other open_word (n ∷ vs) _ _ (name-differs n open_word e open_is_no_name) ∙ rw e)

-- ---- all of them, by the reading

mutual
  unfolding tokens named depth

  pub list_back : (q : Reading) (f d : ℕ) (vs : List Bytes) → 3 * length (tokens q) + 3 ≤ f → named q ≡ true → depth q ≤ d → NotNext and_word vs → NotNext or_word vs
      → list_read_at f d (tokens q ++ vs) ≡ some (q, vs)
  list_back q zero d vs k n b na nr = absurd (omega arith)
  list_back (choice c) (suc f) d vs k n b na nr = choice-alone f d _ vs c (choice_back c f d vs (omega arith) n b na) nr
  list_back (or_else c q) (suc f) d vs k n b na nr =
      let h = and-true (choice_named c) (named q) n in
      let l = length-append (choice_tokens c) (or_word ∷ tokens q) in
      rw (append_assoc (choice_tokens c) (or_word ∷ tokens q) vs)
      (choice_or f d _ vs c (tokens q ++ vs) q
      (choice_back c f d (or_word ∷ (tokens q ++ vs)) (omega arith) h.0 (omega (arith, le-max_left (choice_depth c) (depth q))) refl)
      (list_back q f d vs (omega arith) h.1 (omega (arith, le-max_right (choice_depth c) (depth q))) na nr))

  choice_back : (c : Choice) (f d : ℕ) (vs : List Bytes) → 3 * length (choice_tokens c) + 2 ≤ f → choice_named c ≡ true → choice_depth c ≤ d → NotNext and_word vs
      → choice_at f d (choice_tokens c ++ vs) ≡ some (c, vs)
  choice_back c zero d vs k n b na = absurd (omega arith)
  choice_back (term t) (suc f) d vs k n b na = term-alone f d _ vs t (term_back t f d vs (omega arith) n b) na
  choice_back (and_also t c) (suc f) d vs k n b na =
      let h = and-true (term_named t) (choice_named c) n in
      let l = length-append (term_tokens t) (and_word ∷ choice_tokens c) in
      rw (append_assoc (term_tokens t) (and_word ∷ choice_tokens c) vs)
      (term-and f d _ vs t (choice_tokens c ++ vs) c
      (term_back t f d (and_word ∷ (choice_tokens c ++ vs)) (omega arith) h.0 (omega (arith, le-max_left (term_depth t) (choice_depth c))))
      (choice_back c f d vs (omega arith) h.1 (omega (arith, le-max_right (term_depth t) (choice_depth c))) na))

  term_back : (t : Term) (f d : ℕ) (vs : List Bytes) → 3 * length (term_tokens t) + 1 ≤ f → term_named t ≡ true → term_depth t ≤ d
      → term_at f d (term_tokens t ++ vs) ≡ some (t, vs)
  term_back t zero d vs k n b = absurd (omega arith)
  term_back (name w) (suc f) d vs k n b = name-first f d w vs n
  term_back (negated t) (suc f) d vs k n b = not-term f d _ vs t (term_back t f d vs (omega arith) n b)
  term_back (group q) (suc f) zero vs k n b = absurd (omega arith)
  term_back (group q) (suc f) (suc d) vs k n b =
      let l = length-append (tokens q) (close_word ∷ []) in
      rw (append_assoc (tokens q) (close_word ∷ []) vs)
      (in_brackets f d _ vs q (list_back q f d (close_word ∷ vs) (omega arith) n (omega arith) refl refl))
