-- Text and reading match one to one.
use mathlib.Core.Path.{◌≡◌, refl, ap, sym, ◌∙◌}
use mathlib.Core.Bool.{Bool, true, false, cond}
use mathlib.Core.List.{List, [], ◌∷◌, ◌++◌, append-nil}
use mathlib.Core.Option.{Option, none, some}
use Prim.Native.Nat.{ℕ, ◌+◌, ◌*◌, ◌≤◌}
use native.Mathlib.Omega.{arith}
use lib.Dec.{leb}
use lib.ListN.{length}
use borrow.Author.Tests.{leb-true, le-leb}
use Rattle.buffer.specs.Bytes.{Bytes}
use Rattle.query.specs.Reading.{Reading, choice, or_else, Choice, term, and_also, Term, name, negated, group, tokens, choice_tokens, term_tokens, joined, text, most_bytes, most_open, Within}
use Rattle.query.specs.Grammar.{Front, words, list_read_at, all_read, reading_of}
use Rattle.query.specs.Claims.{EveryTextOneReading, EveryReadingOneText, OneReadingOfAText, IllFormedHasNone}
use Rattle.query.proofs.Words.{joined_words, all_unspaced, words-joined, joined_length}
use Rattle.query.proofs.Names.{tokens-unspaced}
use Rattle.query.proofs.Sound.{OfList, list_read}
use Rattle.query.proofs.Tokens.{list_back}

-- ---- a text's reading

all_read_lem : (b : Bytes) (r : Front Reading) → OfList most_open (words b) r → length b ≤ most_bytes → (q : Reading) → all_read r ≡ some q → (text q ≡ b) × Within q
all_read_lem b none h l q e = let z : ◌≡◌ {A = ℕ} 0 1 = cc in absurd (omega arith)
all_read_lem b (some (p, v ∷ vs)) h l q e = let z : ◌≡◌ {A = ℕ} 0 1 = cc in absurd (omega arith)
all_read_lem b (some (p, [])) h l q e = rw (← same-reading) (has-text, record { names = h.names; brackets = h.brackets; bytes = rw has-text l })
  where
    same-reading : p ≡ q
    same-reading = cc

    has-text : text p ≡ b
    has-text = ap joined (sym (append-nil (tokens p)) ∙ h.words) ∙ joined_words b

pub every_text-one-reading : EveryTextOneReading
unfolding reading_of
every_text-one-reading b q = go (leb (length b) most_bytes) refl
  where
    go : (t : Bool) → leb (length b) most_bytes ≡ t → cond t (all_read (list_read_at (3 * length b + 6) most_open (words b))) none ≡ some q → (text q ≡ b) × Within q
    go true l e = all_read_lem b (list_read_at (3 * length b + 6) most_open (words b)) (list_read (3 * length b + 6) most_open (words b)) (leb-true (length b) most_bytes l) q e
    go false l e = let z : ◌≡◌ {A = ℕ} 0 1 = cc in absurd (omega arith)

-- ---- a reading's text

-- a reading has a token
abbrev Some : List Bytes → Type 0
Some ws = (w : Bytes) × (vs : List Bytes) × (ws ≡ w ∷ vs)

some-append : (ws vs : List Bytes) → Some ws → Some (ws ++ vs)
some-append ws vs s = (s.0, s.1 ++ vs, ap (λ (x : List Bytes). x ++ vs) s.2)

mutual
  unfolding tokens

  some_token : (q : Reading) → Some (tokens q)
  some_token (choice c) = choice_token c
  some_token (or_else c q) = some-append (choice_tokens c) _ (choice_token c)

  choice_token : (c : Choice) → Some (choice_tokens c)
  choice_token (term t) = term_token t
  choice_token (and_also t c) = some-append (term_tokens t) _ (term_token t)

  term_token : (t : Term) → Some (term_tokens t)
  term_token (name n) = (_, _, refl)
  term_token (negated t) = (_, _, refl)
  term_token (group q) = (_, _, refl)

words-text : (ws : List Bytes) → Some ws → all_unspaced ws ≡ true → words (joined ws) ≡ ws
words-text ws s u = let e = s.2 in rw e (words-joined s.0 s.1 (rw e at u))

pub every_reading-one-text : EveryReadingOneText
unfolding reading_of
every_reading-one-text q w =
    let f = 3 * length (text q) + 6 in
    let h : list_read_at f most_open (tokens q) ≡ some (q, []) =
    ap (λ (x : List Bytes). list_read_at f most_open x) (sym (append-nil (tokens q)))
    ∙ list_back q f most_open [] (omega (arith, joined_length (tokens q))) w.names w.brackets tt tt in
    rw (le-leb (length (text q)) most_bytes w.bytes, words-text (tokens q) (some_token q) (tokens-unspaced q w.names), h)

pub one-reading-of-a-text : OneReadingOfAText
one-reading-of-a-text p q v w e =
    let h : ◌≡◌ {A = Option Reading} (some p) (some q) = sym (every_reading-one-text p v) ∙ ap reading_of e ∙ every_reading-one-text q w in
    cc

pub ill-formed-has-none : IllFormedHasNone
ill-formed-has-none b n q w e =
    let h : ◌≡◌ {A = Option Reading} none (some q) = sym n ∙ ap reading_of (sym e) ∙ every_reading-one-text q w in
    let z : ◌≡◌ {A = ℕ} 0 1 = cc in
    omega arith
