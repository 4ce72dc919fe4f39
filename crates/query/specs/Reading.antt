-- "A query is names with not, and, or, and round brackets": what a query says, its text, and the limits.
use Rattle.std.specs.Prelude.{◌≡◌, Bool, true, ◌&&◌, List, [], ◌∷◌, ◌++◌, ℕ, suc, ◌≤◌, max, length}
use Rattle.buffer.specs.Bytes.{Bytes}
use Rattle.antigen.specs.Name.{is_name}

mutual
  -- a reading is a "list of one or more choices", joined by "or"
  pub data Reading : Type 0 where
    choice : Choice → Reading
    or_else : Choice → Reading → Reading

  -- a choice is one or more terms, joined by "and"
  pub data Choice : Type 0 where
    term : Term → Choice
    and_also : Term → Choice → Choice

  -- "not may stand before a name, a bracket or another not"; "a group holds a list"
  pub data Term : Type 0 where
    name : Bytes → Term
    negated : Term → Term
    group : Reading → Term

-- ---- the text of a reading

abbrev pub and_word : Bytes
and_word = 0x61 ∷ 0x6E ∷ 0x64 ∷ []

abbrev pub or_word : Bytes
or_word = 0x6F ∷ 0x72 ∷ []

abbrev pub not_word : Bytes
not_word = 0x6E ∷ 0x6F ∷ 0x74 ∷ []

abbrev pub open_word : Bytes
open_word = 0x28 ∷ []

abbrev pub close_word : Bytes
close_word = 0x29 ∷ []

-- the tokens of a reading, in their order
unfoldable mutual
  pub tokens : Reading → List Bytes
  tokens (choice c) = choice_tokens c
  tokens (or_else c q) = choice_tokens c ++ (or_word ∷ tokens q)

  pub choice_tokens : Choice → List Bytes
  choice_tokens (term t) = term_tokens t
  choice_tokens (and_also t c) = term_tokens t ++ (and_word ∷ choice_tokens c)

  pub term_tokens : Term → List Bytes
  term_tokens (name n) = n ∷ []
  term_tokens (negated t) = not_word ∷ term_tokens t
  term_tokens (group q) = open_word ∷ (tokens q ++ (close_word ∷ []))

-- a space before each
unfoldable pub spaced : List Bytes → Bytes
spaced [] = []
spaced (w ∷ ws) = 0x20 ∷ (w ++ spaced ws)

-- "one space stands between any two tokens, brackets included, and nowhere else"
unfoldable pub joined : List Bytes → Bytes
joined [] = []
joined (w ∷ ws) = w ++ spaced ws

abbrev pub text : Reading → Bytes
text q = joined (tokens q)

-- ---- the limits

-- every name in it is one: 1 to 8 letters and digits, none of "and", "or", "not"
unfoldable mutual
  pub named : Reading → Bool
  named (choice c) = choice_named c
  named (or_else c q) = choice_named c && named q

  pub choice_named : Choice → Bool
  choice_named (term t) = term_named t
  choice_named (and_also t c) = term_named t && choice_named c

  pub term_named : Term → Bool
  term_named (name n) = is_name n
  term_named (negated t) = term_named t
  term_named (group q) = named q

-- how many brackets are open at most, at any point
unfoldable mutual
  pub depth : Reading → ℕ
  depth (choice c) = choice_depth c
  depth (or_else c q) = max (choice_depth c) (depth q)

  pub choice_depth : Choice → ℕ
  choice_depth (term t) = term_depth t
  choice_depth (and_also t c) = max (term_depth t) (choice_depth c)

  pub term_depth : Term → ℕ
  term_depth (name n) = 0
  term_depth (negated t) = term_depth t
  term_depth (group q) = suc (depth q)

-- "at most 256 bytes"
abbrev pub most_bytes : ℕ
most_bytes = 256

-- "16 brackets deep"
abbrev pub most_open : ℕ
most_open = 16

pub record Within (q : Reading) : Type 0 where
  pub names : named q ≡ true
  pub brackets : depth q ≤ most_open
  pub bytes : length (text q) ≤ most_bytes
