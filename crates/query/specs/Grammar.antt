-- The reading of a text, read from the front.
use Rattle.std.specs.Prelude.{Bool, true, false, cond, List, [], ◌∷◌, ℕ, zero, suc, ◌+◌, ◌*◌, eqb, leb, length}
use Rattle.std.proofs.Math.Option.{Option, none, some}
use Rattle.bedrock.specs.Choice.{on}
use Rattle.buffer.specs.Bytes.{Bytes, same}
use Rattle.antigen.specs.Name.{is_name}
use Rattle.query.specs.Reading.{Reading, choice, or_else, Choice, term, and_also, Term, name, negated, group, and_word, or_word, not_word, open_word, close_word, most_bytes, most_open}

-- ---- the words of a text: what stands between its spaces, before the first and behind the last

-- a byte before the first word
abbrev pub onto : ℕ → List Bytes → List Bytes
onto b [] = (b ∷ []) ∷ []
onto b (w ∷ ws) = (b ∷ w) ∷ ws

-- a text of k spaces has k + 1 words, of which some may be empty
unfoldable pub words : Bytes → List Bytes
words [] = [] ∷ []
words (b ∷ s) = cond (eqb b 0x20) ([] ∷ words s) (onto b (words s))

-- ---- the grammar

-- what is read at the front of words, and the words behind it
abbrev pub Front : Type 0 → Type 0
Front A = Option (A × List Bytes)

-- what goes on from the words ws, or x
abbrev pub choose : {A : Type 0} → Bool → (List Bytes → A) → List Bytes → A → A
choose true k ws x = k ws
choose false k ws x = x

-- where the first word is t what goes on behind it, else x
unfoldable pub after : {A : Type 0} → Bytes → List Bytes → A → (List Bytes → A) → A
after t [] x k = x
after t (w ∷ ws) x k = choose (same w t) k ws x

-- one bracket fewer may be opened
abbrev pub opening : {A : Type 0} → ℕ → (ℕ → Front A) → Front A
opening zero k = none
opening (suc d) k = k d

-- a name
unfoldable pub name_at : List Bytes → Front Term
name_at [] = none
name_at (w ∷ ws) = cond (is_name w) (some (name w, ws)) none

-- The first number bounds the calls, the second the brackets that may still be opened. Each word takes three calls at most, so that three times the
-- bytes and a little more is enough: no reading within the limits is missed (`EveryReadingOneText`).
unfoldable mutual
  -- list = choice { "or" choice }
  pub list_read_at : ℕ → ℕ → List Bytes → Front Reading
  list_read_at zero d ws = none
  list_read_at (suc f) d ws =
      on (choice_at f d ws) none
      (λ c. after or_word c.1 (some (choice c.0, c.1)) (λ vs. on (list_read_at f d vs) none (λ q. some (or_else c.0 q.0, q.1))))

  -- choice = term { "and" term }
  pub choice_at : ℕ → ℕ → List Bytes → Front Choice
  choice_at zero d ws = none
  choice_at (suc f) d ws =
      on (term_at f d ws) none
      (λ t. after and_word t.1 (some (term t.0, t.1)) (λ vs. on (choice_at f d vs) none (λ c. some (and_also t.0 c.0, c.1))))

  -- term = "not" term | name | "(" list ")"
  pub term_at : ℕ → ℕ → List Bytes → Front Term
  term_at zero d ws = none
  term_at (suc f) d ws =
      after not_word ws
      (after open_word ws (name_at ws)
      (λ vs. opening d (λ e. on (list_read_at f e vs) none (λ q. after close_word q.1 none (λ us. some (group q.0, us))))))
      (λ vs. on (term_at f d vs) none (λ t. some (negated t.0, t.1)))

-- nothing may stand behind it
abbrev pub all_read : Front Reading → Option Reading
all_read none = none
all_read (some (q, [])) = some q
all_read (some (q, w ∷ ws)) = none

-- a query is a list; "at most 256 bytes and 16 brackets deep"
unfoldable pub reading_of : Bytes → Option Reading
reading_of b = cond (leb (length b) most_bytes) (all_read (list_read_at (3 * length b + 6) most_open (words b))) none
