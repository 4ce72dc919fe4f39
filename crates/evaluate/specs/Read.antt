-- What the functions that read a query hand back, by the grammar.
use Rattle.std.specs.Prelude.{◌≡◌, cond, Option, Some, None, ℕ, ◌+◌, ◌-◌, ◌*◌, ◌≤◌, ◌<◌, length}
use Rattle.std.proofs.Math.Option.{none, some}
use Rattle.buffer.specs.Bytes.{Bytes}
use Rattle.kleene.specs.declared.Value.{Value}
use Rattle.kleene.specs.Kleene.{not_of}
use Rattle.card.specs.Card.{value_in}
use Rattle.query.specs.Reading.{close_word}
use Rattle.query.specs.Grammar.{name_at, list_read_at, choice_at, term_at}
use Rattle.query.specs.Place.{words_from, next_is}
use Rattle.query.specs.Value.{value_of, choice_value, term_value, Valued, valued}
use Rattle.evaluate.specs.declared.Read.{Read}

-- what was read, by the words behind it
abbrev pub behind : Bytes → Option Read → Valued
behind s (Some r) = some (r.value, words_from s r.next)
behind s None = none

-- a value, and by a table with it what was read behind "or" or "and"
abbrev pub joined_by : (Value → Value → Value) → Value → Option Read → Option Read
joined_by op v (Some r) = Some (record { value = op v r.value; next = r.next })
joined_by op v None = None

abbrev pub negated_of : Option Read → Option Read
negated_of (Some r) = Some (record { value = not_of r.value; next = r.next })
negated_of None = None

abbrev pub closed_of : Bytes → Option Read → Option Read
closed_of s (Some r) = cond (next_is close_word (words_from s r.next)) (Some (record { value = r.value; next = r.next + 2 })) None
closed_of s None = None

-- what was read ends behind where it starts
abbrev pub Ahead : ℕ → Option Read → Type 0
Ahead at (Some r) = at < r.next
Ahead at None = Unit {0}

-- r is what o has at the place `at`, by every bound on the calls that is enough: three for each byte that is left, and k
pub record Reads (s : Bytes) (at k : ℕ) (o : ℕ → Valued) (r : Option Read) : Type 0 where
  pub ahead : Ahead at r
  pub exact : (f : ℕ) → 3 * (length s + 1 - at) + k ≤ f → behind s r ≡ o f

abbrev pub OfList : Bytes → Bytes → ℕ → ℕ → Option Read → Type 0
OfList card s at room r = Reads s at 3 (λ f. valued (value_of (value_in card)) (list_read_at f room (words_from s at))) r

abbrev pub OfChoice : Bytes → Bytes → ℕ → ℕ → Option Read → Type 0
OfChoice card s at room r = Reads s at 2 (λ f. valued (choice_value (value_in card)) (choice_at f room (words_from s at))) r

abbrev pub OfTerm : Bytes → Bytes → ℕ → ℕ → Option Read → Type 0
OfTerm card s at room r = Reads s at 1 (λ f. valued (term_value (value_in card)) (term_at f room (words_from s at))) r

abbrev pub OfName : Bytes → Bytes → ℕ → Option Read → Type 0
OfName card s at r = Reads s at 0 (λ f. valued (term_value (value_in card)) (name_at (words_from s at))) r
