-- What a card says to a query, once it is read or could not be.
use Rattle.std.specs.Prelude.{Bool, cond, ℕ, Result, Ok, Err, ⊤}
use Rattle.buffer.specs.Bytes.{Bytes}
use Rattle.kleene.specs.declared.Value.{Value}
use Rattle.refusal.specs.declared.Refusal.{Refusal}
use Rattle.refusal.specs.declared.Refusal.TheVariants as why
use Rattle.refusal.specs.Number.{number_of}
use Rattle.card.specs.Card.{well_formed}
use Rattle.evaluate.specs.Evaluate.{evaluate_of}

-- the number of an answer, 0 where it is a value
abbrev pub answer_number : Result Value Refusal → ℕ
answer_number (Ok v) = 0
answer_number (Err w) = number_of w

-- a test, which refuses or lets through
abbrev pub test : Bool → Refusal → Result Value Refusal → Result Value Refusal
test b w x = cond b x (Err w)

-- "Ill-formed cards are 25, ill-formed queries 26, .. judged in this order"
unfoldable pub judged : Bytes → Bytes → Result Value Refusal
judged card query = test (well_formed card) why.Card (evaluate_of card query)

-- "once the whole card is read; a card the archive can't read keeps the archive's number at the first refused offset"
abbrev pub once_read : Result ⊤ Refusal → Bytes → Bytes → Result Value Refusal
once_read (Ok tt) card query = judged card query
once_read (Err w) card query = Err w
