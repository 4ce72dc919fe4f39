-- The answer of a card search in one number, and whether bytes are a card.
use Rattle.std.specs.Prelude.{Bool, true, false, cond, ◌&&◌, ℕ, ◌+◌, ◌*◌, leb, eqb, length, Result, Ok, Err}
use Rattle.std.proofs.Math.Option.{Option, none, some}
use Rattle.buffer.specs.Bytes.{Bytes}
use Rattle.refusal.specs.declared.Refusal.{Refusal}
use Rattle.refusal.specs.Number.{told_sector}
use Rattle.card.specs.Card.{well_formed}
use Rattle.kleene.specs.declared.Value.{Value}
use Rattle.kleene.specs.declared.Value.TheVariants.{Yes, No, NotKnown}
use Rattle.card_answer.specs.CardAnswer.{answer_number}
use Rattle.search.specs.Search.{longest_card}

-- a value as a number: 1 is yes, 2 no, 3 not known, and anything else none
abbrev pub value_number : Value → ℕ
value_number Yes = 1
value_number No = 2
value_number NotKnown = 3

unfoldable pub value_from : ℕ → Option Value
value_from n = cond (eqb n 1) (some Yes) (cond (eqb n 2) (some No) (cond (eqb n 3) (some NotKnown) none))

-- the value that is told, 0 where it is refused
abbrev pub told_number : Result Value Refusal → ℕ
told_number (Ok v) = value_number v
told_number (Err w) = 0

-- the sector that a refusal tells of, 0 where none does
abbrev pub answer_sector : Result Value Refusal → ℕ
answer_sector (Ok v) = 0
answer_sector (Err w) = told_sector w

-- the number of the refusal, 0 for none, in 8 bits; the value in 8 bits; above them the sector
abbrev pub search_result : Result Value Refusal → ℕ
search_result a = answer_number a + 256 * (told_number a + 256 * answer_sector a)

-- "A card is a file of at most 4,096 bytes": its bytes are no more, and well-formed
unfoldable pub is_card : Bytes → Bool
is_card bytes = leb (length bytes) longest_card && well_formed bytes

-- 1 where the bytes are a card, else 0
abbrev pub card_number : Bool → ℕ
card_number true = 1
card_number false = 0
