-- A card search: what a caller reads back from the number is what the definition says.
use Rattle.std.specs.Prelude.{◌≡◌, ℕ, ◌/◌, ◌%◌, Result, Ok, Err}
use Rattle.std.proofs.Math.Option.{Option, none, some}
use Rattle.kleene.specs.declared.Value.{Value}
use Rattle.refusal.specs.declared.Refusal.{Refusal}
use Rattle.card_answer.specs.CardAnswer.{answer_number}
use Rattle.card_calls.specs.Search.{value_number, value_from, answer_sector, search_result}
use Rattle.results.specs.Unpacked.{number_in}

-- a card search: the number, the value, none where it is refused, and the sector that it tells of
abbrev pub ValueGoesRound : Type 0
ValueGoesRound = (v : Value) → value_from (value_number v) ≡ some v

abbrev pub value_in : ℕ → Option Value
value_in r = value_from (r / 256 % 256)

abbrev pub doubt_in : ℕ → ℕ
doubt_in r = r / 256 / 256

abbrev pub value_told : Result Value Refusal → Option Value
value_told (Ok v) = some v
value_told (Err w) = none

abbrev pub SearchUnpacks : Type 0
SearchUnpacks = (a : Result Value Refusal)
    → (number_in (search_result a) ≡ answer_number a) × (value_in (search_result a) ≡ value_told a) × (doubt_in (search_result a) ≡ answer_sector a)
