-- "The answer is yes, no or not known, by the strong Kleene tables; an antigen with no line is not known"; "ill-formed queries 26".
use Rattle.std.specs.Prelude.{Result, Ok, Err}
use Rattle.bedrock.specs.Choice.{on}
use Rattle.buffer.specs.Bytes.{Bytes}
use Rattle.kleene.specs.declared.Value.{Value}
use Rattle.refusal.specs.declared.Refusal.{Refusal}
use Rattle.refusal.specs.declared.Refusal.TheVariants.{Query}
use Rattle.card.specs.Card.{value_in}
use Rattle.query.specs.Grammar.{reading_of}
use Rattle.query.specs.Value.{value_of}

abbrev pub evaluate_of : Bytes → Bytes → Result Value Refusal
evaluate_of card text = on (reading_of text) (Err Query) (λ q. Ok (value_of (value_in card) q))
