-- A card is judged: its form, then the query.
use mathlib.Core.Path.{◌≡◌, sym, ◌∙◌}
use mathlib.Core.Bool.{Bool, true, false}
use Rattle.std.specs.Prelude.{Result, Err}
use Rattle.buffer.specs.Bytes.{Bytes}
use Rattle.kleene.specs.declared.Value.{Value}
use Rattle.refusal.specs.declared.Refusal.{Refusal}
use Rattle.refusal.specs.declared.Refusal.TheVariants as why
use Rattle.card.specs.Card.{well_formed}
use Rattle.evaluate.specs.Evaluate.{evaluate_of}
use Rattle.card_answer.specs.CardAnswer.{judged}

module _ (card query : Bytes) (t : Bool) (e : t ≡ well_formed card) where
  pub judged-ill : t ≡ false → Err why.Card ≡ judged card query
  unfolding judged
  judged-ill q = rw (sym e ∙ q)

  pub judged_well : t ≡ true → (x : Result Value Refusal) → x ≡ evaluate_of card query → x ≡ judged card query
  unfolding judged
  judged_well q x f = rw (sym e ∙ q) f
