use mathlib.Core.Path.{sym, ap, ◌∙◌}
use Rattle.card_answer.specs.CardAnswer.{answer_number}
use Rattle.card_answer.proofs.number.Goals as goal

pub returns-in-Err : goal.returns-in-Err
returns-in-Err c =
    let number = c.number in
    number.ensures ∙ sym (ap answer_number c.in-Err.is)
