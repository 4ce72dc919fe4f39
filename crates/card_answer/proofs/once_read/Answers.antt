use mathlib.Core.Path.{sym, ap, ◌∙◌}
use Rattle.card_answer.specs.CardAnswer.{once_read}
use Rattle.card_answer.proofs.once_read.Goals as goal
use Rattle.std.specs.Prelude.{Result, ⊤}
use Rattle.refusal.specs.declared.Refusal.{Refusal}

pub returns-in-Ok : goal.returns-in-Ok
returns-in-Ok c =
    let a = c.args in
    c.judge.ensures ∙ sym (ap (λ (x : Result ⊤ Refusal). once_read x a.card.now a.query.now) c.in-Ok.is)

pub returns-in-Err : goal.returns-in-Err
returns-in-Err c =
    let a = c.args in
    sym (ap (λ (x : Result ⊤ Refusal). once_read x a.card.now a.query.now) c.in-Err.is)
