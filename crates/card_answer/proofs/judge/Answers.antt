use borrow.Author.Tests.{not-true, not-false}
use Rattle.card_answer.proofs.Judged.{judged-ill, judged_well}
use Rattle.card_answer.proofs.judge.Goals as goal

pub returns-then-not-is_card : goal.returns-then-not-is_card
returns-then-not-is_card c =
    let is-card = c.is_card in
    let if1 = c.if-not-is_card in
    judged-ill _ _ _ is-card.ensures if1.true

pub returns : goal.returns
returns c =
    let is-card = c.is_card in
    let if1 = c.if-not-is_card in
    let evaluate = c.evaluate in
    judged_well _ _ _ is-card.ensures if1.false _ evaluate.ensures
