use borrow.Author.Tests.{not-true, not-false}
use Rattle.log_length.proofs.Lengths.{lent-log, lent-ragged, lent-whole}
use Rattle.log_length.proofs.are_allowed.Goals as goal

pub returns-then-not-is_allowed : goal.returns-then-not-is_allowed
returns-then-not-is_allowed c =
    let a = c.args in
    lent-log a.log a.waiting _ c.is_allowed.ensures c.if-not-is_allowed.true

pub returns-then-waiting-ne0 : goal.returns-then-waiting-ne0
returns-then-waiting-ne0 c =
    let a = c.args in
    lent-ragged a.log a.waiting _ c.is_allowed.ensures c.if-not-is_allowed.false c.if-waiting-ne0.true

pub returns : goal.returns
returns c =
    let a = c.args in
    lent-whole a.log a.waiting _ c.is_allowed.ensures c.if-not-is_allowed.false c.if-waiting-ne0.false
