use borrow.Author.Tests.{not-true, not-false}
use Rattle.lookup.proofs.Outcomes.{ask-log, ask-kind, ask_look}
use Rattle.lookup.proofs.ask.Goals as goal

pub returns-then-not-are_allowed : goal.returns-then-not-are_allowed
returns-then-not-are_allowed c =
    let a = c.args in
    ask-log a.log.now a.waiting.now a.kind a.score.now _ c.are_allowed.ensures c.if-not-are_allowed.true

pub returns-then-not-is_lawful : goal.returns-then-not-is_lawful
returns-then-not-is_lawful c =
    let a = c.args in
    ask-kind a.log.now a.waiting.now a.kind a.score.now _ c.are_allowed.ensures _ c.if-not-are_allowed.false
    c.is_lawful.ensures c.if-not-is_lawful.true

pub returns : goal.returns
returns c =
    let a = c.args in
    let border = c.border-end in
    ask_look a.log.now a.waiting.now a.kind a.score.now _ c.are_allowed.ensures _ border.result.0 _
    c.if-not-are_allowed.false c.is_lawful.ensures
    c.if-not-is_lawful.false border.ensures.alike c.look_up.ensures
