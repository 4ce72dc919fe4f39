use borrow.Author.Tests.{not-true, not-false}
use Rattle.index_lookup.proofs.Turns.{ask-log, ask-kind, ask_look}
use Rattle.index_lookup.proofs.ask_by.Goals as goal

pub returns-then-not-are_allowed : goal.returns-then-not-are_allowed
returns-then-not-are_allowed c =
    let a = c.args in
    ask-log a.log.now a.waiting.now a.index.now a.kind a.score.now _ c.are_allowed.ensures c.if-not-are_allowed.true

pub returns-then-not-is_lawful : goal.returns-then-not-is_lawful
returns-then-not-is_lawful c = let are-allowed = c.are_allowed in
    let args = c.args in
    let a = args in
    ask-kind a.log.now a.waiting.now a.index.now a.kind a.score.now _ are-allowed.ensures _ c.if-not-are_allowed.false c.is_lawful.ensures
    c.if-not-is_lawful.true

pub returns : goal.returns
returns c = let are-allowed = c.are_allowed in
    let args = c.args in
    let if1 = c.if-not-are_allowed in
    let if2 = c.if-not-is_lawful in
    let is_lawful = c.is_lawful in
    let a = args in
    let border = c.border-end in
    ask_look a.log.now a.waiting.now a.index.now a.kind a.score.now _ are-allowed.ensures _ border.result.0 _ if1.false is_lawful.ensures
    if2.false border.ensures.alike c.look_up_by.ensures
