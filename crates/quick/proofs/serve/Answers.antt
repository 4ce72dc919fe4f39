use mathlib.Core.Path.{sym, ◌∙◌}
use borrow.Author.Tests.{not-true, not-false}
use Rattle.quick.proofs.Admission.{not-admitted}
use Rattle.quick.proofs.serve.Goals as goal

pub returns-then-not-is_admitted : goal.returns-then-not-is_admitted
returns-then-not-is_admitted c =
    let is-admitted = c.is_admitted in
    let if1 = c.if-not-is_admitted in
    let hand_on = c.hand_on in
    let a = c.args in
    hand_on.ensures ∙ not-admitted a.known a.session a.message.now a.date.now a.index.now a.log.now a.waiting.now a.reply.now
    (sym is-admitted.ensures ∙ if1.true)

pub serve_admitted-requires : goal.serve_admitted-requires
serve_admitted-requires c =
    let is-admitted = c.is_admitted in
    let if1 = c.if-not-is_admitted in
    sym is-admitted.ensures ∙ if1.false
