use mathlib.Core.Path.{ap, ◌∙◌}
use mathlib.Core.Option.{some}
use Rattle.sector_log.specs.Parts.{beside}
use Rattle.indexed.specs.Indexed.{step_by}
use Rattle.request.specs.declared.Session.{Session}
use Rattle.serve_calls.proofs.InOneNumber.{served-packed}
use Rattle.serve_calls.proofs.serve.Goals as goal

pub returns : goal.returns
returns c =
    let session-of = c.session_of in
    let serve = c.serve-answer in
    let packed = c.packed in
    let a = c.args in
    let lent = beside a.log.now a.waiting.now in
    served-packed serve.result _ _ _ _ _ _ packed.ensures
    (serve.ensures ∙ ap (λ (s : Session). step_by s a.message.now (some a.date.now) a.index.now lent a.reply.now) session-of.ensures)
