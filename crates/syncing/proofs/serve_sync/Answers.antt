use mathlib.Core.Path.{◌∙◌}
use borrow.Author.Tests.{not-true, not-false}
use Rattle.sector_log.specs.Parts.{beside}
use Rattle.syncing.proofs.Returns.{sync-refused, sync-moved}
use Rattle.syncing.proofs.serve_sync.Goals as goal

pub returns-then-not-settle : goal.returns-then-not-settle
returns-then-not-settle c = let args = c.args in
    let if1 = c.if-not-settle in
    let settle = c.settle in
    let a = args in
    c.refuse.ensures _ _ ∙ sync-refused a.tag (beside a.log.now a.waiting.now) _ a.reply.now _ settle.ensures.fits settle.ensures.lent if1.true

pub returns : goal.returns
returns c = let acknowledge = c.acknowledge in
    let args = c.args in
    let if1 = c.if-not-settle in
    let settle = c.settle in
    let a = args in
    acknowledge.ensures _ _ ∙ sync-moved a.tag (beside a.log.now a.waiting.now) _ a.reply.now _ settle.ensures.fits settle.ensures.lent if1.false
