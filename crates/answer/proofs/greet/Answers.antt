use mathlib.Core.Path.{refl, ◌∙◌}
use borrow.Author.Tests.{not-true, not-false}
use Rattle.sector_log.specs.Parts.{beside}
use Rattle.answer.proofs.Returns.{outcome, hello_other, hello_right, hello_as}
use Rattle.answer.proofs.greet.Goals as goal

pub returns-then-not-is_version : goal.returns-then-not-is_version
returns-then-not-is_version c = λ log w.
    hello_as c.args.message.now (beside log w) _ _ _ c.tag_of-tag.ensures
    (c.refuse.ensures log w ∙ hello_other _ (beside log w) _ _ _ c.is_version.ensures c.if-not-is_version.true)

pub returns : goal.returns
returns c = λ log w.
    hello_as c.args.message.now (beside log w) _ _ _ c.tag_of-tag.ensures
    (outcome _ _ _ log w _ _ refl c.write_hello.ensures ∙ hello_right _ (beside log w) _ _ _ c.is_version.ensures c.if-not-is_version.false)
