use borrow.Author.Tests.{not-true, not-false}
use mathlib.Core.Path.{◌∙◌}
use Rattle.block.specs.Log.{joined}
use Rattle.sector_log.specs.Parts.{tape}
use Rattle.walk.proofs.Alike.{root_alike}
use Rattle.walk.proofs.FromRoot.{log-not-allowed, allowance_too_large, tests_passed}
use Rattle.walk.proofs.walk.Goals as goal

pub returns-then-not-are_allowed : goal.returns-then-not-are_allowed
returns-then-not-are_allowed c =
    let a = c.args in
    log-not-allowed _ (tape a.log.now a.waiting.now) a.score.now a.allowance _ c.are_allowed.ensures c.if-not-are_allowed.true

pub returns-then-allowance-gt-MOST_ALLOWANCE : goal.returns-then-allowance-gt-MOST_ALLOWANCE
returns-then-allowance-gt-MOST_ALLOWANCE c =
    let a = c.args in
    allowance_too_large _ (tape a.log.now a.waiting.now) a.score.now a.allowance _ c.are_allowed.ensures c.if-not-are_allowed.false c.if-allowance-gt-MOST_ALLOWANCE.true

pub returns : goal.returns
returns c =
    let a = c.args in
    let both = tape a.log.now a.waiting.now in
    let u = c.border-end.result.0 in
    tests_passed _ both a.score.now a.allowance _ c.are_allowed.ensures c.if-not-are_allowed.false c.if-allowance-gt-MOST_ALLOWANCE.false _
    (c.walk_root.ensures ∙ root_alike (joined u a.log.now a.waiting.now) both c.border-end.ensures.alike a.score.now a.allowance)
