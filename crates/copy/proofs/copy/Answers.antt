use borrow.Author.Tests.{not-true, not-false}
use mathlib.Core.Path.{sym, ◌∙◌}
use Rattle.block.specs.Log.{joined}
use Rattle.sector_log.specs.Parts.{tape}
use Rattle.sector.proofs.Dates.{date-length}
use Rattle.copying.proofs.SameSectors.{root_alike}
use Rattle.copy.proofs.Tests.{log-not-allowed, not-a-date, allowance_too_large, tests_passed}
use borrow.Author.Rules.{rules}
use Rattle.copy.proofs.copy.Goals as goal

pub returns-then-not-are_allowed : goal.returns-then-not-are_allowed
returns-then-not-are_allowed c =
    let a = c.args in
    log-not-allowed _ (tape a.log.now a.waiting.now) a.date.now a.score.now a.allowance a.second.now _ c.are_allowed.ensures c.if-not-are_allowed.true

pub returns-then-not-is_date : goal.returns-then-not-is_date
returns-then-not-is_date c =
    let a = c.args in
    not-a-date _ (tape a.log.now a.waiting.now) a.date.now a.score.now a.allowance a.second.now _ c.are_allowed.ensures c.if-not-are_allowed.false
    _ c.is_date.ensures c.if-not-is_date.true

pub returns-then-allowance-gt-MOST_ALLOWANCE : goal.returns-then-allowance-gt-MOST_ALLOWANCE
returns-then-allowance-gt-MOST_ALLOWANCE c =
    let a = c.args in
    allowance_too_large _ (tape a.log.now a.waiting.now) a.date.now a.score.now a.allowance a.second.now _ c.are_allowed.ensures
    c.if-not-are_allowed.false _ c.is_date.ensures c.if-not-is_date.false c.if-allowance-gt-MOST_ALLOWANCE.true

pub returns : goal.returns
returns c =
    let a = c.args in
    let both = tape a.log.now a.waiting.now in
    let u = c.border-end.result.0 in
    tests_passed _ both a.date.now a.score.now a.allowance a.second.now _ c.are_allowed.ensures c.if-not-are_allowed.false
    _ c.is_date.ensures c.if-not-is_date.false c.if-allowance-gt-MOST_ALLOWANCE.false _
    (c.copy_root.ensures ∙ root_alike (joined u a.log.now a.waiting.now) both c.border-end.ensures.alike a.date.now a.score.now a.allowance a.second.now)

pub copy_root-requires : goal.copy_root-requires
copy_root-requires c =
    (c.border-end.ensures.within, search rules, date-length _ (sym c.is_date.ensures ∙ c.if-not-is_date.false))
