use mathlib.Core.Path.{sym, ◌∙◌}
use Prim.Native.Nat.{◌+◌}
use native.Mathlib.Omega.{arith}
use Rattle.block.specs.Log.{joined}
use Rattle.sector_log.specs.Parts.{tape}
use Rattle.compare.proofs.Alike.{entries-alike}
use Rattle.compare.proofs.Tests.{directory-length, log-not-allowed, allowance_too_large, first-not-allowed, second-not-allowed, tests_passed}
use Rattle.compare.proofs.differences.Goals as goal

-- `compare::differences` meets its contract: tests 3, 23 and 16, then the two given entries.
pub returns-then-not-are_allowed : goal.returns-then-not-are_allowed
returns-then-not-are_allowed c =
    let a = c.args in
    c.refused.ensures
    ∙ log-not-allowed _ (tape a.log.now a.waiting.now) a.x.now a.y.now a.allowance (sym c.are_allowed.ensures ∙ c.if-not-are_allowed.true)

pub returns-then-allowance-gt-MOST_ALLOWANCE : goal.returns-then-allowance-gt-MOST_ALLOWANCE
returns-then-allowance-gt-MOST_ALLOWANCE c =
    let a = c.args in
    c.refused-then-allowance-gt-MOST_ALLOWANCE.ensures
    ∙ allowance_too_large _ (tape a.log.now a.waiting.now) a.x.now a.y.now a.allowance (sym c.are_allowed.ensures ∙ c.if-not-are_allowed.false)
    c.if-allowance-gt-MOST_ALLOWANCE.true

pub returns-then-not-is_directory : goal.returns-then-not-is_directory
returns-then-not-is_directory c =
    let a = c.args in
    c.refused-then-not-is_directory.ensures
    ∙ first-not-allowed _ (tape a.log.now a.waiting.now) a.x.now a.y.now a.allowance (sym c.are_allowed.ensures ∙ c.if-not-are_allowed.false) c.if-allowance-gt-MOST_ALLOWANCE.false
    (sym c.is_directory.ensures ∙ c.if-not-is_directory.true)

pub returns-then-not-is_directory-2 : goal.returns-then-not-is_directory-2
returns-then-not-is_directory-2 c =
    let a = c.args in
    c.refused-then-not-is_directory-2.ensures
    ∙ second-not-allowed _ (tape a.log.now a.waiting.now) a.x.now a.y.now a.allowance (sym c.are_allowed.ensures ∙ c.if-not-are_allowed.false) c.if-allowance-gt-MOST_ALLOWANCE.false
    (sym c.is_directory-2.ensures ∙ c.if-not-is_directory-2.true)

pub compare_entries-requires : goal.compare_entries-requires
compare_entries-requires c = (
  c.border-end.ensures.within,
  directory-length _ (sym c.is_directory.ensures ∙ c.if-not-is_directory.false),
  directory-length _ (sym c.is_directory-2.ensures ∙ c.if-not-is_directory-2.false),
  omega arith,
  omega (arith, c.if-allowance-gt-MOST_ALLOWANCE.false),
)

pub returns : goal.returns
returns c =
    let a = c.args in
    let both = tape a.log.now a.waiting.now in
    let u = c.border-end.result.0 in
    tests_passed _ both a.x.now a.y.now a.allowance (sym c.are_allowed.ensures ∙ c.if-not-are_allowed.false) c.if-allowance-gt-MOST_ALLOWANCE.false
    (sym c.is_directory.ensures ∙ c.if-not-is_directory.false) (sym c.is_directory-2.ensures ∙ c.if-not-is_directory-2.false)
    (c.compare_entries.ensures (a.allowance + 1) (omega arith)
    ∙ entries-alike (joined u a.log.now a.waiting.now) both c.border-end.ensures.alike (a.allowance + 1) 0 a.x.now a.y.now a.allowance)
