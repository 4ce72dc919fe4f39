use mathlib.Core.Path.{refl, sym, ◌∙◌}
use borrow.Author.Tests.{not-true, not-false}
use Rattle.verdict.proofs.Verdicts.{by_tests_lem, only-first, only-second}
use Rattle.verdict.proofs.judge_entries.Goals as goal

-- `verdict::judge_entries` meets its contract, case by case.
pub returns-then-not-d : goal.returns-then-not-d
returns-then-not-d c =
    let a = c.args in
    by_tests_lem a.e a.d _ _ _ _ _ (not-true _ c.if-not-e.true) (not-true _ c.if-not-d.true) refl refl refl

pub returns-then-not-e : goal.returns-then-not-e
returns-then-not-e c =
    let a = c.args in
    c.judge_one.ensures ∙ only-second a.e a.d (not-true _ c.if-not-e.true) (not-false _ c.if-not-d.false)

pub returns-then-not-d-2 : goal.returns-then-not-d-2
returns-then-not-d-2 c =
    let a = c.args in
    c.judge_one-then-not-d-2.ensures ∙ only-first a.e a.d (not-false _ c.if-not-e.false) (not-true _ c.if-not-d-2.true)

pub returns-then-not-is_well_formed : goal.returns-then-not-is_well_formed
returns-then-not-is_well_formed c =
    let a = c.args in
    by_tests_lem a.e a.d _ _ _ _ _ (not-false _ c.if-not-e.false) (not-false _ c.if-not-d-2.false) (sym c.is_well_formed.ensures ∙ c.if-not-is_well_formed.true) refl refl

pub returns-then-not-is_well_formed-2 : goal.returns-then-not-is_well_formed-2
returns-then-not-is_well_formed-2 c =
    let a = c.args in
    by_tests_lem a.e a.d _ _ _ _ _ (not-false _ c.if-not-e.false) (not-false _ c.if-not-d-2.false) (sym c.is_well_formed.ensures ∙ c.if-not-is_well_formed.false)
    (sym c.is_well_formed-2.ensures ∙ c.if-not-is_well_formed-2.true) refl

pub returns-then-same_shape : goal.returns-then-same_shape
returns-then-same_shape c =
    let a = c.args in
    by_tests_lem a.e a.d _ _ _ _ _ (not-false _ c.if-not-e.false) (not-false _ c.if-not-d-2.false) (sym c.is_well_formed.ensures ∙ c.if-not-is_well_formed.false)
    (sym c.is_well_formed-2.ensures ∙ c.if-not-is_well_formed-2.false) (sym c.same_shape.ensures ∙ c.if-same_shape.true)

pub returns : goal.returns
returns c =
    let a = c.args in
    by_tests_lem a.e a.d _ _ _ _ _ (not-false _ c.if-not-e.false) (not-false _ c.if-not-d-2.false) (sym c.is_well_formed.ensures ∙ c.if-not-is_well_formed.false)
    (sym c.is_well_formed-2.ensures ∙ c.if-not-is_well_formed-2.false) (sym c.same_shape.ensures ∙ c.if-same_shape.false)
