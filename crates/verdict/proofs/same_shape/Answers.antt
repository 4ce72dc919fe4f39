use borrow.Author.Tests.{not-true, not-false}
use Rattle.verdict.proofs.Verdicts.{first_no_directory, second_no_directory, other_psize, other_dsize, by_depth}
use Rattle.verdict.proofs.same_shape.Goals as goal

-- `verdict::same_shape` meets its contract, test by test.
pub returns-then-not-e : goal.returns-then-not-e
returns-then-not-e c = first_no_directory _ _ (not-true _ c.if-not-e.true)

pub returns-then-not-d : goal.returns-then-not-d
returns-then-not-d c = second_no_directory _ _ (not-false _ c.if-not-e.false) (not-true _ c.if-not-d.true)

pub returns-then-e-d : goal.returns-then-e-d
returns-then-e-d c =
    other_psize _ _ (not-false _ c.if-not-e.false) (not-false _ c.if-not-d.false) c.if-e-d.true

pub returns-then-e-d-2 : goal.returns-then-e-d-2
returns-then-e-d-2 c =
    other_dsize _ _ (not-false _ c.if-not-e.false) (not-false _ c.if-not-d.false) c.if-e-d.false c.if-e-d-2.true

pub returns : goal.returns
returns c =
    by_depth _ _ (not-false _ c.if-not-e.false) (not-false _ c.if-not-d.false) c.if-e-d.false c.if-e-d-2.false
