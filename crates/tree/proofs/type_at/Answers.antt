use borrow.Author.Tests.{eq-eqb, ne_eqb}
use Rattle.tree.specs.Tree.{type_at}
use Rattle.tree.proofs.type_at.Goals as goal

-- `tree::type_at` meets its contract, case by case.
pub returns-then-e : goal.returns-then-e
unfolding type_at
returns-then-e c = rw (eq-eqb _ _ c.if-level-eq0.true, c.if-e.true)

pub returns-then-level-eq0 : goal.returns-then-level-eq0
unfolding type_at
returns-then-level-eq0 c = rw (eq-eqb _ _ c.if-level-eq0.true, c.if-e.false)

pub returns : goal.returns
unfolding type_at
returns c = rw (ne_eqb _ _ c.if-level-eq0.false)
