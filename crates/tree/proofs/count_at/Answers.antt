use borrow.Author.Tests.{eq-eqb, ne_eqb}
use Rattle.tree.specs.Tree.{count_at}
use Rattle.tree.proofs.count_at.Goals as goal

-- `tree::count_at` meets its contract, case by case.
pub returns-then-level-eq0 : goal.returns-then-level-eq0
unfolding count_at
returns-then-level-eq0 c = rw (eq-eqb _ _ c.if-level-eq0.true)

pub returns : goal.returns
unfolding count_at
returns c = rw (ne_eqb _ _ c.if-level-eq0.false)
