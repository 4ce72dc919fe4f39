use borrow.Author.Tests.{eq-eqb, ne_eqb}
use Rattle.comparison.specs.Compare.{positions}
use Rattle.compare_below.proofs.positions_of.Goals as goal

-- `compare_below::positions_of` meets its contract.
pub returns-then-level-eq0 : goal.returns-then-level-eq0
unfolding positions
returns-then-level-eq0 c = rw (eq-eqb _ 0 c.if-level-eq0.true)

pub returns : goal.returns
unfolding positions
returns c = rw (ne_eqb _ 0 c.if-level-eq0.false)
