use borrow.Author.Tests.{eq-eqb, ne_eqb}
use Rattle.difference.specs.Difference.{block_allowed}
use Rattle.difference.proofs.is_block.Goals as goal

-- `difference::is_block` meets its contract.
pub returns-then-b-ne0 : goal.returns-then-b-ne0
unfolding block_allowed
returns-then-b-ne0 c = rw (ne_eqb _ 0 c.if-b-ne0.true)

pub returns : goal.returns
unfolding block_allowed
returns c = rw (eq-eqb _ 0 c.if-b-ne0.false)
