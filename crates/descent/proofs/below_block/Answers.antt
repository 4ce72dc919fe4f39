use borrow.Author.Tests.{eq-eqb, ne_eqb}
use Rattle.descent.specs.Parts.{below_of}
use Rattle.descent.proofs.below_block.Goals as goal

-- `descent::below_block` meets its contract, case by case.
pub returns-then-e : goal.returns-then-e
unfolding below_of
returns-then-e c = rw (eq-eqb _ 0 c.if-level-eq0.true, c.if-e.true)

pub returns-then-level-eq0 : goal.returns-then-level-eq0
unfolding below_of
returns-then-level-eq0 c = rw (eq-eqb _ 0 c.if-level-eq0.true, c.if-e.false)

pub returns-then-size-ne0 : goal.returns-then-size-ne0
unfolding below_of
returns-then-size-ne0 c = rw (ne_eqb _ 0 c.if-level-eq0.false, ne_eqb _ 0 c.if-size-ne0.true)

pub returns : goal.returns
unfolding below_of
returns c = rw (ne_eqb _ 0 c.if-level-eq0.false, eq-eqb _ 0 c.if-size-ne0.false)
