use Rattle.descent.specs.Descent.{nest_of}
use Rattle.descent.proofs.nest_of.Goals as goal

pub returns-then-e : goal.returns-then-e
unfolding nest_of
returns-then-e c = rw c.if-e.true

pub returns : goal.returns
unfolding nest_of
returns c = rw c.if-e.false
