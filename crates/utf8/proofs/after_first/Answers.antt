use Rattle.utf8.proofs.Returns.{first_nul, first_one, first_tail, first_two, first_three, first_four, first_past}
use Rattle.utf8.proofs.after_first.Goals as goal

-- `utf8::after_first` meets its contract: a case for each range of the first byte.
pub returns-then-b-eq0 : goal.returns-then-b-eq0
returns-then-b-eq0 c = first_nul _ c.if-b-eq0.true

pub returns-then-b-lt128 : goal.returns-then-b-lt128
returns-then-b-lt128 c = rw c.wait.ensures (first_one _ c.if-b-eq0.false c.if-b-lt128.true)

pub returns-then-b-lt194 : goal.returns-then-b-lt194
returns-then-b-lt194 c = first_tail _ c.if-b-lt128.false c.if-b-lt194.true

pub returns-then-b-lt224 : goal.returns-then-b-lt224
returns-then-b-lt224 c = rw c.wait-then-b-lt224.ensures (first_two _ c.if-b-lt194.false c.if-b-lt224.true)

pub returns-then-b-lt240 : goal.returns-then-b-lt240
returns-then-b-lt240 c = rw c.wait-then-b-lt240.ensures (first_three _ c.if-b-lt224.false c.if-b-lt240.true)

pub returns-then-b-lt245 : goal.returns-then-b-lt245
returns-then-b-lt245 c = rw c.wait-then-b-lt245.ensures (first_four _ c.if-b-lt240.false c.if-b-lt245.true)

pub returns : goal.returns
returns c = first_past _ c.if-b-lt245.false
