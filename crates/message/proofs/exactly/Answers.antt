use Rattle.message.proofs.Returns.{exactly-bad, exactly-good, exactly-left}
use Rattle.message.proofs.exactly.Goals as goal

pub returns-in_default : goal.returns-in_default
returns-in_default c = exactly-bad _ _ _ c.in_default.is

pub returns-then-at-m : goal.returns-then-at-m
returns-then-at-m c = exactly-good _ _ _ _ c.in-Some.is c.if-at-m.true

pub returns-else-at-m : goal.returns-else-at-m
returns-else-at-m c = exactly-left _ _ _ _ c.in-Some.is c.if-at-m.false
