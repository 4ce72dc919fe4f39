use Rattle.utf8.proofs.Returns.{due-none, due-under, due-over, due-next}
use Rattle.utf8.proofs.after_byte.Goals as goal

pub returns-then-d-eq0 : goal.returns-then-d-eq0
returns-then-d-eq0 c = due-none _ _ c.after_first.result c.if-d-eq0.true c.after_first.ensures

pub returns-then-b-d : goal.returns-then-b-d
returns-then-b-d c = due-under _ _ c.if-d-eq0.false c.if-b-d.true

pub returns-then-d-b : goal.returns-then-d-b
returns-then-d-b c = due-over _ _ c.if-d-eq0.false c.if-d-b.true

pub returns : goal.returns
returns c = due-next _ _ c.if-d-eq0.false c.if-b-d.false c.if-d-b.false
