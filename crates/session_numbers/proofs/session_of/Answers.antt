use Rattle.session_numbers.proofs.ServeLaws.{is-fresh, is-greeted, is_closed}
use Rattle.session_numbers.proofs.session_of.Goals as goal

pub returns-then-n-eq0 : goal.returns-then-n-eq0
returns-then-n-eq0 c = is-fresh (c.args.n) (c.if-n-eq0.true)

pub returns-then-n-eq1 : goal.returns-then-n-eq1
returns-then-n-eq1 c = is-greeted (c.args.n) (c.if-n-eq0.false) (c.if-n-eq1.true)

pub returns : goal.returns
returns c = is_closed (c.args.n) (c.if-n-eq0.false) (c.if-n-eq1.false)
