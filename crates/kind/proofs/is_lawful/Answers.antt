use native.Mathlib.Omega.{arith}
use borrow.Author.Tests.{le-leb, lt-leb, eq-eqb, ne_eqb}
use Rattle.kind.specs.Kind.{lawful}
use Rattle.kind.proofs.is_lawful.Goals as goal

-- `kind::is_lawful` meets its contract: a case for each range.
pub returns-in_default : goal.returns-in_default
unfolding lawful
returns-in_default c = let k = c.args.kind in rw (lt-leb 1 k (omega arith), ne_eqb k 13 (λ e. omega arith))

pub returns-in_default-2 : goal.returns-in_default-2
unfolding lawful
returns-in_default-2 c = let k = c.args.kind in rw (le-leb 1 k (omega arith), lt-leb k 9 (omega arith), ne_eqb k 13 (λ e. omega arith))

pub returns-in-1-to-9 : goal.returns-in-1-to-9
unfolding lawful
returns-in-1-to-9 c = let k = c.args.kind in rw (le-leb 1 k (omega arith), lt-leb k 9 (omega arith), eq-eqb k 13 (omega arith))

pub returns-in-1-to-9-2 : goal.returns-in-1-to-9-2
unfolding lawful
returns-in-1-to-9-2 c = let k = c.args.kind in rw (le-leb 1 k (omega arith), le-leb k 9 (omega arith))
