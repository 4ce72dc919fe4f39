use native.Mathlib.Omega.{arith}
use borrow.Author.Tests.{le-leb, lt-leb}
use Rattle.kind.specs.Kind.{is_pointer}
use Rattle.kind.proofs.is_pointer.Goals as goal

-- `kind::is_pointer` meets its contract: a case for each range.
pub returns-in-3-to-9 : goal.returns-in-3-to-9
unfolding is_pointer
returns-in-3-to-9 c = let k = c.args.kind in rw (le-leb 3 k (omega arith), le-leb k 9 (omega arith))

pub returns-in_default : goal.returns-in_default
unfolding is_pointer
returns-in_default c = let k = c.args.kind in rw (lt-leb 3 k (omega arith))

pub returns-in_default-2 : goal.returns-in_default-2
unfolding is_pointer
returns-in_default-2 c = let k = c.args.kind in rw (le-leb 3 k (omega arith), lt-leb k 9 (omega arith))
