use native.Mathlib.Omega.{arith}
use borrow.Author.Tests.{not-true, not-false}
use Rattle.file.proofs.Tests.{readable-length}
use Rattle.compare.proofs.Tests.{not-readable, by_directory}
use Rattle.compare.proofs.is_directory.Goals as goal

-- `compare::is_directory` meets its contract.
pub returns-then-not-is_readable : goal.returns-then-not-is_readable
returns-then-not-is_readable c = not-readable c.args.x.now c.is_readable.ensures c.if-not-is_readable.true

pub entry_at-e-requires : goal.entry_at-e-requires
entry_at-e-requires c =
    omega (arith, readable-length c.args.x.now _ c.is_readable.ensures c.if-not-is_readable.false)

pub returns : goal.returns
returns c =
    by_directory c.args.x.now c.is_readable.ensures c.if-not-is_readable.false c.entry_at-e.ensures
