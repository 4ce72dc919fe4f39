use Rattle.entry.proofs.Tests.{root-length, root-version}
use Rattle.entry.proofs.is_root.Goals as goal

-- `entry::is_root` meets its contract: each return knows its test.
pub returns-then-b-ne300 : goal.returns-then-b-ne300
returns-then-b-ne300 c = root-length c.args.b.now c.if-b-ne300.true

pub returns : goal.returns
returns c = root-version c.args.b.now c.number_at.result c.if-b-ne300.false c.number_at.ensures
