use Rattle.log_length.proofs.Lengths.{ragged, whole-allowed}
use Rattle.log_length.proofs.is_allowed.Goals as goal

-- `log_length::is_allowed` meets its contract.
pub returns-then-length-ne0 : goal.returns-then-length-ne0
returns-then-length-ne0 c = ragged (c.args.length) (c.if-length-ne0.true)

pub returns : goal.returns
returns c = whole-allowed (c.args.length) (c.if-length-ne0.false)
