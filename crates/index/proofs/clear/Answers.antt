use Rattle.index.proofs.Turns.{cleared-is}
use Rattle.index.proofs.clear.Goals as goal

pub returns : goal.returns
returns c = cleared-is c.args.index.now _ c.clear.ensures
