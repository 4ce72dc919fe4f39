use Rattle.buffer.proofs.Parts.{part_rest}
use Rattle.message.proofs.data_of.Goals as goal

pub returns : goal.returns
returns c = part_rest c.args.m.now 8
