use Rattle.block_calls.proofs.BlockLaws.{padded_so}
use Rattle.block_calls.proofs.pad.Goals as goal

pub returns : goal.returns
returns c = padded_so c.pad.result _ _ c.pad_number.result c.pad.ensures c.pad_number.ensures
