use Rattle.sha1_block.specs.Block.{round_of}
use Rattle.sha1_block.proofs.round.Goals as goal

pub returns : goal.returns
unfolding round_of
returns c = cc
