use Rattle.sha1_block.specs.Block.{add_hash}
use Rattle.sha1_block.proofs.added.Goals as goal

pub returns : goal.returns
unfolding add_hash
returns c = cc
