use Rattle.block.specs.Block.{parts_of}
use borrow.Author.Rules.{rules}
use Rattle.write.proofs.pieces.Goals as goal

pub returns : goal.returns
unfolding parts_of
returns c = search rules
