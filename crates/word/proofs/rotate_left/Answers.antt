use Rattle.std.proofs.Common.{◌∙◌, arith}
use Rattle.word.proofs.Rotate.{rotated}
use Rattle.word.proofs.rotate_left.Goals as goal

pub returns : goal.returns
returns c = c.rotate_left.ensures ∙ rotated c.args.x c.args.n c.requires.0 c.requires.1 (omega arith)
