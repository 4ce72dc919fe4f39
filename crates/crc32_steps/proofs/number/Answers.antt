use Rattle.crc32_steps.proofs.Digits.{number_at}
use Rattle.crc32_steps.proofs.number.Goals as goal

pub returns : goal.returns
returns c = number_at _ c.args.i c.half-high.result c.half-low.result c.requires c.half-high.ensures c.half-low.ensures
