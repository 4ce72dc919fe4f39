use mathlib.Core.Path.{◌∙◌}
use Rattle.buffer.proofs.Steps.{same-pointwise}
use Rattle.buffer.proofs.equal.Goals as goal

pub returns : goal.returns
returns c = c.eq.ensures ∙ same-pointwise c.args.a.now c.args.b.now
