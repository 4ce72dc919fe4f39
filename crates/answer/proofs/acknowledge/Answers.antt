use mathlib.Core.Path.{refl}
use Rattle.answer.proofs.Returns.{outcome, bodiless}
use Rattle.answer.proofs.acknowledge.Goals as goal

pub returns : goal.returns
returns c = λ log w. outcome _ _ _ log w _ _ refl (bodiless _ _ _ _ c.write_head.ensures)
