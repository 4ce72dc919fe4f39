use mathlib.Core.Path.{refl}
use Rattle.answer.proofs.Returns.{outcome}
use Rattle.answer.proofs.refuse_silently.Goals as goal

pub returns : goal.returns
returns c = λ log w buffer. outcome _ _ _ log w buffer buffer c.number.ensures refl
