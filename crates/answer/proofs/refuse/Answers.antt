use Rattle.answer.proofs.Returns.{outcome}
use Rattle.answer.proofs.refuse.Goals as goal

pub returns : goal.returns
returns c = λ log w. outcome _ _ _ log w _ _ c.number.ensures c.write_error.ensures
