use mathlib.Core.Path.{refl}
use Rattle.answer.proofs.close.Goals as goal

-- `answer::close` meets its contract: nothing but the session changes.
pub returns : goal.returns
returns c = λ log w buffer. refl
