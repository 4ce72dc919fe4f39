use Rattle.utf8.proofs.Returns.{high_ed, high_f4, high-tail}
use native.Mathlib.Omega.{arith}
use Rattle.utf8.proofs.high_after.Goals as goal

-- `utf8::high_after` meets its contract.
pub returns-in-237 : goal.returns-in-237
returns-in-237 c = high_ed _ c.in-237.is

pub returns-in-244 : goal.returns-in-244
returns-in-244 c = high_f4 _ c.in-244.is

pub returns-in_default : goal.returns-in_default
returns-in_default c = high-tail _ (λ e. omega arith) (λ e. omega arith)
