use Rattle.utf8.proofs.Returns.{low_e0, low_f0, low-tail}
use native.Mathlib.Omega.{arith}
use Rattle.utf8.proofs.low_after.Goals as goal

-- `utf8::low_after` meets its contract.
pub returns-in-224 : goal.returns-in-224
returns-in-224 c = low_e0 _ c.in-224.is

pub returns-in-240 : goal.returns-in-240
returns-in-240 c = low_f0 _ c.in-240.is

pub returns-in_default : goal.returns-in_default
returns-in_default c = low-tail _ (λ e. omega arith) (λ e. omega arith)
