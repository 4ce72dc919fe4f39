use mathlib.Core.Path.{sym}
use native.Mathlib.Omega.{arith}
use Rattle.kind.proofs.ZeroScore.{none_differ, first-differs}
use Rattle.kind.proofs.is_zero_score.Goals as goal

-- `kind::is_zero_score` meets its contract.
pub returns-in_default : goal.returns-in_default
returns-in_default c = sym (none_differ c.args.s.now (omega arith))

pub returns-in_default-2 : goal.returns-in_default-2
returns-in_default-2 c = sym (first-differs c.args.s.now (omega arith) (λ e. omega arith))
