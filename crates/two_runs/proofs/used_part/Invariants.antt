use mathlib.Core.Path.{◌≡◌}
use Rattle.block.specs.Log.{used_of, used}
use Rattle.two_runs.proofs.used_part.Given as goal

-- `two_runs::used_part` meets its contract: the used part of the sectors that are left is that of all.
abbrev pub invariant-loop-n : goal.invariant-loop-n
invariant-loop-n l = used_of l.log l.n ≡ used l.log
