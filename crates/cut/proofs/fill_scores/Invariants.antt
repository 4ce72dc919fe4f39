use Prim.Native.Nat.{◌-◌}
use mathlib.Core.Path.{◌≡◌, ap}
use native.Mathlib.Omega.{arith}
use lib.ListN.{length}
use Rattle.kind.specs.Kind.{zero_score}
use Rattle.kind.proofs.ZeroScore.{length-zero-score}
use Rattle.cut.proofs.Turns.{Filling, filling, fill_room, fill_again, fill_all, whole_units_lem}
use Rattle.cut.proofs.fill_scores.Given as goal

-- `cut::fill_scores` meets its contract: the loop at the unit of the zero score.
abbrev pub invariant-loop-at : goal.invariant-loop-at
invariant-loop-at l = (l.z ≡ zero_score) × Filling zero_score l.initial.d l.d l.at

abbrev pub decreases-loop-at : goal.decreases-loop-at
decreases-loop-at l = length l.initial.d - l.at
