use mathlib.Core.Bool.{true, false}
use native.Mathlib.Omega.{arith}
use borrow.Author.Tests.{not-true, not-false}
use lib.ListN.{length}
use Rattle.kind.specs.Kind.{zero_score}
use Rattle.kind.proofs.ZeroScore.{length-zero-score}
use Rattle.cut.proofs.Turns.{Cutting, cutting, cut_again, cut_stop, cut_all, cut_test, whole_units_lem}
use Rattle.cut.proofs.cut_scores.Given as goal

-- `cut::cut_scores` meets its contract: the loop at the unit of the zero score.
abbrev pub invariant-loop-n : goal.invariant-loop-n
invariant-loop-n l = Cutting zero_score l.b l.n

abbrev pub decreases-loop-n : goal.decreases-loop-n
decreases-loop-n l = l.n
