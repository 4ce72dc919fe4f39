use mathlib.Core.Path.{◌≡◌, refl, sym, ap, ◌∙◌}
use Prim.Native.Nat.{ℕ, ◌+◌, ◌-◌, ◌≤◌}
use native.Mathlib.Omega.{arith}
use borrow.Author.Tests.{not-true, not-false}
use lib.ListN.{length}
use Rattle.sector.specs.Sector.{fits}
use Rattle.block.specs.Log.{joined, at, checked}
use Rattle.block.proofs.At.{length_at}
use Rattle.block_tests.proofs.Turns.{all_turn, all-stop, all_end}
use Rattle.block_tests.proofs.checks_fit.Given as goal

-- `block_tests::checks_fit` meets its contract: the test of the sectors that are left is that of all.
abbrev pub invariant-loop-n : goal.invariant-loop-n
invariant-loop-n l = checked (joined l.runs.end.0 l.runs.log.now l.runs.waiting.now) (l.last - l.n) l.n ≡ checked (joined l.runs.end.0 l.runs.log.now l.runs.waiting.now) l.count l.initial.n
