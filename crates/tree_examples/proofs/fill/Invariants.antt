use mathlib.Core.Path.{◌≡◌}
use Prim.Native.Nat.{◌≤◌, ◌-◌}
use lib.ListN.{length}
use Rattle.tree_examples.proofs.fill.Given as goal

-- `tree_examples::fill` is safe and ends.
abbrev pub invariant-loop-i : goal.invariant-loop-i
invariant-loop-i l = length l.d ≡ length l.initial.d
