use mathlib.Core.Path.{◌≡◌}
use Prim.Native.Nat.{◌≤◌, ◌-◌}
use lib.ListN.{length}
use Rattle.tree_examples.proofs.nest.Given as goal

-- `tree_examples::nest` is safe and ends.
abbrev pub invariant-loop : goal.invariant-loop
invariant-loop g l = (length l.log ≡ length l.initial.log) × (length l.e ≡ 40)
