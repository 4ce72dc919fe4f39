use mathlib.Core.Path.{◌≡◌}
use Prim.Native.Nat.{◌≤◌, ◌-◌}
use lib.ListN.{length}
use Rattle.tree_examples.proofs.put_leaves.Given as goal

-- `tree_examples::put_leaves` is safe and ends.
abbrev pub invariant-loop-k : goal.invariant-loop-k
invariant-loop-k l = (length l.log ≡ length l.initial.log) × (length l.scores ≡ length l.initial.scores)
