use mathlib.Core.Path.{◌≡◌}
use Prim.Native.Nat.{◌≤◌, ◌-◌}
use lib.ListN.{length}
use Rattle.tree_examples.proofs.put_tree.Given as goal

-- `tree_examples::put_tree` is safe and ends.
abbrev pub invariant-loop-level : goal.invariant-loop-level
invariant-loop-level l = (length l.log ≡ length l.initial.log) × (length l.scores ≡ 540) × (l.n ≤ 27)
