use Prim.Native.Nat.{◌≤◌, ◌-◌}
use Rattle.tree_examples.proofs.read_parts.Given as goal

-- `tree_examples::read_parts` is safe and ends.
abbrev pub invariant-loop-offset : goal.invariant-loop-offset
invariant-loop-offset g l = l.offset ≤ l.size

abbrev pub decreases-loop-offset : goal.decreases-loop-offset
decreases-loop-offset g l = l.size - l.offset
