use Prim.Native.Nat.{◌+◌, ◌≤◌}
use Rattle.sha1_vectors.proofs.print_million.Given as goal

-- `sha1_vectors::print_million` is safe and ends: each piece has a byte at least. Assumes nothing.
abbrev pub invariant-loop-left : goal.invariant-loop-left
invariant-loop-left g l = l.turn + l.left ≤ 1000000

abbrev pub decreases-loop-left : goal.decreases-loop-left
decreases-loop-left g l = l.left
