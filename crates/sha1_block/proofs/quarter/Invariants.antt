use mathlib.Core.Path.{◌≡◌}
use mathlib.Core.List.{List}
use Prim.Native.Nat.{ℕ, ◌≤◌, ◌-◌, ◌+◌, ◌%◌}
use native.Mathlib.Omega.{arith}
use Rattle.sha1_block.specs.declared.Hash.{Hash}
use Rattle.sha1_block.specs.Rounds.{RoundsDone}
use Rattle.sha1_block.proofs.Turns.{after_move}
use Rattle.sha1_block.proofs.quarter.Given as goal

-- `sha1_block::quarter` meets its contract. The loop's invariant: t rounds are done, and the ring is round t - 1's. Assumes nothing.
abbrev pub invariant-loop-t : goal.invariant-loop-t
invariant-loop-t l =
    (l.from ≤ l.t) × (l.t ≤ l.to) × ((l.to - l.t) % 2 ≡ 0) × ((m : List ℕ) (h : Hash) → RoundsDone m h l.from l.initial.w l.initial.v → RoundsDone m h l.t l.w l.v)

abbrev pub decreases-loop-t : goal.decreases-loop-t
decreases-loop-t l = l.to - l.t
