use mathlib.Core.Path.{◌≡◌}
use mathlib.Core.List.{List}
use Prim.Native.Nat.{ℕ}
use Rattle.sha1_block.specs.Block.{rounds_of, schedule_of}
use Rattle.sha1_schedule.specs.Ring.{Ring}
use Rattle.sha1_block.proofs.first_rounds.Given as goal

-- `sha1_block::first_rounds` meets its contract. The loop's invariant: the rounds of the words before x are done. Assumes nothing.
abbrev pub invariant-loop-x : goal.invariant-loop-x
invariant-loop-x l = (m : List ℕ) → Ring m 15 l.w → l.s ≡ rounds_of l.x-index (schedule_of 64 m) l.initial.s
