-- What falls with each call, four times what is left of the allowance and the place in the order of the calls that spend nothing (below, position, entries,
-- blocks), and where the loop over the positions stands.
use Prim.Native.Nat.{◌+◌, ◌-◌, ◌*◌}
use Rattle.block.specs.Log.{joined, bytes_of}
use Rattle.comparison.specs.Compare.{compare_position}
use Rattle.compare_below.proofs.InOrder.{Rest}
use Rattle.compare_below.proofs.+compare_below_compare_blocks_compare_entries_compare_position.Given as goal

abbrev pub decreases-compare_below : goal.decreases-compare_below
decreases-compare_below l = 4 * l.left + 3

abbrev pub decreases-compare_blocks : goal.decreases-compare_blocks
decreases-compare_blocks l = 4 * l.left

abbrev pub decreases-compare_entries : goal.decreases-compare_entries
decreases-compare_entries l = 4 * l.left + 1

abbrev pub decreases-compare_position : goal.decreases-compare_position
decreases-compare_position l = 4 * l.left + 2

abbrev pub invariant-compare_below-loop-i : goal.invariant-compare_below-loop-i
invariant-compare_below-loop-i l =
    let log = joined l.runs.end.0 l.runs.log.now l.runs.waiting.now in
    Rest (λ f j a. compare_position f log l.e l.level l.nest (bytes_of log l.b) (bytes_of log l.c) j a) l.left l.most l.count l.units l.i
