-- What falls with each call, four times what is left of the allowance and the place in the order of the calls that spend nothing (below, directory, listed or
-- scores, entry), and where the two loops stand.
use Prim.Native.Nat.{◌+◌, ◌-◌, ◌*◌}
use Rattle.block.specs.Log.{joined, bytes_of}
use Rattle.descent.proofs.InOrder.{Rest}
use Rattle.descent.proofs.Listed.{wholes}
use Rattle.copying.specs.Copy.{copy_entry}
use Rattle.copying.specs.Parts.{copy_listed}
use Rattle.copy_below.proofs.InOrder.{copy_pieces}
use Rattle.copy_below.proofs.+copy_below_copy_directory_copy_entry_copy_listed_copy_scores.Given as goal

abbrev pub decreases-copy_below : goal.decreases-copy_below
decreases-copy_below l = 4 * l.left + 3

abbrev pub decreases-copy_directory : goal.decreases-copy_directory
decreases-copy_directory l = 4 * l.left + 2

abbrev pub decreases-copy_entry : goal.decreases-copy_entry
decreases-copy_entry l = 4 * l.left

abbrev pub decreases-copy_listed : goal.decreases-copy_listed
decreases-copy_listed l = 4 * l.left + 1

abbrev pub decreases-copy_scores : goal.decreases-copy_scores
decreases-copy_scores l = 4 * l.left + 1

abbrev pub invariant-copy_directory-loop-i : goal.invariant-copy_directory-loop-i
invariant-copy_directory-loop-i l =
    let log = joined l.runs.end.0 l.runs.log.now l.runs.waiting.now in
    Rest (copy_pieces (λ f. copy_listed f log l.date l.nest) 40 (wholes (bytes_of log l.b)) l.left) l.count l.fn.second l.visits l.i l.second

abbrev pub invariant-copy_scores-loop-i : goal.invariant-copy_scores-loop-i
invariant-copy_scores-loop-i l =
    let log = joined l.runs.end.0 l.runs.log.now l.runs.waiting.now in
    Rest (copy_pieces (λ f x a s. copy_entry f log l.date l.e l.level l.nest x a s) 20 (bytes_of log l.b) l.left) l.count l.fn.second l.visits l.i l.second
