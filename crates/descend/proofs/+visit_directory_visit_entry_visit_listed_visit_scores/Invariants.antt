-- What falls with each call, three times what is left of the allowance and the place in the order of the calls that spend nothing (directory, listed or
-- scores, entry), and where the two loops stand.
use Prim.Native.Nat.{◌+◌, ◌-◌, ◌*◌}
use Rattle.block.specs.Log.{joined, bytes_of}
use Rattle.descent.specs.Descent.{visit_entry}
use Rattle.descent.specs.Parts.{visit_listed}
use Rattle.descent.proofs.InOrder.{Rest, walk_pieces}
use Rattle.descent.proofs.Listed.{wholes}
use Rattle.descend.proofs.+visit_directory_visit_entry_visit_listed_visit_scores.Given as goal

abbrev pub decreases-visit_directory : goal.decreases-visit_directory
decreases-visit_directory l = 3 * l.left + 2

abbrev pub decreases-visit_entry : goal.decreases-visit_entry
decreases-visit_entry l = 3 * l.left

abbrev pub decreases-visit_listed : goal.decreases-visit_listed
decreases-visit_listed l = 3 * l.left + 1

abbrev pub decreases-visit_scores : goal.decreases-visit_scores
decreases-visit_scores l = 3 * l.left + 1

abbrev pub invariant-visit_directory-loop-i : goal.invariant-visit_directory-loop-i
invariant-visit_directory-loop-i l =
    let log = joined l.runs.end.0 l.runs.log.now l.runs.waiting.now in
    Rest (walk_pieces (λ f. visit_listed f log l.nest) 40 (wholes (bytes_of log l.b)) l.left) l.count tt l.visits l.i tt

abbrev pub invariant-visit_scores-loop-i : goal.invariant-visit_scores-loop-i
invariant-visit_scores-loop-i l =
    let log = joined l.runs.end.0 l.runs.log.now l.runs.waiting.now in
    Rest (walk_pieces (λ f x a. visit_entry f log l.e l.level l.nest x a) 20 (bytes_of log l.b) l.left) l.count tt l.visits l.i tt
