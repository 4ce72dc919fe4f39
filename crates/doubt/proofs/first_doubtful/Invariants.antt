use mathlib.Core.Path.{refl, ◌∙◌}
use Prim.Native.Nat.{◌-◌}
use native.Mathlib.Omega.{arith}
use Rattle.block.specs.Log.{joined, used}
use Rattle.block.proofs.Used.{used_le_sectors}
use Rattle.block.proofs.Joined.{sectors-joined}
use Rattle.sector_log.specs.LookUp.{outside}
use Rattle.sector_log.proofs.Doubt.{walked-zero}
use Rattle.reader.proofs.Placed.{block-bounds}
use Rattle.doubt.proofs.Walk.{Passed, walk_stops, walk-on, walk_ends}
use Rattle.doubt.proofs.first_doubtful.Given as goal

-- `doubt::first_doubtful` meets its contract: no sector before n is doubtful.
abbrev pub invariant-loop-n : goal.invariant-loop-n
invariant-loop-n l =
    Passed (joined l.runs.end.0 l.runs.log.now l.runs.waiting.now) l.n

abbrev pub decreases-loop-n : goal.decreases-loop-n
decreases-loop-n l =
    used (joined l.runs.end.0 l.runs.log.now l.runs.waiting.now) - l.n
