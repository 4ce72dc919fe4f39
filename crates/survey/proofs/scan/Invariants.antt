use mathlib.Core.Path.{◌∙◌}
use Prim.Native.Nat.{◌-◌}
use native.Mathlib.Omega.{arith}
use Rattle.block.specs.Log.{used}
use Rattle.block.proofs.Used.{used_le_sectors}
use Rattle.reader.proofs.Alone.{placed-alone}
use Rattle.lookup.proofs.Outcomes.{block-bounds}
use Rattle.survey.proofs.Counted.{Counted, counted-zero, counted_none, counted-some, counted-end, parts-some}
use Rattle.survey.proofs.scan.Given as goal

-- `survey::scan` meets its contract: what the walk counted up to a sector is what the definitions count there.
abbrev pub invariant-loop-n : goal.invariant-loop-n
invariant-loop-n l =
    Counted l.log l.n l.records l.doubtful

abbrev pub decreases-loop-n : goal.decreases-loop-n
decreases-loop-n l =
    used l.log - l.n
