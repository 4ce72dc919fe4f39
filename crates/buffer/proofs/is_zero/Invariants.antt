use mathlib.Core.Path.{◌≡◌}
use mathlib.Core.Bool.{◌&&◌}
use lib.Dec.{eqb}
use lib.ListN.{drop}
use Rattle.buffer.specs.Bytes.{zeros}
use Rattle.buffer.proofs.is_zero.Given as goal

abbrev pub invariant-loop-b : goal.invariant-loop-b
invariant-loop-b l = (eqb l.seen 0 && zeros (drop l.b-index l.s)) ≡ zeros l.s
