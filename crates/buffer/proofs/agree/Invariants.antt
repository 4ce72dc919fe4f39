use mathlib.Core.Path.{◌≡◌}
use mathlib.Core.Bool.{◌&&◌}
use lib.Dec.{eqb}
use lib.ListN.{drop}
use Rattle.buffer.specs.Bytes.{same}
use Rattle.buffer.proofs.agree.Given as goal

-- `buffer::agree` meets its contract.
abbrev pub invariant-loop-i : goal.invariant-loop-i
invariant-loop-i l = (eqb l.differ 0 && same (drop l.i l.a) (drop l.i l.b)) ≡ same l.a l.b
