use Prim.Native.Nat.{◌-◌}
use mathlib.Core.Path.{refl}
use native.Mathlib.Omega.{arith}
use native.Mathlib.Nat.{mod-one}
use lib.ListN.{length}
use Rattle.cut.specs.Cut.{zero_byte}
use Rattle.cut.proofs.Turns.{Cutting, cutting, cut_again, cut_stop, cut_all, byte-zero, byte_other}
use Rattle.cut.proofs.cut_bytes.Given as goal

-- `cut::cut_bytes` meets its contract: the loop at the unit of one zero byte.
abbrev pub invariant-loop-n : goal.invariant-loop-n
invariant-loop-n l = Cutting zero_byte l.b l.n

abbrev pub decreases-loop-n : goal.decreases-loop-n
decreases-loop-n l = l.n
