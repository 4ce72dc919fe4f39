use mathlib.Core.Path.{◌≡◌}
use mathlib.Core.List.{◌++◌}
use lib.ListN.{length, drop}
use Rattle.digits.specs.Number.{digits}
use Rattle.digits.proofs.put_be.Given as goal

-- `digits::put_be` meets its contract: the bytes of what is left of n, before those written, are those of n. Assumes nothing.
abbrev pub invariant-loop-i : goal.invariant-loop-i
invariant-loop-i l = digits 256 l.i l.rest ++ drop l.i l.d ≡ digits 256 (length l.initial.d) l.n
