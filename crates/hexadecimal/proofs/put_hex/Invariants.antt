use mathlib.Core.Path.{◌≡◌}
use mathlib.Core.List.{◌++◌}
use lib.ListN.{length, drop}
use Rattle.hexadecimal.specs.Hex.{hex}
use Rattle.hexadecimal.proofs.put_hex.Given as goal

-- `hexadecimal::put_hex` meets its contract: the digits of what is left of n, before those written, are those of n. Assumes nothing.
abbrev pub invariant-loop-i : goal.invariant-loop-i
invariant-loop-i l = hex l.i l.rest ++ drop l.i l.d ≡ hex (length l.initial.d) l.n
