use mathlib.Core.Path.{◌≡◌}
use Prim.Native.Nat.{◌<◌, ◌^◌}
use lib.ListN.{drop}
use Rattle.hexadecimal.specs.Hex.{read_from}
use Rattle.hexadecimal.proofs.read_hex.Given as goal

-- `hexadecimal::read_hex` meets its contract: after the number so far, the digits that are left read as the whole. Assumes nothing.
abbrev pub invariant-loop-b : goal.invariant-loop-b
invariant-loop-b l = (l.n < 16 ^ l.b-index) × (read_from l.n (drop l.b-index l.s) ≡ read_from 0 l.s)
