use mathlib.Core.Path.{◌≡◌}
use Prim.Native.Nat.{◌<◌, ◌^◌}
use lib.ListN.{drop}
use Rattle.digits.specs.Number.{value_from}
use Rattle.digits.proofs.be_number.Given as goal

-- `digits::be_number` meets its contract: after the number so far, the bytes that are left make the whole. Assumes nothing.
abbrev pub invariant-loop-b : goal.invariant-loop-b
invariant-loop-b l = (l.n < 256 ^ l.b-index) × (value_from 256 l.n (drop l.b-index l.s) ≡ value_from 256 0 l.s)
