use mathlib.Core.Path.{◌≡◌}
use Prim.Native.Nat.{◌+◌}
use lib.ListN.{length, drop}
use Rattle.card.specs.Card.{up_to}
use Rattle.card.proofs.byte_from.Given as goal

-- `card::byte_from` meets its contract: what is left up to the first such byte ends where the whole does.
abbrev pub invariant-loop-i : goal.invariant-loop-i
invariant-loop-i l = l.i + length (up_to l.byte (drop l.i l.s)) ≡ l.at + length (up_to l.byte (drop l.at l.s))
