use mathlib.Core.Path.{◌≡◌}
use Prim.Native.Nat.{◌-◌, ◌≤◌}
use lib.ListN.{length, drop}
use Rattle.card.specs.Card.{value_in}
use Rattle.card.proofs.value_in.Given as goal

-- `card::value_in` meets its contract: what is left says what the whole says.
abbrev pub invariant-loop-at : goal.invariant-loop-at
invariant-loop-at l = (l.at ≤ length l.card) × (value_in (drop l.at l.card) l.name ≡ value_in l.card l.name)

abbrev pub decreases-loop-at : goal.decreases-loop-at
decreases-loop-at l = length l.card - l.at
