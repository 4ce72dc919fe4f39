use mathlib.Core.Path.{◌≡◌}
use Prim.Native.Nat.{◌-◌, ◌≤◌}
use lib.ListN.{length, take, drop}
use Rattle.card.specs.Card.{well_formed}
use Rattle.card.proofs.Lines.{lawful_from}
use Rattle.card.proofs.is_card.Given as goal

-- `card::is_card` meets its contract: what is left is lawful behind the last name just if the whole is a card.
abbrev pub invariant-loop-at : goal.invariant-loop-at
invariant-loop-at l = (l.at ≤ length l.s) × (l.from ≤ l.to) × (l.to ≤ length l.s) × (lawful_from (take (l.to - l.from) (drop l.from l.s)) (drop l.at l.s) ≡ well_formed l.s)

abbrev pub decreases-loop-at : goal.decreases-loop-at
decreases-loop-at l = length l.s - l.at
