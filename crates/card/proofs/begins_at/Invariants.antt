use mathlib.Core.Path.{◌≡◌}
use lib.ListN.{drop}
use Rattle.buffer.specs.Bytes.{same}
use Rattle.card.specs.Card.{begins}
use Rattle.card.proofs.begins_at.Given as goal

-- `card::begins_at` meets its contract: what is left of both is the same where p stands there.
abbrev pub invariant-loop-i : goal.invariant-loop-i
invariant-loop-i l = same (drop l.i l.part) (drop l.i l.p) ≡ begins (drop l.at l.s) l.p
