use Rattle.difference.proofs.Rest.{Rest}
use Rattle.difference.proofs.locate.Given as goal

-- `difference::locate` meets its contract: the tests, then position by position.
abbrev pub invariant-loop-i : goal.invariant-loop-i
invariant-loop-i l = Rest l.a l.b l.count l.i
