use mathlib.Core.Path.{◌≡◌, refl, sym, ◌∙◌}
use Prim.Native.Nat.{ℕ, ◌-◌, ◌≤◌}
use native.Mathlib.Omega.{arith}
use borrow.Author.Tests.{eq-eqb}
use Rattle.hint.specs.Tells.{tells_from, tells}
use Rattle.hint.proofs.Tells.{tell-starts, tell-here, tell-next, tell_ends}
use Rattle.settled_lookup.proofs.Settled.{nowhere_settled, told-settled, scanned_settled}
use Rattle.settled_lookup.proofs.find_settled.Given as goal

-- `settled_lookup::find_settled` meets its contract: what the first of the entries that are left tells is what the first of all tells.
abbrev pub invariant-loop-p : goal.invariant-loop-p
invariant-loop-p l = (n : ℕ) → tells_from l.index l.kind l.score n (l.to - l.p) l.p ≡ tells l.index l.kind l.score n
