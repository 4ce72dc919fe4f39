use mathlib.Core.Path.{◌≡◌}
use Prim.Native.Nat.{◌-◌, ◌≤◌}
use native.Mathlib.Omega.{arith}
use Rattle.hint.specs.Tells.{tells_from, tells}
use Rattle.hint.proofs.Tells.{tell-starts, tell-here, tell-next, tell_ends}
use Rattle.first_entry.proofs.tells_first.Given as goal

-- `first_entry::tells_first` meets its contract: what the first of the entries that are left tells is what the first of all tells.
abbrev pub invariant-loop-p : goal.invariant-loop-p
invariant-loop-p l = tells_from l.index l.kind l.score l.n.0 (l.to - l.p) l.p ≡ tells l.index l.kind l.score l.n.0
