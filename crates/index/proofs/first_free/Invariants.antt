use mathlib.Core.Path.{◌≡◌}
use Prim.Native.Nat.{◌-◌}
use Rattle.index.specs.Index.{first_free}
use Rattle.index.proofs.first_free.Given as goal

-- `index::first_free` meets its contract: the first free place of those that are left is the first of all.
abbrev pub invariant-loop-p : goal.invariant-loop-p
invariant-loop-p l = first_free l.index (l.to - l.p) l.p ≡ first_free l.index (l.to - l.from) l.from
