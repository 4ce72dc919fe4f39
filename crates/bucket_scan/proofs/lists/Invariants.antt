use mathlib.Core.Path.{◌≡◌}
use mathlib.Core.Logic.{⊎_elim}
use Prim.Native.Nat.{◌-◌, ◌≤◌}
use native.Mathlib.Omega.{arith}
use Rattle.known.specs.Known.{listed_from, listed}
use Rattle.bucket_scan.proofs.Listed.{list_starts, list_here, list_unnamed, list_elsewhere, list_ends}
use Rattle.bucket_scan.proofs.lists.Given as goal

-- `bucket_scan::lists` meets its contract: whether one of the places that are left has the entry is whether one of all has.
abbrev pub invariant-loop-p : goal.invariant-loop-p
invariant-loop-p l =
    listed_from l.index l.score l.kind l.first.0 (l.to - l.p) l.p ≡ listed l.index l.score l.kind l.first.0
