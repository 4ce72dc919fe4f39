use Prim.Native.Nat.{◌*◌, ◌-◌, ◌^◌, ◌≤◌}
use mathlib.Core.Path.{◌≡◌}
use native.Mathlib.Omega.{arith}
use Rattle.entry.proofs.Room.{room-start, room_next, room_within, room_passed, room-end}
use Rattle.entry.proofs.holds.Given as goal

-- `entry::holds` meets its contract: the product is dsize times p to the power of the levels passed.
abbrev pub invariant-loop-level : goal.invariant-loop-level
invariant-loop-level l = l.product ≡ l.dsize * l.p ^ l._level
