use Prim.Native.Nat.{◌-◌}
use native.Mathlib.Omega.{arith}
use Rattle.writer.proofs.Depth.{Seeking, seeking_start, seeking_found, seeking_next, seeking_none, room_fits}
use Rattle.depth.proofs.least_depth.Given as goal

abbrev pub invariant-loop-d : goal.invariant-loop-d
invariant-loop-d l = Seeking l.n l.dsize l.p l.room l.d
