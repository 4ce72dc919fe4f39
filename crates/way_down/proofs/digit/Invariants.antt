use mathlib.Core.Path.{◌≡◌}
use Prim.Native.Nat.{◌-◌, ◌/◌, ◌^◌}
use Rattle.way_down.proofs.digit.Given as goal

-- `way_down::digit` meets its contract: what is left of the number, over what is left of the power, is the same all the way.
abbrev pub invariant-loop : goal.invariant-loop
invariant-loop l = l.rest / l.p ^ (l.d - l.counter) ≡ l.n / l.p ^ l.d
