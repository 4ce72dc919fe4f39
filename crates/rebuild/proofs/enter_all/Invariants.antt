use mathlib.Core.Path.{◌≡◌, refl, ◌∙◌}
use Prim.Native.Nat.{◌-◌, ◌≤◌}
use native.Mathlib.Omega.{arith}
use lib.ListN.{length}
use Rattle.bedrock.specs.Places.{found_from}
use Rattle.block.specs.Log.{sectors, sound}
use Rattle.sector_log.specs.LookUp.{blocks}
use Rattle.hint.specs.Rebuilt.{entered_all}
use Rattle.rebuild.proofs.Turns.{pass_starts, pass_on, pass_ends}
use Rattle.rebuild.proofs.enter_all.Given as goal

-- `rebuild::enter_all` meets its contract: what is left to be entered, entered, gives the whole.
abbrev pub invariant-loop-n : goal.invariant-loop-n
invariant-loop-n l =
    (l.count ≡ sectors (length l.log))
    × (length l.index ≡ length l.initial.index)
    × (entered_all l.index (found_from (sound l.log) (l.count - l.n) l.n) ≡ entered_all l.initial.index (blocks l.log))
