use mathlib.Core.Path.{◌≡◌}
use Prim.Native.Nat.{◌-◌, ◌*◌}
use lib.ListN.{length, drop}
use Rattle.block.specs.Block.{parts_of}
use Rattle.sector_log.specs.Parts.{beside}
use Rattle.write.proofs.Level.{Going}
use Rattle.write.proofs.write_level.Given as goal

-- `write::write_level` meets its contract: the pointer blocks of a level one after the other.
abbrev pub invariant-loop-i : goal.invariant-loop-i
invariant-loop-i l = Going l.kind l.width l.initial.scores l.date (beside l.log l.initial.waiting) (parts_of l.width (length l.initial.scores)) (beside l.log l.waiting) l.scores l.i
    × (length l.scores ≡ length l.initial.scores) × (length l.waiting ≡ length l.initial.waiting) × (drop (20 * l.i) l.scores ≡ drop (20 * l.i) l.initial.scores)
