use mathlib.Core.Path.{◌≡◌}
use Prim.Native.Nat.{◌-◌}
use lib.ListN.{length}
use Rattle.block.specs.Block.{parts_of}
use Rattle.sector_log.specs.Parts.{beside}
use Rattle.write.proofs.Level.{Going}
use Rattle.write.proofs.write_leaves.Given as goal

-- `write::write_leaves` meets its contract: the leaves one after the other.
abbrev pub invariant-loop-i : goal.invariant-loop-i
invariant-loop-i l = Going 13 l.dsize l.slice l.date (beside l.log l.initial.waiting) (parts_of l.dsize (length l.slice)) (beside l.log l.waiting) l.scores l.i
    × (length l.scores ≡ length l.initial.scores) × (length l.waiting ≡ length l.initial.waiting)
