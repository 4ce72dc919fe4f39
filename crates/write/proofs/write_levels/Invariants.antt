use mathlib.Core.Path.{◌≡◌, refl, ap, ◌∙◌}
use Prim.Native.Nat.{ℕ, ◌-◌, ◌*◌, ◌%◌, ◌≤◌}
use native.Mathlib.Omega.{arith}
use lib.ListN.{length, length-take}
use lib.Seq.{length-take-le}
use Rattle.block.specs.Block.{parts_of}
use Rattle.sector_log.specs.Parts.{beside}
use Rattle.writer.specs.Blocks.{scores_at, pointer_blocks, top_of}
use Rattle.writer.specs.WriteFile.{store_all}
use Rattle.writer.proofs.Levels.{pointer_type_lem, fewer_scores, Climbing, climbing_start, climbing_end, climbing_stopped, climbing_next}
use Rattle.write.proofs.write_levels.Given as goal

abbrev pub invariant-loop-k : goal.invariant-loop-k
invariant-loop-k l = Climbing l.width l.initial.scores l.date (beside l.log l.initial.waiting) (beside l.log l.waiting) l.scores l.n l.k
    × (length l.scores ≡ length l.initial.scores) × (length l.waiting ≡ length l.initial.waiting)
