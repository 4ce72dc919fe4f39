use mathlib.Core.Path.{◌≡◌, refl, sym, ap, ◌∙◌}
use Prim.Native.Nat.{ℕ, suc, ◌-◌, ◌/◌, ◌%◌, ◌^◌, ◌<◌}
use native.Mathlib.Omega.{arith}
use lib.ListN.{length}
use Rattle.buffer.proofs.Put.{put_whole}
use Rattle.block.specs.Block.{parts_of}
use Rattle.block.specs.Log.{joined}
use Rattle.block.proofs.Joined.{sectors-joined}
use Rattle.entry.specs.Entry.{pointers}
use Rattle.leaf.specs.Leaf.{under}
use Rattle.way_down.proofs.Digits.{digit_small}
use Rattle.way_down.proofs.Steps.{look_room, under-empty, found-room, next-score, leaf_looked_up, level-refused, level-ragged, level-next}
use Rattle.way_down.proofs.descend.Given as goal

-- `way_down::descend` meets its contract: the run under the score reached, at its level, is the run under the top score, for every offset of the leaf.
abbrev pub invariant-loop-level : goal.invariant-loop-level
invariant-loop-level l =
    (l.level < 8) × (length l.score ≡ 20)
    × ((page o : ℕ) → o / l.e.dsize ≡ l.offset / l.e.dsize → under (joined l.runs.end.0 l.runs.log.now l.runs.waiting.now) page l.e o l.level l.score ≡ under (joined l.runs.end.0 l.runs.log.now l.runs.waiting.now) page l.e o l.e.depth l.top)

abbrev pub decreases-loop-level : goal.decreases-loop-level
decreases-loop-level l = l.level
