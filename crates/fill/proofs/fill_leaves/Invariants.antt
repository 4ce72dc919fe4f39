use Prim.Native.Nat.{◌-◌}
use Rattle.block.specs.Log.{joined}
use Rattle.fill.specs.Fill.{byte_below}
use Rattle.fill.proofs.Turn.{Filling}
use Rattle.fill.proofs.fill_leaves.Given as goal

-- `fill::fill_leaves` meets its contract: what is left, with the buffer as it is, makes what the whole makes.
abbrev pub invariant-loop-done : goal.invariant-loop-done
invariant-loop-done l = Filling (byte_below (joined l.runs.end.0 l.runs.log.now l.runs.waiting.now) l.e l.top) l.count l.offset l.initial.d l.d l.done

abbrev pub decreases-loop-done : goal.decreases-loop-done
decreases-loop-done l = l.count - l.done
