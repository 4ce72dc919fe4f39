use mathlib.Core.Path.{◌≡◌}
use Prim.Native.Nat.{◌-◌, ◌≤◌}
use lib.ListN.{length}
use Rattle.block.specs.Log.{joined, bytes_of}
use Rattle.tree.proofs.Pieces.{Left}
use Rattle.tree.proofs.read_part.Given as goal

-- `tree::read_part` meets its contract: filling in what is left makes what filling in the whole makes.
abbrev pub invariant-loop-done : goal.invariant-loop-done
invariant-loop-done l =
    (l.done ≤ length l.d) × (length l.d ≡ length l.initial.d) × Left (bytes_of (joined l.runs.end.0 l.runs.log.now l.runs.waiting.now) l.b) l.from l.initial.d l.d l.done

abbrev pub decreases-loop-done : goal.decreases-loop-done
decreases-loop-done l = length l.initial.d - l.done
