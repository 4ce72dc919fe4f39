use Prim.Native.Nat.{◌+◌, ◌-◌, ◌≤◌, ◌<◌}
use native.Mathlib.Nat.{sub-zero}
use native.Mathlib.Omega.{arith}
use lib.ListN.{length}
use Rattle.sector.specs.Sector.{payload_of}
use Rattle.block.specs.Block.{parts_of}
use Rattle.block.specs.Log.{joined, sectors, bytes_of}
use Rattle.block_bytes.proofs.Pieces.{piece-length, piece-here, piece-room, piece-next, piece-none, block_at}
use Rattle.block_bytes.proofs.Turns.{Taken, taken_none, taken_more, taken-all}
use Rattle.block_bytes.proofs.digest.Given as goal

-- `block_bytes::digest` meets its contract: the stream has taken in the whole but for the pieces that are left.
abbrev pub invariant-loop-done : goal.invariant-loop-done
invariant-loop-done l =
    (l.done ≤ l.b.size)
    × (l.n + parts_of (payload_of l.b.label) (l.b.size - l.done) ≤ l.runs.end.0 + sectors (length l.runs.waiting.now))
    × Taken l.s (bytes_of (joined l.runs.end.0 l.runs.log.now l.runs.waiting.now) (block_at l.b.label l.n (l.b.size - l.done))) (bytes_of (joined l.runs.end.0 l.runs.log.now l.runs.waiting.now) l.b)

abbrev pub decreases-loop-done : goal.decreases-loop-done
decreases-loop-done l = l.b.size - l.done
