use mathlib.Core.Path.{◌≡◌, refl, ap, sym, ◌∙◌}
use Prim.Native.Nat.{◌+◌, ◌-◌, ◌≤◌}
use native.Mathlib.Nat.{sub-zero}
use native.Mathlib.Omega.{arith}
use lib.ListN.{length}
use Rattle.buffer.specs.Bytes.{put}
use Rattle.buffer.proofs.Put.{length-put, put-none}
use Rattle.sector.specs.Sector.{payload_of}
use Rattle.block.specs.Block.{parts_of}
use Rattle.block.specs.Log.{joined, sectors, bytes_of}
use Rattle.block_bytes.proofs.Pieces.{length-bytes, piece-length, piece-here, piece-room, piece-next, piece-none, block_at}
use Rattle.block_bytes.proofs.Turns.{put-piece}
use Rattle.block_bytes.proofs.copy_out.Given as goal

-- `block_bytes::copy_out` meets its contract: writing the pieces that are left makes what writing the whole makes.
abbrev pub invariant-loop-done : goal.invariant-loop-done
invariant-loop-done l =
    (l.done ≤ l.b.size)
    × (l.n + parts_of (payload_of l.b.label) (l.b.size - l.done) ≤ l.runs.end.0 + sectors (length l.runs.waiting.now))
    × (length l.d ≡ length l.initial.d)
    × (put l.d l.done (bytes_of (joined l.runs.end.0 l.runs.log.now l.runs.waiting.now) (block_at l.b.label l.n (l.b.size - l.done))) ≡ put l.initial.d 0 (bytes_of (joined l.runs.end.0 l.runs.log.now l.runs.waiting.now) l.b))

abbrev pub decreases-loop-done : goal.decreases-loop-done
decreases-loop-done l = l.b.size - l.done
