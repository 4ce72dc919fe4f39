use mathlib.Core.Path.{◌≡◌, sym, ap, subst, ◌∙◌}
use Prim.Native.Nat.{ℕ, ◌+◌, ◌-◌, ◌≤◌}
use native.Mathlib.Nat.{sub-zero}
use native.Mathlib.Omega.{arith}
use borrow.Author.Tests.{not-true, not-false}
use lib.ListN.{length, drop}
use Rattle.buffer.specs.Bytes.{same}
use Rattle.sector.specs.Sector.{payload_of}
use Rattle.block.specs.Block.{parts_of}
use Rattle.block.specs.Log.{joined, sectors, bytes_of}
use Rattle.block_bytes.proofs.Pieces.{piece-length, piece-here, piece-room, piece-next, piece-none, block_at}
use Rattle.block_bytes.proofs.Turns.{same_turn, same_stop, same_none}
use Rattle.block_bytes.proofs.same_bytes.Given as goal

-- `block_bytes::same_bytes` meets its contract: the pieces that are left agree with the rest exactly if the whole does.
abbrev pub invariant-loop-done : goal.invariant-loop-done
invariant-loop-done l =
    (l.done ≤ length l.data)
    × (l.n + parts_of (payload_of l.b.label) (length l.data - l.done) ≤ l.runs.end.0 + sectors (length l.runs.waiting.now))
    × (same (bytes_of (joined l.runs.end.0 l.runs.log.now l.runs.waiting.now) (block_at l.b.label l.n (length l.data - l.done))) (drop l.done l.data) ≡ same (bytes_of (joined l.runs.end.0 l.runs.log.now l.runs.waiting.now) l.b) l.data)

abbrev pub decreases-loop-done : goal.decreases-loop-done
decreases-loop-done l = length l.data - l.done
