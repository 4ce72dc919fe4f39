use mathlib.Core.Path.{◌≡◌, ◌∙◌}
use mathlib.Core.List.{List, ◌++◌, append-nil}
use Prim.Native.Nat.{ℕ, ◌≤◌, ◌<◌, ◌-◌, ◌+◌, ◌%◌}
use native.Mathlib.Omega.{arith}
use lib.Arith.{lt_of_le-ne}
use lib.ListN.{length, take}
use Rattle.buffer.proofs.Parts.{part_size}
use Rattle.sha1_digest.specs.Stream.{Fed}
use Rattle.sha1_digest.proofs.Feed.{taken, copied, block, held, leap}
use Rattle.sha1_digest.proofs.absorb.Given as goal

-- `sha1::absorb` meets its contract. The loop's invariant: what the stream had taken in, and the first i bytes of `more`, are fed. Assumes nothing.
abbrev pub invariant-loop-i : goal.invariant-loop-i
invariant-loop-i l = (length l.buf ≡ 64) × (l.n < 64) × (l.i ≤ length l.more) × ((m : List ℕ) → Fed l.s.h l.s.buf (l.s.len % 64) m → Fed l.h l.buf l.n (m ++ take l.i l.more))

abbrev pub decreases-loop-i : goal.decreases-loop-i
decreases-loop-i l = length l.more - l.i
