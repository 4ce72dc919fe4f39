use mathlib.Core.Path.{◌≡◌, refl}
use Prim.Native.Nat.{◌-◌, ◌≤◌}
use native.Mathlib.Omega.{arith}
use lib.ListN.{length}
use Rattle.buffer.specs.Bytes.{Bytes, put}
use Rattle.sector.specs.Sector.{front_of}
use Rattle.block.specs.Block.{images}
use Rattle.append.specs.Append.{row_of}
use Rattle.append.proofs.Images.{sectors-more}
use Rattle.append.proofs.write_parts.Given as goal

-- `write_parts` meets its contract. The loop's invariant: the first k sectors are written, and nothing else.
abbrev pub invariant-loop-k : goal.invariant-loop-k
invariant-loop-k l =
    (length l.part ≡ length l.initial.part) × ((date : Bytes) → front_of date ≡ l.front → l.part ≡ put l.initial.part 0 (images (row_of l.kind l.score l.data l.first.0 date) l.k 0))
