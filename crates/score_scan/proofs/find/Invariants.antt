use mathlib.Core.Path.{◌≡◌, ap, ◌∙◌}
use mathlib.Core.Logic.{⊎_elim}
use Prim.Native.Nat.{ℕ, ◌-◌, ◌≤◌}
use native.Mathlib.Nat.{sub-zero}
use native.Mathlib.Omega.{arith}
use lib.ListN.{length}
use Rattle.bedrock.specs.Places.{found_from}
use Rattle.hexadecimal.specs.Hex.{hex_bytes}
use Rattle.block.specs.Log.{sectors, joined, sound}
use Rattle.block.proofs.At.{length_at}
use Rattle.block.proofs.Joined.{sectors-joined}
use Rattle.sector_log.specs.LookUp.{blocks, first_of}
use Rattle.reader.proofs.Placed.{placed-none}
use Rattle.score_scan.proofs.Scan.{other_digits, find_more, find_found, find_nowhere}
use Rattle.score_scan.proofs.find.Given as goal

-- `score_scan::find` meets its contract: the first block among the sectors that are left is the first of all.
abbrev pub invariant-loop-n : goal.invariant-loop-n
invariant-loop-n l =
    let both = joined l.runs.end.0 l.runs.log.now l.runs.waiting.now in
    (l.count ≡ sectors (length both))
    × (l.digits ≡ hex_bytes l.score)
    × (first_of l.kind l.score (found_from (sound both) (sectors (length both) - l.n) l.n) ≡ first_of l.kind l.score (blocks both))
