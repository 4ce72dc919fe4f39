use mathlib.Core.Path.{◌≡◌, refl, sym, ap, ◌∙◌}
use Prim.Native.Nat.{ℕ, ◌+◌, ◌-◌, ◌≤◌}
use native.Mathlib.Omega.{arith}
use lib.ListN.{length}
use borrow.Author.Tests.{not-true, not-false}
use Rattle.bedrock.specs.Places.{found_from}
use Rattle.block.specs.Log.{sectors, joined, sound}
use Rattle.block.proofs.Joined.{sectors-joined}
use Rattle.known.specs.Known.{all_lead, exactly}
use Rattle.exact_index.proofs.Turns.{pass_starts, pass_on, pass_fails, pass_ends}
use Rattle.exact_index.proofs.is_exact.Given as goal

-- `exact_index::is_exact` meets its contract: whether the index leads to the blocks that are left is whether it leads to all.
abbrev pub invariant-loop-n : goal.invariant-loop-n
invariant-loop-n l =
    let both = joined l.runs.end.0 l.runs.log.now l.runs.waiting.now in
    (l.count ≡ l.runs.end.0 + sectors (length l.runs.waiting.now)) × (all_lead both l.index (found_from (sound both) (l.count - l.n) l.n) ≡ exactly both l.index)
