use mathlib.Core.Path.{◌≡◌, refl, sym, ap, ◌∙◌}
use mathlib.Core.Bool.{true, false}
use Prim.Native.Nat.{ℕ, ◌+◌, ◌-◌, ◌≤◌}
use native.Mathlib.Omega.{arith}
use borrow.Author.Tests.{not-true, not-false}
use lib.ListN.{length}
use Rattle.buffer.specs.Bytes.{Bytes}
use Rattle.sector.specs.Sector.{front_of}
use Rattle.block.specs.Log.{joined, labelled}
use Rattle.block.proofs.At.{length_at}
use Rattle.block_tests.proofs.Rest.{size_bound}
use Rattle.block_tests.proofs.Turns.{all_turn, all-stop, all_end, label_test, label-tested}
use Rattle.block_tests.proofs.labels_agree.Given as goal

-- `block_tests::labels_agree` meets its contract: the test of the parts that are left is that of all.
abbrev pub invariant-loop-i : goal.invariant-loop-i
invariant-loop-i l =
    (date : Bytes) → front_of date ≡ l.front → labelled (joined l.runs.end.0 l.runs.log.now l.runs.waiting.now) date l.of l.b.first.0 l.kind l.b.size l.score (l.of - l.i) l.i
    ≡ labelled (joined l.runs.end.0 l.runs.log.now l.runs.waiting.now) date l.of l.b.first.0 l.kind l.b.size l.score l.of 0
