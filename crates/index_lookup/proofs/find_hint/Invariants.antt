use mathlib.Core.Path.{◌≡◌, ap, ◌∙◌}
use Prim.Native.Nat.{◌-◌, ◌≤◌}
use native.Mathlib.Omega.{arith}
use Rattle.block.specs.Log.{joined}
use Rattle.reader.specs.Reader.{placed}
use Rattle.hint.specs.Hint.{true_at, first_found, hint}
use Rattle.index_lookup.proofs.Turns.{found_here, found-next, found_nowhere, hint-starts}
use Rattle.index_lookup.proofs.find_hint.Given as goal

-- `index_lookup::find_hint` meets its contract: the first true entry among those that are left is the first of all.
abbrev pub invariant-loop-p : goal.invariant-loop-p
invariant-loop-p l =
    let both = joined l.runs.end.0 l.runs.log.now l.runs.waiting.now in
    first_found (true_at both l.index l.kind l.score) (l.to - l.p) l.p ≡ hint both l.index l.kind l.score
