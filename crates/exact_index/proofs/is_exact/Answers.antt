use mathlib.Core.Path.{◌≡◌, refl, sym, ap, ◌∙◌}
use Prim.Native.Nat.{ℕ, ◌+◌, ◌-◌, ◌≤◌}
use native.Mathlib.Omega.{arith}
use lib.ListN.{length}
use borrow.Author.Tests.{not-true, not-false}
use Rattle.bedrock.specs.Places.{found_from}
use Rattle.block.specs.Log.{sectors, joined, sound}
use Rattle.block.proofs.Joined.{sectors-joined}
use Rattle.known.specs.Known.{all_lead, exactly}
use Rattle.exact_index.proofs.Turns.{pass_starts, pass_on, pass_fails, pass_ends}
use Rattle.exact_index.proofs.is_exact.Goals as goal

pub loop-n-init : goal.loop-n-init
loop-n-init c =
    let a = c.args in
    let both = joined a.runs.end.0 a.runs.log.now a.runs.waiting.now in
    let e = sectors-joined a.runs.end.0 a.runs.log.now a.runs.waiting.now c.requires in
    (refl, ap (λ (m : ℕ). all_lead both a.index.now (found_from (sound both) (m - 0) 0)) (sym e) ∙ pass_starts both a.index.now)

pub returns-then-not-leads_at : goal.returns-then-not-leads_at
returns-then-not-leads_at c = let args = c.args in
    let l = c.loop-n in
    let a = args in
    let both = joined a.runs.end.0 a.runs.log.now a.runs.waiting.now in
    pass_fails both a.index.now l.n _ c.loop-n-test.true _ c.leads_at.ensures l.invariant.1 c.if-not-leads_at.true

pub loop-n-preserved : goal.loop-n-preserved
loop-n-preserved c = let args = c.args in
    let l = c.loop-n in
    let loop-test = c.loop-n-test in
    let a = args in
    let both = joined a.runs.end.0 a.runs.log.now a.runs.waiting.now in (
      l.invariant.0,
      pass_on both a.index.now l.n _ loop-test.true _ c.leads_at.ensures l.invariant.1 c.if-not-leads_at.false,
    )

pub returns : goal.returns
returns c =
    let a = c.args in
    let both = joined a.runs.end.0 a.runs.log.now a.runs.waiting.now in
    pass_ends both a.index.now c.loop-n.n _ c.loop-n-test.false c.loop-n.invariant.1
