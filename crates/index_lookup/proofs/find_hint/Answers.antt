use mathlib.Core.Path.{◌≡◌, sym, ap, ◌∙◌}
use Prim.Native.Nat.{◌-◌, ◌≤◌}
use native.Mathlib.Omega.{arith}
use Rattle.block.specs.Log.{joined}
use Rattle.reader.specs.Reader.{placed}
use Rattle.hint.specs.Hint.{true_at, first_found, hint}
use Rattle.index_lookup.proofs.Turns.{found_here, found-next, found_nowhere, hint-starts}
use Rattle.index_lookup.proofs.find_hint.Goals as goal

pub loop-p-init : goal.loop-p-init
loop-p-init c =
    let a = c.args in
    let log = joined a.runs.end.0 a.runs.log.now a.runs.waiting.now in
    let b = c.bucket_of-b in
    hint-starts log a.index.now a.kind a.score.now b.result b.ensures.places

pub returns-in-Some : goal.returns-in-Some
returns-in-Some c = let args = c.args in
    let bucket-of = c.bucket_of-b in
    let if1 = c.loop-p-test in
    let turn = c.loop-p in
    let a = args in
    let log = joined a.runs.end.0 a.runs.log.now a.runs.waiting.now in
    let l = turn in
    let f = true_at log a.index.now a.kind a.score.now in
    sym c.in-Some.is ∙ found_here f l.p bucket-of.result.to if1.true _ c.true_at.ensures _ c.in-Some.is ∙ ap placed l.invariant

pub loop-p-preserved : goal.loop-p-preserved
loop-p-preserved c = let args = c.args in
    let bucket-of = c.bucket_of-b in
    let if1 = c.loop-p-test in
    let turn = c.loop-p in
    let a = args in
    let log = joined a.runs.end.0 a.runs.log.now a.runs.waiting.now in
    let l = turn in
    let f = true_at log a.index.now a.kind a.score.now in
    found-next f l.p bucket-of.result.to if1.true _ c.true_at.ensures c.in_default.is ∙ l.invariant

pub returns : goal.returns
returns c =
    let a = c.args in
    let log = joined a.runs.end.0 a.runs.log.now a.runs.waiting.now in
    let l = c.loop-p in
    let f = true_at log a.index.now a.kind a.score.now in
    found_nowhere f l.p c.bucket_of-b.result.to c.loop-p-test.false ∙ ap placed l.invariant
