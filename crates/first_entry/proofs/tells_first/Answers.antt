use mathlib.Core.Path.{◌≡◌}
use Prim.Native.Nat.{◌-◌, ◌≤◌}
use native.Mathlib.Omega.{arith}
use Rattle.hint.specs.Tells.{tells_from, tells}
use Rattle.hint.proofs.Tells.{tell-starts, tell-here, tell-next, tell_ends}
use Rattle.first_entry.proofs.tells_first.Goals as goal

pub loop-p-init : goal.loop-p-init
loop-p-init c =
    let a = c.args in
    tell-starts a.index.now a.kind a.score.now a.n.0 c.bucket_of-b.result c.bucket_of-b.ensures.places

pub returns-then-names : goal.returns-then-names
returns-then-names c =
    let a = c.args in
    tell-here a.index.now a.kind a.score.now a.n.0 c.loop-p.p c.bucket_of-b.result.to c.loop-p-test.true c.loop-p.invariant _
    c.names.ensures _ c.if-names.true c.sector_at-first.ensures

pub loop-p-preserved : goal.loop-p-preserved
loop-p-preserved c = let args = c.args in
    let a = args in
    tell-next a.index.now a.kind a.score.now a.n.0 c.loop-p.p c.bucket_of-b.result.to c.loop-p-test.true
    c.loop-p.invariant _ c.names.ensures c.if-names.false

pub returns : goal.returns
returns c =
    let a = c.args in
    tell_ends a.index.now a.kind a.score.now a.n.0 c.loop-p.p c.bucket_of-b.result.to c.loop-p-test.false c.loop-p.invariant
