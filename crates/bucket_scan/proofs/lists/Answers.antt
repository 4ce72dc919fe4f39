use mathlib.Core.Path.{◌≡◌}
use mathlib.Core.Logic.{⊎_elim}
use Prim.Native.Nat.{◌-◌, ◌≤◌}
use native.Mathlib.Omega.{arith}
use Rattle.known.specs.Known.{listed_from, listed}
use Rattle.bucket_scan.proofs.Listed.{list_starts, list_here, list_unnamed, list_elsewhere, list_ends}
use Rattle.bucket_scan.proofs.lists.Goals.{else-names, then-names+else-sector_at-first}
use Rattle.bucket_scan.proofs.lists.Goals as goal

pub loop-p-init : goal.loop-p-init
loop-p-init c =
    let a = c.args in
    list_starts a.index.now a.score.now a.kind a.first.0 c.bucket_of-b.result c.bucket_of-b.ensures.places

pub returns-then-sector_at-first : goal.returns-then-sector_at-first
returns-then-sector_at-first c = let args = c.args in
    let bucket-of = c.bucket_of-b in
    let if1 = c.loop-p-test in
    let if2 = c.if-names in
    let l = c.loop-p in
    let names = c.names in
    let sector-at = c.sector_at in
    let a = args in
    list_here a.index.now a.score.now a.kind a.first.0 l.p bucket-of.result.to if1.true l.invariant _ names.ensures _ if2.true sector-at.ensures c.if-sector_at-first.true

pub loop-p-preserved : goal.loop-p-preserved
loop-p-preserved c = let args = c.args in
    let bucket-of = c.bucket_of-b in
    let if1 = c.loop-p-test in
    let l = c.loop-p in
    let names = c.names in
    let a = args in
    elim c.if-names.branch [
      | then-names+else-sector_at-first w ↦ list_elsewhere a.index.now a.score.now a.kind a.first.0 l.p bucket-of.result.to if1.true l.invariant _ names.ensures _ w.if-names.true w.sector_at.ensures
          w.if-sector_at-first.false
      | else-names w ↦ list_unnamed a.index.now a.score.now a.kind a.first.0 l.p bucket-of.result.to if1.true l.invariant _ names.ensures w.if-names.false
    ]

pub returns : goal.returns
returns c =
    let a = c.args in
    list_ends a.index.now a.score.now a.kind a.first.0 c.loop-p.p c.bucket_of-b.result.to c.loop-p-test.false c.loop-p.invariant
