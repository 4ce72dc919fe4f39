use native.Mathlib.Omega.{arith}
use borrow.Author.Tests.{not-true, not-false}
use Rattle.block.specs.Log.{joined}
use Rattle.block.proofs.Joined.{sectors-joined}
use Rattle.index_lookup.proofs.Turns.{not_named, past_end, checked-there}
use Rattle.index_lookup.proofs.true_at.Goals as goal

pub returns-then-not-names : goal.returns-then-not-names
returns-then-not-names c =
    let a = c.args in
    let log = joined a.runs.end.0 a.runs.log.now a.runs.waiting.now in
    not_named log a.index.now a.kind a.score.now a.p _ c.names.ensures c.if-not-names.true

pub returns-then-runs-first : goal.returns-then-runs-first
returns-then-runs-first c =
    let a = c.args in
    let log = joined a.runs.end.0 a.runs.log.now a.runs.waiting.now in
    let e = sectors-joined a.runs.end.0 a.runs.log.now a.runs.waiting.now c.requires.0 in
    past_end log a.index.now a.kind a.score.now a.p _ c.sector_at-first.ensures (omega (arith, e, c.if-runs-first.true))

pub returns : goal.returns
returns c = let if1 = c.if-not-names in
    let names = c.names in
    let sector-at = c.sector_at-first in
    let a = c.args in
    let log = joined a.runs.end.0 a.runs.log.now a.runs.waiting.now in
    checked-there log a.index.now a.kind a.score.now a.p _ _ _ names.ensures if1.false sector-at.ensures c.sound_as.ensures
