use Rattle.block.specs.Log.{joined}
use Rattle.visit.proofs.Visits.{met_nest, met-spent, met_looked}
use Rattle.visit.proofs.visit.Goals as goal

-- `visit::visit` meets its contract, refusal by refusal.
pub returns-then-nest-gt16 : goal.returns-then-nest-gt16
returns-then-nest-gt16 c =
    let a = c.args in
    let log = joined a.runs.end.0 a.runs.log.now a.runs.waiting.now in
    met_nest log a.nest a.left a.kind a.count a.score.now c.if-nest-gt16.true

pub returns-then-left-eq0 : goal.returns-then-left-eq0
returns-then-left-eq0 c =
    let a = c.args in
    let log = joined a.runs.end.0 a.runs.log.now a.runs.waiting.now in
    met-spent log a.nest a.left a.kind a.count a.score.now c.if-nest-gt16.false c.if-left-eq0.true

pub returns : goal.returns
returns c =
    let a = c.args in
    let log = joined a.runs.end.0 a.runs.log.now a.runs.waiting.now in
    met_looked log a.nest a.left a.kind a.count a.score.now c.if-nest-gt16.false c.if-left-eq0.false _ c.fetch.ensures
