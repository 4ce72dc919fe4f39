use Rattle.block.specs.Log.{joined}
use Rattle.visit.proofs.Visits.{met-level}
use Rattle.visit.proofs.visit_level.Goals as goal

-- `visit::visit_level` meets its contract: the type and the count are those of the level.
pub returns : goal.returns
returns c =
    let a = c.args in
    let log = joined a.runs.end.0 a.runs.log.now a.runs.waiting.now in
    met-level log a.e a.level a.nest a.left a.score.now c.visit.ensures c.type_at.ensures c.count_at.ensures
