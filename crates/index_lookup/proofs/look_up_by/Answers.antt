use Rattle.block.specs.Log.{joined}
use Rattle.index_lookup.proofs.Turns.{answer-none, answer-some}
use Rattle.index_lookup.proofs.look_up_by.Goals as goal

pub returns-in_default : goal.returns-in_default
returns-in_default c =
    let a = c.args in
    let log = joined a.runs.end.0 a.runs.log.now a.runs.waiting.now in
    answer-none log a.index.now a.kind a.score.now _ _ c.find_held_by.ensures c.in_default.is c.why_absent.ensures

pub returns : goal.returns
returns c =
    let a = c.args in
    let log = joined a.runs.end.0 a.runs.log.now a.runs.waiting.now in
    answer-some log a.index.now a.kind a.score.now _ _ c.find_held_by.ensures c.in-Some.is
