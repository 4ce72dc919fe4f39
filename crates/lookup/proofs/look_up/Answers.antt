use Rattle.block.specs.Log.{joined}
use Rattle.lookup.proofs.Outcomes.{look_none, look_some}
use Rattle.lookup.proofs.look_up.Goals as goal

pub returns-in_default : goal.returns-in_default
returns-in_default c = let a = c.args in
    let find-held = c.find_held in
    look_none (joined a.runs.end.0 a.runs.log.now a.runs.waiting.now) a.kind a.score.now _ _ find-held.ensures (c.in_default.is) (c.why_absent.ensures)

pub returns : goal.returns
returns c = let a = c.args in
    let find-held = c.find_held in
    look_some (joined a.runs.end.0 a.runs.log.now a.runs.waiting.now) a.kind a.score.now _ _ find-held.ensures (c.in-Some.is)
