use Rattle.block.specs.Log.{joined}
use Rattle.doubt.proofs.Walk.{absent-known, absent-held}
use Rattle.doubt.proofs.why_absent.Goals as goal

pub first_doubtful-n-requires : goal.first_doubtful-n-requires
first_doubtful-n-requires c = (c.requires, c.used_both-last.ensures)

pub returns-then-n-last : goal.returns-then-n-last
returns-then-n-last c =
    let a = c.args in
    let last = c.used_both-last in
    let doubtful = c.first_doubtful-n in
    absent-known (joined a.runs.end.0 a.runs.log.now a.runs.waiting.now) doubtful.result.0 last.result.0 doubtful.ensures last.ensures c.if-n-last.true

pub returns : goal.returns
returns c =
    let a = c.args in
    let last = c.used_both-last in
    let doubtful = c.first_doubtful-n in
    absent-held (joined a.runs.end.0 a.runs.log.now a.runs.waiting.now) doubtful.result.0 last.result.0 doubtful.ensures last.ensures c.if-n-last.false
