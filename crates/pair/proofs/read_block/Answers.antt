use mathlib.Core.Path.{sym, ◌∙◌}
use Rattle.std.proofs.lemmas.Result.{err_from_is_err_and}
use Rattle.block.specs.Log.{joined}
use Rattle.pair.proofs.Opened.{not_found, ragged-scores, scores-whole, leaf-found}
use Rattle.pair.proofs.read_block.Goals as goal

pub returns-in_err-b : goal.returns-in_err-b
returns-in_err-b c =
    let a = c.args in
    let p = err_from_is_err_and c.from_residual.result c.from_residual.ensures.1 in
    rw (p.1, p.2)
    (sym c.in_err-b.was ∙ not_found (joined a.runs.end.0 a.runs.log.now a.runs.waiting.now) a.e a.level a.score.now c.fetch.ensures c.type_at.ensures c.count_at.ensures _ c.in_err-b.was)

pub returns-then-b-ne0 : goal.returns-then-b-ne0
returns-then-b-ne0 c =
    let a = c.args in
    ragged-scores (joined a.runs.end.0 a.runs.log.now a.runs.waiting.now) a.e a.level a.score.now c.fetch.ensures c.type_at.ensures c.count_at.ensures
    c.in_ok-b.was c.if-level-ne0.true c.if-b-ne0.true

pub returns-else-b-ne0 : goal.returns-else-b-ne0
returns-else-b-ne0 c =
    let a = c.args in
    scores-whole (joined a.runs.end.0 a.runs.log.now a.runs.waiting.now) a.e a.level a.score.now c.fetch.ensures c.type_at.ensures c.count_at.ensures
    c.in_ok-b.was c.if-level-ne0.true c.if-b-ne0.false

pub returns-else-level-ne0 : goal.returns-else-level-ne0
returns-else-level-ne0 c =
    let a = c.args in
    leaf-found (joined a.runs.end.0 a.runs.log.now a.runs.waiting.now) a.e a.level a.score.now c.fetch.ensures c.type_at.ensures c.count_at.ensures
    c.in_ok-b.was c.if-level-ne0.false
