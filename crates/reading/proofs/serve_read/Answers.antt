use mathlib.Core.Path.{ap, ◌∙◌}
use native.Mathlib.Omega.{arith}
use lib.ListN.{length}
use Rattle.message.proofs.Requests.{read_length, read-score}
use Rattle.sector_log.specs.Parts.{beside}
use Rattle.reading.proofs.Returns.{settled-within, read-settled, read_as}
use Rattle.reading.proofs.serve_read.Goals as goal

pub score_of-score-requires : goal.score_of-score-requires
score_of-score-requires c = omega (arith, read_length _ _ _ c.requires.0)

pub find_settled-requires : goal.find_settled-requires
find_settled-requires c = ap length c.score_of-score.ensures ∙ read-score _ _ _ c.requires.0

pub tag_of-requires : goal.tag_of-requires
tag_of-requires c = omega (arith, read_length _ _ _ c.requires.0)

pub answer_settled-requires : goal.answer_settled-requires
answer_settled-requires c =
    let a = c.args in
    let w = settled-within a.kind c.score_of-score.result.now a.index.now a.log.now _
    (c.find_settled.ensures _ c.in-Some.is) in
    (w.0, w.1, c.requires.1)

pub returns-in-Some : goal.returns-in-Some
returns-in-Some c =
    let a = c.args in
    let score = c.score_of-score in
    let tag = c.tag_of in
    let told = c.answer_settled.ensures a.waiting.now in
    let found = c.find_settled.ensures _ c.in-Some.is in
    read_as a.message.now a.index.now (beside a.log.now a.waiting.now) _ _ tag.ensures a.kind a.count _ _ score.ensures
    (read-settled a.kind score.result.now a.index.now a.log.now _ found a.count _ a.waiting.now _ _ c.is_lawful.ensures
    c.if-is_lawful.true _ told)
