use mathlib.Core.Path.{sym, ◌∙◌}
use mathlib.Core.Logic.{⊎_elim}
use Rattle.block.specs.Log.{joined}
use Rattle.lookup.proofs.Outcomes.{not-lawful, not-zero}
use Rattle.index_lookup.proofs.Turns.{by_zero, by_hint, by_scan}
use Rattle.index_lookup.proofs.find_held_by.Goals.{else-is_lawful, then-is_lawful+else-is_zero_score}
use Rattle.index_lookup.proofs.find_held_by.Goals as goal

pub returns-then-is_zero_score : goal.returns-then-is_zero_score
returns-then-is_zero_score c = let args = c.args in
    let if1 = c.if-is_lawful in
    let is_lawful = c.is_lawful in
    let is-zero-score = c.is_zero_score in
    let a = args in
    let log = joined a.runs.end.0 a.runs.log.now a.runs.waiting.now in
    by_zero log a.index.now a.kind a.score.now _ _ _ is_lawful.ensures if1.true is-zero-score.ensures c.if-is_zero_score.true c.find_held.ensures

pub returns-in-Some : goal.returns-in-Some
returns-in-Some c =
    let a = c.args in
    let log = joined a.runs.end.0 a.runs.log.now a.runs.waiting.now in
    sym c.in-Some.is ∙ by_hint log a.index.now a.kind a.score.now _ _ (elim c.if-is_lawful.branch [ then-is_lawful+else-is_zero_score w ↦ not-zero a.kind a.score.now _ w.is_zero_score.ensures w.if-is_zero_score.false | else-is_lawful w ↦ not-lawful a.kind a.score.now _ c.is_lawful.ensures w.if-is_lawful.false ]) c.find_hint.ensures c.in-Some.is

pub returns : goal.returns
returns c =
    let a = c.args in
    let log = joined a.runs.end.0 a.runs.log.now a.runs.waiting.now in
    by_scan log a.index.now a.kind a.score.now _ _ (elim c.if-is_lawful.branch [ then-is_lawful+else-is_zero_score w ↦ not-zero a.kind a.score.now _ w.is_zero_score.ensures w.if-is_zero_score.false | else-is_lawful w ↦ not-lawful a.kind a.score.now _ c.is_lawful.ensures w.if-is_lawful.false ]) c.find_hint.ensures c.in_default.is c.find_held-2.ensures
