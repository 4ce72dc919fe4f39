use mathlib.Core.Logic.{⊎_elim}
use Rattle.score_scan.proofs.Scan.{held-zero, held_scan, not-lawful, not-zero}
use Rattle.block.specs.Log.{joined}
use Rattle.score_scan.proofs.find_held.Goals.{else-is_lawful, then-is_lawful+else-is_zero_score}
use Rattle.score_scan.proofs.find_held.Goals as goal

pub returns-then-is_zero_score : goal.returns-then-is_zero_score
returns-then-is_zero_score c =
    let a = c.args in
    held-zero (joined a.runs.end.0 a.runs.log.now a.runs.waiting.now) a.kind a.score.now _ _ c.is_lawful.ensures
    c.if-is_lawful.true c.is_zero_score.ensures c.if-is_zero_score.true

pub returns : goal.returns
returns c =
    let a = c.args in
    let is_lawful = c.is_lawful in
    let find = c.find in
    held_scan (joined a.runs.end.0 a.runs.log.now a.runs.waiting.now) a.kind a.score.now find.result (elim c.if-is_lawful.branch [ then-is_lawful+else-is_zero_score w ↦ not-zero a.kind a.score.now _ w.is_zero_score.ensures w.if-is_zero_score.false | else-is_lawful w ↦ not-lawful a.kind a.score.now _ is_lawful.ensures w.if-is_lawful.false ]) find.ensures
