use mathlib.Core.Path.{sym, ◌∙◌}
use mathlib.Core.Logic.{⊎_elim}
use Rattle.lookup.proofs.Outcomes.{not-lawful, not-zero}
use Rattle.known_store.proofs.Found.{by_zero, by_hint, by_nothing, by_scan}
use Rattle.known_store.proofs.find_known.Goals.{else-is_lawful, then-is_lawful+else-is_zero_score}
use Rattle.known_store.proofs.find_known.Goals as goal

pub returns-then-is_zero_score : goal.returns-then-is_zero_score
returns-then-is_zero_score c = let args = c.args in
    let if1 = c.if-is_lawful in
    let is_lawful = c.is_lawful in
    let is-zero-score = c.is_zero_score in
    let a = args in
    by_zero a.known a.log.now a.waiting.now a.index.now a.kind a.score.now _ _ _ is_lawful.ensures if1.true is-zero-score.ensures c.if-is_zero_score.true
    c.find_held.ensures

pub returns-in-Some : goal.returns-in-Some
returns-in-Some c =
    let a = c.args in
    sym c.in-Some.is ∙ by_hint a.known a.log.now a.waiting.now a.index.now a.kind a.score.now _ (elim c.if-is_lawful.branch [ then-is_lawful+else-is_zero_score w ↦ not-zero a.kind a.score.now _ w.is_zero_score.ensures w.if-is_zero_score.false | else-is_lawful w ↦ not-lawful a.kind a.score.now _ c.is_lawful.ensures w.if-is_lawful.false ]) _ c.find_hint.ensures c.in-Some.is

pub returns-then-known : goal.returns-then-known
returns-then-known c = let args = c.args in
    let find-hint = c.find_hint in
    let if1 = c.if-is_lawful in
    let is_lawful = c.is_lawful in
    let a = args in
    by_nothing a.known a.log.now a.waiting.now a.index.now a.kind a.score.now find-hint.result (elim c.if-is_lawful.branch [ then-is_lawful+else-is_zero_score w ↦ not-zero a.kind a.score.now _ w.is_zero_score.ensures w.if-is_zero_score.false | else-is_lawful w ↦ not-lawful a.kind a.score.now _ c.is_lawful.ensures w.if-is_lawful.false ]) _ find-hint.ensures c.in_default.is
    c.if-known.true

pub returns : goal.returns
returns c = let args = c.args in
    let find-hint = c.find_hint in
    let if1 = c.if-is_lawful in
    let is_lawful = c.is_lawful in
    let a = args in
    by_scan a.known a.log.now a.waiting.now a.index.now a.kind a.score.now _ (elim c.if-is_lawful.branch [ then-is_lawful+else-is_zero_score w ↦ not-zero a.kind a.score.now _ w.is_zero_score.ensures w.if-is_zero_score.false | else-is_lawful w ↦ not-lawful a.kind a.score.now _ c.is_lawful.ensures w.if-is_lawful.false ]) _ find-hint.ensures c.in_default.is c.if-known.false
    c.find_held-2.ensures
