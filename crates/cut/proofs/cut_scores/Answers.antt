use mathlib.Core.Bool.{true, false}
use native.Mathlib.Omega.{arith}
use borrow.Author.Tests.{not-true, not-false}
use lib.ListN.{length}
use Rattle.kind.specs.Kind.{zero_score}
use Rattle.kind.proofs.ZeroScore.{length-zero-score}
use Rattle.cut.proofs.Turns.{Cutting, cutting, cut_again, cut_stop, cut_all, cut_test, whole_units_lem}
use Rattle.cut.proofs.cut_scores.Goals as goal

pub loop-n-init : goal.loop-n-init
loop-n-init c =
    let a = c.args in
    cutting zero_score a.b.now (whole_units_lem zero_score (length a.b.now) c.requires)

pub slice_bounds-is_zero_score-end : goal.slice_bounds-is_zero_score-end
slice_bounds-is_zero_score-end c = omega (arith, c.loop-n.invariant.within)

pub returns-then-not-is_zero_score : goal.returns-then-not-is_zero_score
returns-then-not-is_zero_score c =
    let a = c.args in
    let l = c.loop-n in
    cut_stop zero_score a.b.now 20 l.n length-zero-score l.invariant (omega arith)
    (cut_test zero_score a.b.now 20 l.n length-zero-score l.invariant (omega arith) c.is_zero_score.result false c.is_zero_score.ensures c.if-not-is_zero_score.true)

pub loop-n-preserved : goal.loop-n-preserved
loop-n-preserved c =
    let a = c.args in
    let l = c.loop-n in
    cut_again zero_score a.b.now 20 l.n length-zero-score l.invariant (omega arith) (omega arith)
    (cut_test zero_score a.b.now 20 l.n length-zero-score l.invariant (omega arith) c.is_zero_score.result true c.is_zero_score.ensures c.if-not-is_zero_score.false)

pub returns : goal.returns
returns c =
    let l = c.loop-n in
    cut_all zero_score c.args.b.now 20 l.n length-zero-score l.invariant (omega arith)
