use mathlib.Core.Path.{refl, ◌∙◌}
use native.Mathlib.Omega.{arith}
use Rattle.card.proofs.Turns.{placed, placed-none, says_none, says_here, says_on, says-end}
use Rattle.card.proofs.value_in.Goals as goal

pub loop-at-init : goal.loop-at-init
loop-at-init c = (omega arith, refl)

pub returns-in_default : goal.returns-in_default
returns-in_default c =
    let a = c.args in
    let l = c.loop-at in
    let r = c.line_at in
    says_none a.card.now a.name.now l.at (placed-none a.card.now l.at (omega arith) r.result r.ensures c.in_default.is) ∙ l.invariant.1

pub slice_bounds-equal-count : goal.slice_bounds-equal-count
slice_bounds-equal-count c =
    let a = c.args in
    let l = c.loop-at in
    let r = c.line_at in
    let p = placed a.card.now l.at (omega arith) r.result r.ensures _ c.in-Some.is in
    omega (arith, p.1.starts)

pub slice_bounds-equal-start : goal.slice_bounds-equal-start
slice_bounds-equal-start c =
    let a = c.args in
    let l = c.loop-at in
    let r = c.line_at in
    let p = placed a.card.now l.at (omega arith) r.result r.ensures _ c.in-Some.is in
    omega (arith, p.1.starts)

pub slice_bounds-equal-end : goal.slice_bounds-equal-end
slice_bounds-equal-end c =
    let a = c.args in
    let l = c.loop-at in
    let r = c.line_at in
    let p = placed a.card.now l.at (omega arith) r.result r.ensures _ c.in-Some.is in
    omega (arith, p.1.ends, p.1.fits)

pub returns-then-equal : goal.returns-then-equal
returns-then-equal c =
    let a = c.args in
    let l = c.loop-at in
    let r = c.line_at in
    let p = placed a.card.now l.at (omega arith) r.result r.ensures _ c.in-Some.is in
    c.told.ensures ∙ says_here a.card.now a.name.now l.at _ _ _ p.0 p.1 _ c.equal.ensures c.if-equal.true ∙ l.invariant.1

pub loop-at-smaller : goal.loop-at-smaller
loop-at-smaller c =
    let a = c.args in
    let l = c.loop-at in
    let r = c.line_at in
    let p = placed a.card.now l.at (omega arith) r.result r.ensures _ c.in-Some.is in
    omega (arith, p.1.starts, p.1.ends, p.1.fits)

pub loop-at-preserved : goal.loop-at-preserved
loop-at-preserved c =
    let a = c.args in
    let l = c.loop-at in
    let r = c.line_at in
    let p = placed a.card.now l.at (omega arith) r.result r.ensures _ c.in-Some.is in
    (p.1.fits, says_on a.card.now a.name.now l.at _ _ _ p.0 p.1 _ c.equal.ensures c.if-equal.false ∙ l.invariant.1)

pub returns : goal.returns
returns c =
    let l = c.loop-at in
    says-end _ _ l.at (omega arith) ∙ l.invariant.1
