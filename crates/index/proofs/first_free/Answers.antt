use mathlib.Core.Path.{◌≡◌, refl, sym, ◌∙◌}
use native.Mathlib.Omega.{arith}
use Rattle.index.proofs.Turns.{free-here, free-next, free-end}
use Rattle.index.proofs.first_free.Goals as goal

pub loop-p-init : goal.loop-p-init
loop-p-init c = refl

pub returns-then-is_zero : goal.returns-then-is_zero
returns-then-is_zero c =
    let a = c.args in
    let l = c.loop-p in
    sym (free-here a.index.now l.p a.to _ c.is_zero.ensures c.loop-p-test.true c.if-is_zero.true) ∙ l.invariant

pub loop-p-preserved : goal.loop-p-preserved
loop-p-preserved c =
    let a = c.args in
    let l = c.loop-p in
    free-next a.index.now l.p a.to _ c.is_zero.ensures c.loop-p-test.true c.if-is_zero.false ∙ l.invariant

pub returns : goal.returns
returns c =
    let a = c.args in
    let l = c.loop-p in
    let e : l.p ≡ a.to = omega arith in
    sym e ∙ (sym (free-end a.index.now l.p a.to (omega arith)) ∙ l.invariant)
