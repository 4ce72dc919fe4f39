use mathlib.Core.Path.{refl, sym, ◌∙◌}
use native.Mathlib.Omega.{arith}
use Rattle.buffer.proofs.Steps.{same_step, same-differ, same_end}
use Rattle.card.proofs.Parts.{begins-short, begins_part}
use Rattle.card.proofs.begins_at.Goals as goal

pub returns-then-s-at : goal.returns-then-s-at
returns-then-s-at c = let a = c.args in begins-short a.s.now a.at a.p.now c.if-s-at.true

pub loop-i-init : goal.loop-i-init
loop-i-init c = let a = c.args in begins_part a.s.now a.at a.p.now _ refl

pub returns-then-part-i : goal.returns-then-part-i
returns-then-part-i c =
    let l = c.loop-i in
    let a = c.args in
    sym (sym l.invariant ∙ same-differ _ a.p.now l.i (omega arith) (omega arith) c.if-part-i.true)

pub loop-i-preserved : goal.loop-i-preserved
loop-i-preserved c =
    let l = c.loop-i in
    let a = c.args in
    sym (same_step _ a.p.now l.i (omega arith) (omega arith) c.if-part-i.false) ∙ l.invariant

pub returns : goal.returns
returns c =
    let l = c.loop-i in
    let a = c.args in
    sym (same_end _ a.p.now l.i (omega arith) (omega arith)) ∙ l.invariant
