use mathlib.Core.Path.{sym, ◌∙◌}
use native.Mathlib.Omega.{arith}
use Rattle.buffer.proofs.Steps.{same-lengths, agree_step, agree_end}
use Rattle.buffer.proofs.agree.Goals as goal

pub returns-then-b-a : goal.returns-then-b-a
returns-then-b-a c = let a = c.args in sym (same-lengths a.a.now a.b.now (λ e. c.if-b-a.true (sym e)))

pub loop-i-preserved : goal.loop-i-preserved
loop-i-preserved c =
    let l = c.loop-i in
    let a = c.args in
    agree_step a.a.now a.b.now l.i l.differ (omega arith) (omega arith) ∙ l.invariant

pub returns : goal.returns
returns c =
    let l = c.loop-i in
    let a = c.args in
    sym (agree_end a.a.now a.b.now l.i l.differ (omega arith) (omega arith)) ∙ l.invariant
