use mathlib.Core.Path.{sym, ◌∙◌}
use Rattle.buffer.proofs.Steps.{zeros-step, zeros-end}
use Rattle.buffer.proofs.is_zero.Goals as goal

pub loop-b-preserved : goal.loop-b-preserved
loop-b-preserved c =
    let l = c.loop-b in
    zeros-step c.args.s.now l.b-index l.seen c.loop-b-test.true ∙ l.invariant

pub returns : goal.returns
returns c =
    let l = c.loop-b in
    sym (zeros-end c.args.s.now l.b-index l.seen c.loop-b-test.false) ∙ l.invariant
