use mathlib.Core.Path.{sym, ◌∙◌}
use native.Mathlib.Omega.{arith}
use Rattle.block.proofs.Joined.{at-log, at-waiting}
use Rattle.two_runs.proofs.sector_at.Goals as goal

pub returns-then-n-runs : goal.returns-then-n-runs
returns-then-n-runs c =
    let a = c.args in
    let p = c.requires in
    c.sector_of.ensures ∙ sym (at-log a.runs.end.0 a.runs.log.now a.runs.waiting.now p.0 a.n.0 (omega arith))

pub returns : goal.returns
returns c =
    let a = c.args in
    let p = c.requires in
    c.sector_of-2.ensures ∙ sym (at-waiting a.runs.end.0 a.runs.log.now a.runs.waiting.now p.0 a.n.0 (omega arith))
