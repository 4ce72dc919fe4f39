use native.Mathlib.Omega.{arith}
use Rattle.lookup.proofs.Outcomes.{border_used, border_whole}
use Rattle.lookup.proofs.border.Goals as goal

pub returns-then-waits-gt0 : goal.returns-then-waits-gt0
returns-then-waits-gt0 c =
    let a = c.args in record { within = (border_used c.used_part.result.0 a.log.now a.waiting.now c.used_part.ensures).0; alike = (border_used c.used_part.result.0 a.log.now a.waiting.now c.used_part.ensures).1 }

pub returns : goal.returns
returns c =
    let a = c.args in
    record { within = omega arith; alike = border_whole a.log.now a.waiting.now c.used_part-waits.result.0 c.used_part-waits.ensures c.if-waits-gt0.false }
