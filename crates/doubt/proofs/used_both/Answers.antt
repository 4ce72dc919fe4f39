use mathlib.Core.Path.{ap, ◌∙◌}
use Prim.Native.Nat.{ℕ, ◌*◌}
use native.Mathlib.Nat.{sub-zero}
use native.Mathlib.Omega.{arith}
use lib.ListN.{take}
use Rattle.block.specs.Log.{used}
use Rattle.block.proofs.Used.{used_le_sectors}
use Rattle.doubt.proofs.Both.{used-waits, used-front}
use Rattle.doubt.proofs.used_both.Goals as goal

pub returns-then-waits-eq0 : goal.returns-then-waits-eq0
returns-then-waits-eq0 c =
    let a = c.args in
    let waits = c.used_part-waits in
    c.used_part.ensures ∙ ap (λ (k : ℕ). used (take k a.runs.log.now)) (sub-zero (512 * a.runs.end.0))
    ∙ used-front a.runs.end.0 a.runs.log.now a.runs.waiting.now c.requires waits.result.0 waits.ensures
    c.if-waits-eq0.true

pub overflow_add-last : goal.overflow_add-last
overflow_add-last c =
    let a = c.args in
    omega (arith, c.used_part-waits.ensures, used_le_sectors a.runs.waiting.now, c.requires)

pub returns : goal.returns
returns c =
    let a = c.args in
    let waits = c.used_part-waits in
    used-waits a.runs.end.0 a.runs.log.now a.runs.waiting.now c.requires waits.result.0 waits.ensures c.if-waits-eq0.false
