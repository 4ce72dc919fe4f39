use native.Mathlib.Omega.{arith}
use Rattle.walk.specs.Walk.{most_allowance}
use Rattle.walk_calls.proofs.Visits.{Within}
use Rattle.copy_calls.proofs.Copies.{copy_small, copied_so}
use Rattle.copy_calls.proofs.copy.Goals as goal

-- `copy_calls::copy` meets its contract; the sum fits since the visits are few and the sector is one of the longest log and waiting part.
pub overflow_mul-result : goal.overflow_mul-result
overflow_mul-result c =
    let a = c.args in
    let small : Within most_allowance c.copy-copied.result =
    copy_small a.log.now a.waiting.now a.date.now a.score.now a.second.now a.allowance _ _ c.copy-copied.ensures in
    omega (arith, small.few, small.told, c.end_sector-sector.ensures)

pub overflow_add-result : goal.overflow_add-result
overflow_add-result c =
    let a = c.args in
    let small : Within most_allowance c.copy-copied.result =
    copy_small a.log.now a.waiting.now a.date.now a.score.now a.second.now a.allowance _ _ c.copy-copied.ensures in
    omega (arith, small.few, small.told, c.end_sector-sector.ensures)

pub overflow_mul-result-2 : goal.overflow_mul-result-2
overflow_mul-result-2 c =
    let a = c.args in
    let small : Within most_allowance c.copy-copied.result =
    copy_small a.log.now a.waiting.now a.date.now a.score.now a.second.now a.allowance _ _ c.copy-copied.ensures in
    omega (arith, small.few, small.told, c.end_sector-sector.ensures)

pub overflow_add-result-2 : goal.overflow_add-result-2
overflow_add-result-2 c =
    let a = c.args in
    let small : Within most_allowance c.copy-copied.result =
    copy_small a.log.now a.waiting.now a.date.now a.score.now a.second.now a.allowance _ _ c.copy-copied.ensures in
    omega (arith, small.few, small.told, c.end_sector-sector.ensures)

pub returns : goal.returns
returns c =
    let k = c.copy-copied in
    copied_so k.result _ _ c.number-number.result c.end_sector-sector.result k.ensures c.number-number.ensures c.end_sector-sector.ensures
