use native.Mathlib.Omega.{arith}
use Rattle.walk_calls.proofs.Visits.{walk-small, walked_so}
use Rattle.walk_calls.proofs.walk.Goals as goal

-- `walk_calls::walk` meets its contract; the sum fits since the visits are few and the sector is one of the longest log and waiting part.
-- what is answered is walked in these two parts
pub returns : goal.returns
returns c =
    let walk = c.walk-walked in
    let number = c.number-number in
    let end-sector = c.end_sector-sector in
    walked_so walk.result _ number.result end-sector.result walk.ensures number.ensures end-sector.ensures

pub overflow_mul-result : goal.overflow_mul-result
overflow_mul-result c =
    let s = c.args in
    let walk = c.walk-walked in
    let end-sector = c.end_sector-sector in
    let w = walk-small s.log.now s.waiting.now s.score.now s.allowance _ walk.ensures in
    omega (arith, w.few, w.told, end-sector.ensures)

pub overflow_add-result : goal.overflow_add-result
overflow_add-result c =
    let s = c.args in
    let walk = c.walk-walked in
    let end-sector = c.end_sector-sector in
    let w = walk-small s.log.now s.waiting.now s.score.now s.allowance _ walk.ensures in
    omega (arith, w.few, w.told, end-sector.ensures)

pub overflow_mul-result-2 : goal.overflow_mul-result-2
overflow_mul-result-2 c =
    let s = c.args in
    let walk = c.walk-walked in
    let end-sector = c.end_sector-sector in
    let w = walk-small s.log.now s.waiting.now s.score.now s.allowance _ walk.ensures in
    omega (arith, w.few, w.told, end-sector.ensures)

pub overflow_add-result-2 : goal.overflow_add-result-2
overflow_add-result-2 c =
    let s = c.args in
    let walk = c.walk-walked in
    let end-sector = c.end_sector-sector in
    let w = walk-small s.log.now s.waiting.now s.score.now s.allowance _ walk.ensures in
    omega (arith, w.few, w.told, end-sector.ensures)
