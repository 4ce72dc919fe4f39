use native.Mathlib.Omega.{arith}
use Rattle.comparison.proofs.Bounds.{Within}
use Rattle.walk.specs.Walk.{most_allowance}
use Rattle.change_calls.proofs.Changes.{compared_few, compared_so}
use Rattle.change_calls.proofs.differences.Goals as goal

pub overflow_mul-result : goal.overflow_mul-result
overflow_mul-result c = let a = c.args in
    let w : Within most_allowance 1 c.differences-compared.result =
    compared_few a.log.now a.waiting.now a.first.now a.second.now a.allowance _ c.differences-compared.ensures in
    omega (arith, w.0, w.1)

pub overflow_add-result : goal.overflow_add-result
overflow_add-result c = let a = c.args in
    let w : Within most_allowance 1 c.differences-compared.result =
    compared_few a.log.now a.waiting.now a.first.now a.second.now a.allowance _ c.differences-compared.ensures in
    omega (arith, w.0, w.1)

pub overflow_mul-result-2 : goal.overflow_mul-result-2
overflow_mul-result-2 c = let a = c.args in
    let w : Within most_allowance 1 c.differences-compared.result =
    compared_few a.log.now a.waiting.now a.first.now a.second.now a.allowance _ c.differences-compared.ensures in
    omega (arith, w.0, w.1)

pub overflow_add-result-2 : goal.overflow_add-result-2
overflow_add-result-2 c = let a = c.args in
    let w : Within most_allowance 1 c.differences-compared.result =
    compared_few a.log.now a.waiting.now a.first.now a.second.now a.allowance _ c.differences-compared.ensures in
    omega (arith, w.0, w.1)

pub returns : goal.returns
returns c =
    compared_so c.differences-compared.result _ c.number-number.result c.end_sector-sector.result c.differences-compared.ensures c.number-number.ensures c.end_sector-sector.ensures
