use native.Mathlib.Omega.{arith}
use Rattle.tree_calls.proofs.Fills.{fills_few, filled_so}
use Rattle.tree_calls.proofs.fill.Goals as goal

pub overflow_mul-result : goal.overflow_mul-result
overflow_mul-result c =
    let a = c.args in
    let fill = c.fill-filled in
    omega (arith, fills_few a.log.now a.waiting.now a.entry.now a.offset a.buffer.now _ fill.result (λ k. omega (arith, c.type_inv.entry k)) fill.ensures)

pub overflow_add-result : goal.overflow_add-result
overflow_add-result c =
    let a = c.args in
    let fill = c.fill-filled in
    omega (arith, fills_few a.log.now a.waiting.now a.entry.now a.offset a.buffer.now _ fill.result (λ k. omega (arith, c.type_inv.entry k)) fill.ensures)

pub returns : goal.returns
returns c =
    let fill = c.fill-filled in
    let number = c.number in
    let stop-sector = c.stop_sector-sector in
    filled_so fill.result _ _ number.result stop-sector.result fill.ensures number.ensures stop-sector.ensures
