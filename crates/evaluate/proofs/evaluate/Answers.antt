use native.Mathlib.Omega.{arith}
use Rattle.evaluate.proofs.Whole.{long-refused, ill-refused, more-refused, all_told}
use Rattle.evaluate.proofs.evaluate.Goals as goal

-- `evaluate::evaluate` meets its contract: by the length, the list at the front, and what stands behind it.
pub returns-then-text-gt256 : goal.returns-then-text-gt256
returns-then-text-gt256 c = let a = c.args in long-refused a.card.now a.text.now c.if-text-gt256.true

pub returns-in_default : goal.returns-in_default
returns-in_default c =
    let a = c.args in
    ill-refused a.card.now a.text.now (omega arith) c.read_list.ensures c.in_default.is

pub returns-then-list-text : goal.returns-then-list-text
returns-then-list-text c =
    let a = c.args in
    more-refused a.card.now a.text.now (omega arith) c.read_list.ensures c.in-Some.is c.if-list-text.true

pub returns : goal.returns
returns c =
    let a = c.args in
    all_told a.card.now a.text.now (omega arith) c.read_list.ensures c.in-Some.is (omega arith)
