use native.Mathlib.Omega.{arith}
use Rattle.crc32_steps.proofs.Digits.{by_digits}
use Rattle.crc32_steps.proofs.next_by_digits.Goals as goal

-- `crc32_steps::next_by_digits` meets its contract, by the rule of the rows.
-- Assumes nothing.
pub overflow_cast-result : goal.overflow_cast-result
overflow_cast-result c = omega arith

pub overflow_add-result : goal.overflow_add-result
overflow_add-result c = omega arith

pub offset_bounds-high-x : goal.offset_bounds-high-x
offset_bounds-high-x c = omega arith

pub bounds-high-x : goal.bounds-high-x
bounds-high-x c = omega arith

pub overflow_cast-result-2 : goal.overflow_cast-result-2
overflow_cast-result-2 c = omega arith

pub overflow_add-result-2 : goal.overflow_add-result-2
overflow_add-result-2 c = omega arith

pub offset_bounds-high-x-2 : goal.offset_bounds-high-x-2
offset_bounds-high-x-2 c = omega arith

pub bounds-high-x-2 : goal.bounds-high-x-2
bounds-high-x-2 c = omega arith

pub returns : goal.returns
returns c = let a = c.args in by_digits a.high.now a.c a.b c.requires
