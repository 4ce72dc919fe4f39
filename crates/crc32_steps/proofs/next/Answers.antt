use native.Mathlib.Omega.{arith}
use lib.Bits.{bit_xor, mask_lt}
use Rattle.crc32_rule.proofs.ByTable.{by_table}
use Rattle.crc32_steps.proofs.next.Goals as goal

-- `crc32_steps::next` meets its contract, by the table's rule.
-- Assumes nothing.
pub overflow_cast-result : goal.overflow_cast-result
overflow_cast-result c = omega (arith, mask_lt (bit_xor c.args.c c.args.b) 8)

pub offset_bounds-t-x : goal.offset_bounds-t-x
offset_bounds-t-x c = omega (arith, mask_lt (bit_xor c.args.c c.args.b) 8)

pub bounds-t-x : goal.bounds-t-x
bounds-t-x c = mask_lt (bit_xor c.args.c c.args.b) 8

pub returns : goal.returns
returns c = rw c.requires (by_table c.args.c c.args.b)
