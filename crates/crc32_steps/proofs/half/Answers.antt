use Prim.Native.Nat.{◌+◌}
use native.Mathlib.Omega.{arith}
use Rattle.crc32_steps.proofs.Digits.{half_at}
use Rattle.crc32_steps.proofs.half.Goals as goal

pub overflow_cast-result : goal.overflow_cast-result
overflow_cast-result c = omega (arith, (c.type_inv.s (c.args.i + 3)).fits)

pub overflow_mul-result : goal.overflow_mul-result
overflow_mul-result c = omega (arith, (c.type_inv.s (c.args.i + 3)).fits)

pub overflow_cast-result-2 : goal.overflow_cast-result-2
overflow_cast-result-2 c = omega (arith, (c.type_inv.s (c.args.i + 2)).fits)

pub overflow_add-result-3 : goal.overflow_add-result-3
overflow_add-result-3 c = omega (arith, (c.type_inv.s (c.args.i + 3)).fits, (c.type_inv.s (c.args.i + 2)).fits)

pub overflow_mul-result-2 : goal.overflow_mul-result-2
overflow_mul-result-2 c = omega (arith, (c.type_inv.s (c.args.i + 3)).fits, (c.type_inv.s (c.args.i + 2)).fits)

pub overflow_cast-result-3 : goal.overflow_cast-result-3
overflow_cast-result-3 c = omega (arith, (c.type_inv.s (c.args.i + 1)).fits)

pub overflow_add-result-5 : goal.overflow_add-result-5
overflow_add-result-5 c = let a = c.args in
    omega (arith, (c.type_inv.s (a.i + 3)).fits, (c.type_inv.s (a.i + 2)).fits, (c.type_inv.s (a.i + 1)).fits)

pub overflow_mul-result-3 : goal.overflow_mul-result-3
overflow_mul-result-3 c = let a = c.args in
    omega (arith, (c.type_inv.s (a.i + 3)).fits, (c.type_inv.s (a.i + 2)).fits, (c.type_inv.s (a.i + 1)).fits)

pub overflow_cast-result-4 : goal.overflow_cast-result-4
overflow_cast-result-4 c = omega (arith, (c.type_inv.s c.args.i).fits)

pub overflow_add-result-6 : goal.overflow_add-result-6
overflow_add-result-6 c = let a = c.args in
    omega (arith, (c.type_inv.s (a.i + 3)).fits, (c.type_inv.s (a.i + 2)).fits, (c.type_inv.s (a.i + 1)).fits, (c.type_inv.s a.i).fits)

pub returns : goal.returns
returns c = half_at _ c.args.i c.requires
