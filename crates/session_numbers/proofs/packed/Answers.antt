use native.Mathlib.Omega.{arith}
use Rattle.session_numbers.proofs.ServeLaws.{session-most}
use Rattle.session_numbers.proofs.packed.Goals as goal

pub overflow_mul-result : goal.overflow_mul-result
overflow_mul-result c =
    let session-number = c.session_number in
    omega (arith, session-most c.args.answer.session session-number.result session-number.ensures)

pub overflow_add-result : goal.overflow_add-result
overflow_add-result c =
    let struct_known = c.struct_known-1 in
    let session-number = c.session_number in
    omega (arith, session-most c.args.answer.session session-number.result session-number.ensures, struct_known.given.0)
