use mathlib.Core.Path.{refl, ap₂}
use Prim.Native.Nat.{ℕ, ◌+◌, ◌*◌, ◌<◌}
use native.Mathlib.Omega.{arith}
use Rattle.index_calls.proofs.HintLaws.{found_so, refused_so, found_few, refused_few}
use borrow.Author.Rules.{rules}
use Rattle.index_calls.proofs.look_result.Goals as goal

pub overflow_mul-result : goal.overflow_mul-result
overflow_mul-result c =
    let few = found_few c.args.look _ c.requires c.in-Ok.is in
    omega (arith, few.0, few.1)

pub overflow_add-result : goal.overflow_add-result
overflow_add-result c =
    let few = found_few c.args.look _ c.requires c.in-Ok.is in
    omega (arith, few.0, few.1)

pub overflow_mul-result-in-Ok : goal.overflow_mul-result-in-Ok
overflow_mul-result-in-Ok c =
    let few = found_few c.args.look _ c.requires c.in-Ok.is in
    omega (arith, few.0, few.1)

pub overflow_mul-result-in-Err : goal.overflow_mul-result-in-Err
overflow_mul-result-in-Err c =
    let few = refused_few c.args.look _ c.requires c.in-Err.is in
    omega (arith, few, c.told_sector.ensures)

pub overflow_mul-result-in-Err-2 : goal.overflow_mul-result-in-Err-2
overflow_mul-result-in-Err-2 c =
    let few = refused_few c.args.look _ c.requires c.in-Err.is in
    omega (arith, few, c.told_sector.ensures)

pub overflow_add-result-in-Err : goal.overflow_add-result-in-Err
overflow_add-result-in-Err c =
    let few = refused_few c.args.look _ c.requires c.in-Err.is in
    let small : c.number.result < 256 = search rules in
    omega (arith, few, c.told_sector.ensures, small)

pub returns-in-Ok : goal.returns-in-Ok
returns-in-Ok c =
    found_so c.args.look _ _ c.in-Ok.is refl

pub returns-in-Err : goal.returns-in-Err
returns-in-Err c = let a = c.args in
    refused_so a.look _ _ c.in-Err.is (ap₂ (λ (n t : ℕ). n + 256 * (65536 * t)) c.number.ensures c.told_sector.ensures)
