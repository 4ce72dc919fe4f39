use native.Mathlib.Omega.{arith}
use Rattle.leaf.proofs.Places.{place_by}
use Rattle.leaf.proofs.place_in.Goals as goal

pub overflow_add-result : goal.overflow_add-result
overflow_add-result c =
    let a = c.args in
    omega (arith, place_by a.b a.k _ c.payload_of-p.ensures, c.requires.0)

pub overflow_mul-result : goal.overflow_mul-result
overflow_mul-result c =
    let a = c.args in
    omega (arith, place_by a.b a.k _ c.payload_of-p.ensures, c.requires.0)

pub overflow_add-result-2 : goal.overflow_add-result-2
overflow_add-result-2 c =
    let a = c.args in
    omega (arith, place_by a.b a.k _ c.payload_of-p.ensures, c.requires.0)

pub overflow_add-result-3 : goal.overflow_add-result-3
overflow_add-result-3 c =
    let a = c.args in
    omega (arith, place_by a.b a.k _ c.payload_of-p.ensures, c.requires.0)

pub returns : goal.returns
returns c =
    let a = c.args in
    place_by a.b a.k _ c.payload_of-p.ensures
