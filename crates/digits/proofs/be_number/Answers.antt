use mathlib.Core.Path.{refl}
use native.Mathlib.Numerals.{add-one}
use native.Mathlib.Omega.{arith}
use Rattle.digits.proofs.NumberLaws.{more_lt}
use Rattle.digits.proofs.Turns.{room, value_turn, value-end}
use Rattle.digits.proofs.be_number.Goals as goal

pub loop-b-init : goal.loop-b-init
loop-b-init c = (omega arith, refl)

pub overflow_mul-n : goal.overflow_mul-n
overflow_mul-n c = let l = c.loop-b in omega (arith, room 256 8 l.b-index l.n 0 (omega arith) l.invariant.0 (omega arith))

pub overflow_add-n : goal.overflow_add-n
overflow_add-n c =
    let l = c.loop-b in
    omega (arith, c.from.ensures, room 256 8 l.b-index l.n _ (omega arith) l.invariant.0 (c.type_inv.s l.b-index).fits)

pub loop-b-preserved : goal.loop-b-preserved
loop-b-preserved c =
    let l = c.loop-b in
    rw c.from.ensures (
      rw add-one (omega (arith, more_lt 256 l.b-index l.n _ l.invariant.0 (c.type_inv.s l.b-index).fits)),
      value_turn 256 l.n l.b-index _ _ c.loop-b-test.true l.invariant.1,
    )

pub returns : goal.returns
returns c = let l = c.loop-b in value-end 256 l.n l.b-index _ _ c.loop-b-test.false l.invariant.1
