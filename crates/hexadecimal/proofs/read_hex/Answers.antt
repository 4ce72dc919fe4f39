use mathlib.Core.Path.{refl, ◌∙◌}
use native.Mathlib.Numerals.{add-one}
use native.Mathlib.Omega.{arith}
use Rattle.digits.proofs.NumberLaws.{more_lt}
use Rattle.digits.proofs.Turns.{room}
use Rattle.hexadecimal.proofs.Turns.{read-bad, read_turn, read-end}
use Rattle.hexadecimal.proofs.read_hex.Goals as goal

pub loop-b-init : goal.loop-b-init
loop-b-init c = (omega arith, refl)

pub returns-then-k-gt15 : goal.returns-then-k-gt15
returns-then-k-gt15 c =
    let l = c.loop-b in
    read-bad _ l.b-index c.loop-b-test.true l.n (omega (arith, c.char_digit-k.ensures)) ∙ l.invariant.1

pub overflow_mul-n : goal.overflow_mul-n
overflow_mul-n c =
    let l = c.loop-b in
    omega (arith, room 16 16 l.b-index l.n 0 (omega arith) l.invariant.0 (omega arith))

pub overflow_add-n : goal.overflow_add-n
overflow_add-n c =
    let l = c.loop-b in
    omega (arith, c.from.ensures, room 16 16 l.b-index l.n c.char_digit-k.result (omega arith) l.invariant.0 (omega arith))

pub loop-b-preserved : goal.loop-b-preserved
loop-b-preserved c =
    let l = c.loop-b in
    let k = c.char_digit-k.ensures in
    rw c.from.ensures (
      rw add-one (omega (arith, more_lt 16 l.b-index l.n c.char_digit-k.result l.invariant.0 (omega arith))),
      rw k (read_turn _ l.b-index c.loop-b-test.true l.n (omega (arith, k)) ∙ l.invariant.1),
    )

pub returns : goal.returns
returns c = let l = c.loop-b in read-end _ l.n l.b-index c.loop-b-test.false ∙ l.invariant.1
