use mathlib.Core.Path.{refl}
use Prim.Native.Nat.{◌+◌, ◌*◌}
use native.Mathlib.Omega.{arith}
use Rattle.hexadecimal.specs.Hex.{read_bytes}
use Rattle.hexadecimal.proofs.Turns.{hex-at, pairs_turn, front-end}
use Rattle.hexadecimal.proofs.fill_bytes.Goals as goal

pub loop-i-init : goal.loop-i-init
loop-i-init c = refl

pub overflow_mul-d : goal.overflow_mul-d
overflow_mul-d c =
    let i = c.loop-i.i in
    omega (arith, c.char_digit.ensures, hex-at c.args.s.now (2 * i) c.requires.1 (omega arith))

pub overflow_add-d : goal.overflow_add-d
overflow_add-d c =
    let i = c.loop-i.i in
    let high = hex-at c.args.s.now (2 * i) c.requires.1 (omega arith) in
    let low = hex-at c.args.s.now (2 * i + 1) c.requires.1 (omega arith) in
    omega (arith, c.char_digit.ensures, c.char_digit-in-loop-i.ensures, high, low)

pub loop-i-preserved : goal.loop-i-preserved
loop-i-preserved c =
    let l = c.loop-i in
    rw (c.char_digit.ensures, c.char_digit-in-loop-i.ensures)
    (pairs_turn _ _ _ l.i (omega arith) (omega arith) l.invariant)

pub returns : goal.returns
unfolding read_bytes
returns c = let l = c.loop-i in front-end read_bytes refl _ _ _ l.i (2 * l.i) (omega arith) (omega arith) l.invariant
