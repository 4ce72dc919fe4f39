use mathlib.Core.Path.{◌≡◌, refl}
use mathlib.Core.List.{append-nil}
use native.Mathlib.Omega.{arith}
use lib.Seq.{drop-length}
use Rattle.hexadecimal.specs.Hex.{digit_char, hex}
use Rattle.digits.proofs.Turns.{fill_turn}
use Rattle.hexadecimal.proofs.put_hex.Goals as goal

pub loop-i-init : goal.loop-i-init
loop-i-init c = rw (drop-length, append-nil)

pub loop-i-preserved : goal.loop-i-preserved
unfolding hex
loop-i-preserved c =
    let l = c.loop-i in
    rw c.digit_char.ensures
    (fill_turn 16 digit_char hex (λ w n. refl) _ _ l.i l.rest c.loop-i-test.true (omega arith) l.invariant)

pub returns : goal.returns
unfolding hex
returns c =
    let l = c.loop-i in
    let z : l.i ≡ 0 = omega arith in
    rw z at l.invariant
