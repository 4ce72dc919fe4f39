use mathlib.Core.Path.{refl}
use Prim.Native.Nat.{◌*◌}
use native.Mathlib.Omega.{arith}
use lib.ListN.{length-set}
use Rattle.hexadecimal.specs.Hex.{hex_bytes}
use Rattle.hexadecimal.proofs.Turns.{bytes_turn, front-end}
use Rattle.hexadecimal.proofs.put_hex_bytes.Goals as goal

pub loop-i-init : goal.loop-i-init
loop-i-init c = refl

pub digit_char-requires : goal.digit_char-requires
digit_char-requires c = omega (arith, c.type_inv.b c.loop-i.i)

pub bounds-d-i-in-loop-i : goal.bounds-d-i-in-loop-i
bounds-d-i-in-loop-i c = simp length-set (omega arith)

pub loop-i-preserved : goal.loop-i-preserved
loop-i-preserved c =
    let l = c.loop-i in
    rw (c.digit_char.ensures, c.digit_char-in-loop-i.ensures)
    (bytes_turn _ _ _ l.i (omega arith) c.loop-i-test.true (c.type_inv.b l.i).fits l.invariant)

pub returns : goal.returns
unfolding hex_bytes
returns c = let l = c.loop-i in front-end hex_bytes refl _ _ _ (2 * l.i) l.i (omega arith) c.loop-i-test.false l.invariant
