use mathlib.Core.Path.{◌≡◌, refl}
use mathlib.Core.List.{append-nil}
use Prim.Native.Nat.{ℕ}
use native.Mathlib.Omega.{arith}
use lib.Seq.{drop-length}
use Rattle.digits.specs.Number.{digits}
use Rattle.digits.proofs.Turns.{fill_turn}
use Rattle.digits.proofs.put_be.Goals as goal

pub loop-i-init : goal.loop-i-init
loop-i-init c = rw (drop-length, append-nil)

pub loop-i-preserved : goal.loop-i-preserved
unfolding digits
loop-i-preserved c =
    let l = c.loop-i in
    fill_turn 256 (λ (x : ℕ). x) (digits 256) (λ w n. refl) _ _ l.i l.rest c.loop-i-test.true (omega arith) l.invariant

pub returns : goal.returns
unfolding digits
returns c =
    let l = c.loop-i in
    let z : l.i ≡ 0 = omega arith in
    rw z at l.invariant
