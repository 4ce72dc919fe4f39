use mathlib.Core.Path.{◌≡◌, ap₂, ◌∙◌}
use Prim.Native.Nat.{ℕ, ◌+◌, ◌-◌, ◌*◌, ◌/◌}
use native.Mathlib.Omega.{arith}
use lib.Bits.{bit_xor}
use Rattle.crc32_rule.specs.Crc32.{bits}
use Rattle.crc32_steps.proofs.Digits.{digit_beside, none_beside}
use Rattle.crc32_steps.proofs.divide.Goals as goal

pub loop-j-init : goal.loop-j-init
loop-j-init c = λ b e. none_beside (b + 64 - 4 * 16) c.args.x c.args.c (omega arith)

pub loop-j-preserved : goal.loop-j-preserved
loop-j-preserved c =
    let l = c.loop-j in
    let a = c.args in
    λ b e. digit_beside a.t.now b a.x l.j a.c l.r _ e (omega arith) (omega arith) (omega arith) (l.invariant b e)

pub returns : goal.returns
returns c b e =
    let l = c.loop-j in
    let z : l.j ≡ 0 = omega arith in
    let a = c.args in
    let n : b + 64 - 0 ≡ b + 64 = omega arith in
    let x : a.x / 1 ≡ a.x = omega arith in
    (rw z at (l.invariant b e)) ∙ ap₂ (λ (k y : ℕ). bit_xor a.c (bits k y)) n x
