use mathlib.Core.Path.{◌≡◌, refl, ap, ◌∙◌}
use Prim.Native.Nat.{ℕ, ◌+◌, ◌-◌, ◌/◌, ◌^◌}
use native.Mathlib.Omega.{arith}
use Rattle.way_down.proofs.Digits.{digit_next, digit_end}
use Rattle.way_down.proofs.digit.Goals as goal

pub loop-init : goal.loop-init
loop-init c =
    let a = c.args in
    let e : a.d - 0 ≡ a.d = omega arith in
    ap (λ (k : ℕ). a.n / a.p ^ k) e

pub loop-preserved : goal.loop-preserved
loop-preserved c =
    let l = c.loop in
    let a = c.args in
    let k = a.d - l.counter in
    let e : a.d - (l.counter + 1) ≡ k - 1 = omega arith in
    ap (λ (j : ℕ). l.rest / a.p / a.p ^ j) e ∙ digit_next l.rest a.p k (omega (arith, c.loop-test.true)) ∙ l.invariant

pub returns : goal.returns
returns c =
    let l = c.loop in
    digit_end l.rest c.args.p (c.args.d - l.counter) _ (omega (arith, c.loop-test.false)) l.invariant
