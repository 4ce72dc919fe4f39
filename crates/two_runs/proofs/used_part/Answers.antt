use mathlib.Core.Path.{◌≡◌, refl, sym, ap, ◌∙◌}
use mathlib.Core.Bool.{Bool, cond}
use Prim.Native.Nat.{◌+◌, ◌-◌}
use native.Mathlib.Omega.{arith}
use Rattle.buffer.specs.Bytes.{zeros}
use Rattle.block.specs.Log.{used_of, used}
use Rattle.two_runs.proofs.Used.{used-last}
use Rattle.two_runs.proofs.used_part.Goals as goal

pub loop-n-init : goal.loop-n-init
unfolding used
loop-n-init c = refl

pub returns-then-not-is_zero : goal.returns-then-not-is_zero
returns-then-not-is_zero c =
    let log = c.args.log.now in
    let l = c.loop-n in
    let n = l.n in
    let e : n - 1 + 1 ≡ n = omega arith in
    let z = sym (ap zeros c.sector_of.ensures) ∙ sym c.is_zero.ensures ∙ c.if-not-is_zero.true in
    e ∙ sym (used-last log n (omega arith) ∙ ap (λ (b : Bool). cond b (used_of log (n - 1)) n) z) ∙ l.invariant

pub loop-n-preserved : goal.loop-n-preserved
loop-n-preserved c =
    let log = c.args.log.now in
    let l = c.loop-n in
    let n = l.n in
    let z = sym (ap zeros c.sector_of.ensures) ∙ sym c.is_zero.ensures ∙ c.if-not-is_zero.false in
    sym (used-last log n (omega arith) ∙ ap (λ (b : Bool). cond b (used_of log (n - 1)) n) z) ∙ l.invariant

pub returns : goal.returns
unfolding used_of
returns c =
    let l = c.loop-n in
    let z : l.n ≡ 0 = omega arith in rw z at l.invariant
