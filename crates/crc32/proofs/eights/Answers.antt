use mathlib.Core.Path.{◌≡◌, refl}
use Prim.Native.Nat.{ℕ, ◌+◌, ◌*◌}
use native.Mathlib.Omega.{arith}
use lib.ListN.{drop}
use Rattle.crc32_rule.specs.Crc32.{feed}
use Rattle.crc32.proofs.Feed.{done, eight-more}
use Rattle.crc32.proofs.eights.Goals as goal

pub loop-k-init : goal.loop-k-init
loop-k-init c = refl

pub loop-k-preserved : goal.loop-k-preserved
loop-k-preserved c =
    let l = c.loop-k in
    let k = l.k in
    let a = c.args in
    let known = c.type_inv.s in
    let e : 8 * (k + 1) ≡ 8 * k + 8 = omega arith in
    rw e (eight-more a.s.now (8 * k) l.r _ _ _ (λ j. (known j).fits) (omega arith) c.number-v.ensures c.eight-r.ensures l.invariant)

pub returns : goal.returns
returns c =
    let l = c.loop-k in
    done _ (8 * l.k) l.r _ (omega arith) (omega arith) l.invariant
