use mathlib.Core.Path.{◌≡◌, refl}
use Prim.Native.Nat.{ℕ, ◌+◌, ◌*◌}
use native.Mathlib.Omega.{arith}
use lib.ListN.{drop}
use Rattle.crc32_rule.specs.Crc32.{feed}
use Rattle.crc32.proofs.Feed.{done, sixteen-more}
use Rattle.crc32.proofs.sixteens.Goals as goal

pub loop-k-init : goal.loop-k-init
loop-k-init c = refl

pub loop-k-preserved : goal.loop-k-preserved
loop-k-preserved c =
    let l = c.loop-k in
    let k = l.k in
    let a = c.args in
    let known = c.type_inv.s in
    let e : 16 * (k + 1) ≡ 16 * k + 16 = omega arith in
    rw e (sixteen-more a.s.now (16 * k) l.r _ _ _ _ (λ j. (known j).fits) (omega arith) c.number-first.ensures c.number-last.ensures
    c.sixteen-r.ensures l.invariant)

pub returns : goal.returns
returns c =
    let l = c.loop-k in
    done _ (16 * l.k) l.r _ (omega arith) (omega arith) l.invariant
