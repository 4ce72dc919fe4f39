use mathlib.Core.Path.{◌≡◌, sym, ap, ◌∙◌}
use Prim.Native.Nat.{ℕ, ◌+◌, ◌-◌, ◌*◌}
use native.Mathlib.Omega.{arith}
use lib.ListN.{take, drop}
use Rattle.block.proofs.At.{at_piece}
use Rattle.two_runs.proofs.sector_of.Goals as goal

pub returns : goal.returns
returns c =
    let a = c.args in
    let p = c.requires in
    let log = a.log.now in
    let n = a.n.0 in
    let w : 512 * n + 512 - 512 * n ≡ 512 = omega arith in
    ap (λ (k : ℕ). take k (drop (512 * n) log)) w ∙ sym (at_piece log n (p))
