-- What a comparison counts and spends is bounded.
use mathlib.Core.Bool.{Bool, ◌&&◌}
use Prim.Native.Nat.{ℕ, ◌+◌}
use native.Mathlib.Omega.{arith}
use lib.Dec.{ltb}
use lib.ListN.{length}
use Rattle.bedrock.proofs.Choices.{cond_ind}
use Rattle.buffer.specs.Bytes.{Bytes}
use Rattle.sector_log.specs.LookUp.{lent_allowed}
use Rattle.sector_log.specs.Parts.{tape}
use Rattle.walk.specs.Walk.{most_allowance}
use Rattle.comparison.specs.Differences.{directory_allowed, differences_in}
use Rattle.comparison.proofs.Bounds.{Within, entries-within}
use Rattle.compare_laws.specs.Bounds.{Bounded}

bounded_in : (lent : Bool) (log x y : Bytes) (n : ℕ) → Within n 1 (differences_in lent log x y n)
unfolding differences_in
bounded_in lent log x y n =
    cond_ind (Within n 1) lent _ _
    (λ l. cond_ind (Within n 1) (ltb most_allowance n) _ _ (λ a. (omega arith, omega arith))
    (λ a. cond_ind (Within n 1) (directory_allowed x && directory_allowed y) _ _ (λ e. entries-within (n + 1) log 0 x y n) (λ e. (omega arith, omega arith))))
    (λ l. (omega arith, omega arith))

pub bounded : Bounded
bounded log waiting x y n = bounded_in (lent_allowed (length log) (length waiting)) (tape log waiting) x y n
