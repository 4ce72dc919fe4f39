-- The sector that a refusal tells of lies in the log, or just behind it.
use mathlib.Core.Path.{◌≡◌, refl, sym}
use mathlib.Core.Bool.{true}
use mathlib.Core.List.{List}
use Prim.Native.Nat.{ℕ, zero, suc, ◌+◌, ◌≤◌}
use native.Mathlib.Omega.{arith}
use lib.Dec.{eqb}
use lib.ListN.{length}
use Rattle.bedrock.proofs.Choices.{cond_ind}
use Rattle.buffer.specs.Bytes.{Bytes}
use Rattle.refusal.specs.Number.{told_sector}
use Rattle.refusal.specs.declared.Refusal.{Refusal}
use Rattle.block.specs.Block.{Row}
use Rattle.block.specs.Log.{sectors, used}
use Rattle.block.proofs.Used.{used_le_sectors}
use Rattle.block.proofs.Joined.{sectors-joined}
use Rattle.sector_log.specs.Parts.{tape}
use Rattle.lookup.proofs.Outcomes.{lent-sectors}
use Rattle.sector_log.specs.LookUp.{blocks, in_block, first_outside, first_doubtful, doubtful, absence, lent_allowed}
use Rattle.results.specs.Sizes.{most_both}

first-outside_le : (rows : List Row) (k n : ℕ) → first_outside rows k n ≤ n + k
unfolding first_outside
first-outside_le rows zero n = omega arith
first-outside_le rows (suc k) n =
    cond_ind (λ (x : ℕ). x ≤ n + suc k) (in_block rows n) _ _ (λ _. omega (arith, first-outside_le rows k (suc n))) (λ _. omega arith)

pub absence-told : (m : ℕ) (log : Bytes) → sectors (length log) ≤ m → told_sector (absence log) ≤ m
unfolding absence first_doubtful
absence-told m log h =
    cond_ind (λ (w : Refusal). told_sector w ≤ m) (eqb (doubtful log) 0) _ _ (λ _. omega arith)
    (λ _. omega (arith, first-outside_le (blocks log) (used log) 0, used_le_sectors log))

-- a log and a waiting part that are allowed have no more than the most sectors of both
pub both_few : (log waiting : Bytes) → lent_allowed (length log) (length waiting) ≡ true → sectors (length (tape log waiting)) ≤ most_both
both_few log waiting e =
    let few = lent-sectors (length log) (length waiting) true (sym e) refl in
    omega (arith, few.0, few.1, sectors-joined (used log) log waiting (used_le_sectors log), used_le_sectors log)
