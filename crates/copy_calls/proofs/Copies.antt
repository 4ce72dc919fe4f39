-- A copy visits no more than the walk, and the sector that it tells of is the walk's.
use mathlib.Core.Path.{◌≡◌, refl, sym, ap, ap₂, subst, ◌∙◌}
use mathlib.Core.Logic.{inl, inr}
use Prim.Native.Nat.{ℕ, ◌+◌, ◌*◌, ◌≤◌}
use native.Mathlib.Omega.{arith}
use lib.ListN.{length}
use Rattle.buffer.specs.Bytes.{Bytes}
use Rattle.sector_log.specs.Parts.{tape}
use Rattle.visit.specs.declared.Walked.{Walked}
use Rattle.visit.specs.Visit.{end_number}
use Rattle.walk.specs.Walk.{most_allowance, walk_of}
use Rattle.copying.specs.Copy.{Copied, copied, copy_allowed, copy_of}
use Rattle.copying.specs.Promises.{OfSecond, AsWalk}
use Rattle.copying.proofs.Promised.{Tested, failed, passed, tested, copy_is-walk}
use Rattle.results.specs.Sizes.{most_both}
use Rattle.walk_calls.specs.Walked.{end_sector}
use Rattle.copy_calls.specs.Copies.{transfer, copy_result, CopyUnpacks}
use Rattle.walk_calls.proofs.Visits.{Within, walk-within}
use Rattle.walk_calls.proofs.Unpacked.{walked_back}
use Rattle.std.specs.Prelude.{Result, ⊤}
use Rattle.refusal.specs.declared.Refusal.{Refusal}

-- 14 and 15 tell of no sector
none_told : (e : Result ⊤ Refusal) → OfSecond e → end_sector e ≤ most_both
none_told e (inl p) = rw p (omega arith)
none_told e (inr p) = rw p (omega arith)

as_walk-within : (c : Copied) (w : Walked) → Within most_allowance w → AsWalk c w → Within most_allowance c.answer
as_walk-within c w h (inl p) = rw p h
as_walk-within c w h (inr o) = record { few = omega (arith, o.1, h.few); told = none_told c.answer.end o.0 }

module _ (log waiting date score second : Bytes) (n : ℕ) where
  copy_within : Within most_allowance (copy_of log waiting date score second n).answer
  copy_within = go (tested (tape log waiting) date score n second (copy_allowed (length log) (length waiting) (length second)))
    where
      go : Tested (copy_allowed (length log) (length waiting) (length second)) (tape log waiting) date score n second (copy_of log waiting date score second n)
          → Within most_allowance (copy_of log waiting date score second n).answer
      go (failed why t _ e) =
          subst (λ (c : Copied). Within most_allowance c.answer) (sym e) (record { few = omega arith; told = rw t (omega arith) })
      go (passed l d a e) =
          as_walk-within (copy_of log waiting date score second n) (walk_of log waiting score n) (walk-within log waiting score n).1
          (copy_is-walk log waiting date score second n l d)

  -- of the code's answer
  pub copy_small : (w : Walked) (s : Bytes) → copied w s ≡ copy_of log waiting date score second n → Within most_allowance w
  copy_small w s e = subst (λ (c : Copied). Within most_allowance c.answer) (sym e) copy_within

pub copied_so : (w : Walked) (c : Copied) (s : Bytes) (k t : ℕ) → copied w s ≡ c → k ≡ end_number w.end → t ≡ end_sector w.end
    → transfer (k + 256 * (w.visits + 1048576 * t)) s ≡ copy_result c
copied_so w c s k t e f g =
    ap₂ (λ (x y : ℕ). transfer (x + 256 * (w.visits + 1048576 * y)) s) f g ∙ ap copy_result e

pub copy_unpacks : CopyUnpacks
copy_unpacks log waiting date score second allowance =
    let c = copy_of log waiting date score second allowance in
    let b = walked_back c.answer (copy_within log waiting date score second allowance).few in
    (b.0, b.1, b.2, refl)
