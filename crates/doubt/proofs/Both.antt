-- The first u sectors of a log and those of a waiting part: where their used part ends; and the border.
use mathlib.Core.Path.{◌≡◌, refl, sym, ap, ◌∙◌}
use mathlib.Core.Bool.{Bool, true, false}
use mathlib.Core.List.{[], append-nil}
use Prim.Native.Nat.{ℕ, zero, suc, ◌+◌, ◌-◌, ◌*◌, ◌≤◌, ◌<◌}
use native.Mathlib.Nat.{le_antisymm}
use native.Mathlib.Omega.{arith}
use lib.Dec.{ltb}
use borrow.Author.Tests.{ltb-true, ltb-false}
use lib.ListN.{length, take, length-take}
use Rattle.buffer.specs.Bytes.{Bytes, zeros}
use Rattle.block.specs.Log.{sectors, at, Alike, joined, used_of, used}
use Rattle.block.proofs.Used.{lt_used, used_le, used_le_sectors, at-used, blank-past, at-beyond}
use Rattle.block.proofs.Joined.{at-log, at-waiting, at-alone, used-joined}
use Rattle.block.proofs.Alike.{used-alike}
use Rattle.sector_log.specs.Parts.{tape}

module _ (u : ℕ) (log waiting : Bytes) (h : u ≤ sectors (length log)) where
  both : Bytes
  both = joined u log waiting

  least : used both ≤ u + used waiting
  unfolding both
  least = used_le both (u + used waiting) (λ n g. ap zeros (at-waiting u log waiting h n (omega arith)) ∙ blank-past waiting (n - u) (omega arith))

  most : (w : ℕ) → used waiting ≡ w → 0 < w → u + w ≤ used both
  unfolding both
  most zero q p = absurd (omega arith)
  most (suc w) q p =
      let e : u + w - u ≡ w = omega arith in
      let s : zeros (at both (u + w)) ≡ false = ap zeros (at-waiting u log waiting h (u + w) (omega arith) ∙ ap (at waiting) e) ∙ at-used waiting w q in
      omega (arith, lt_used both (u + w) s)

  -- a waiting sector is used: the used part ends there
  pub used-waits : (w : ℕ) → w ≡ used waiting → (w ≡ 0 → ⊥) → u + w ≡ used (joined u log waiting)
  unfolding both
  used-waits w e p = let q : used waiting ≡ w = sym e in le_antisymm (most w q (omega arith)) (omega (arith, least))

  -- none is: it ends among the log's sectors
  pub used-front : (w : ℕ) → w ≡ used waiting → w ≡ 0 → used (take (512 * u) log) ≡ used (joined u log waiting)
  unfolding both joined used used_of
  used-front w e p = ap used (sym (append-nil (take (512 * u) log))) ∙ used-alike (joined u log []) both same
    where
      same : Alike (joined u log []) both
      same n = go (ltb n u) refl
        where
          go : (b : Bool) → ltb n u ≡ b → at (joined u log []) n ≡ at both n
          go true q = let g = ltb-true n u q in at-log u log [] h n g ∙ sym (at-log u log waiting h n g)
          go false q =
              let g = ltb-false n u q in
              at-waiting u log [] h n g ∙ at-beyond [] (n - u) (omega arith) ∙ sym (at-waiting u log waiting h n g ∙ at-beyond waiting (n - u) (omega arith))

-- the border from which the waiting sectors are read on: the end of the used part, or nothing waits and it is behind it
module _ (log waiting : Bytes) (u : ℕ) (h : u ≤ sectors (length log)) (f : Alike (joined u log waiting) (tape log waiting)) where
  same-used : used (joined u log waiting) ≡ used log + used waiting
  same-used = used-alike (joined u log waiting) (tape log waiting) f ∙ used-joined log waiting

  pub border_place : (w : ℕ) → used waiting ≡ w → (used log ≤ u) × (0 < w → u ≡ used log)
  border_place zero q =
      let front : used (take (512 * u) log) ≡ used log = used-front u log waiting h 0 (sym q) refl ∙ same-used ∙ (let z : used log + used waiting ≡ used log = omega arith in z) in
      (omega (arith, front, used_le_sectors (take (512 * u) log), length-take (512 * u) log), λ p. absurd (omega arith))
  border_place (suc w) q =
      let both = used-waits u log waiting h (suc w) (sym q) (λ z. omega arith) in
      let e : u ≡ used log = omega (arith, both, same-used) in
      (omega arith, λ p. e)

  -- so the end of the used part is found among the sectors before it
  pub used-before : used (take (512 * u) log) ≡ used log
  unfolding joined used used_of
  used-before =
      ap used (sym (append-nil (take (512 * u) log)))
      ∙ used-alike (joined u log []) log (at-alone u log [] h (border_place (used waiting) refl).0 refl)
