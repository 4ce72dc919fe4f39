-- What is doubtful, after a block is appended.
use mathlib.Core.Path.{◌≡◌, refl, sym, ap, ◌∙◌}
use mathlib.Core.Bool.{Bool, true, false, cond, ◌||◌}
use mathlib.Core.List.{List, [], ◌∷◌, ◌++◌}
use Prim.Native.Nat.{ℕ, ◌+◌, ◌≤◌, ◌<◌}
use native.Mathlib.Nat.{le_antisymm}
use native.Mathlib.Omega.{arith}
use lib.Dec.{eqb, ltb}
use borrow.Author.Tests.{ltb-true, ltb-false}
use Rattle.bedrock.specs.Places.{within}
use Rattle.bedrock.proofs.Choices.{or_right, or_none}
use Rattle.bedrock.proofs.Places.{within_in, within-before}
use Rattle.buffer.specs.Bytes.{Bytes}
use Rattle.sector_number.specs.declared.SectorNumber.{SectorNumber}
use Rattle.refusal.specs.declared.Refusal.TheVariants.{NotHeld, NotKnown}
use Rattle.block.specs.Block.{Row, parts, written}
use Rattle.block.specs.Log.{used}
use Rattle.block.proofs.Apart.{sound-used}
use Rattle.sector_log.specs.LookUp.{blocks, in_block, outside, doubtful, first_doubtful, first_outside, absence}
use Rattle.sector_log.proofs.InBlock.{zero-outside}
use Rattle.sector_log.proofs.FirstDoubt.{first-at, first-end, outside-at, inside-before, absence-known, absence-held}
use Rattle.sector_log.proofs.Written.{new-sound}
use Rattle.sector_log.proofs.Appended.{used_ends, blocks-added}
use Rattle.hint.specs.Promises.{Appends}
use Rattle.known.specs.Known.{doubt_of, missing}
use Rattle.known.specs.Promises.{DoubtWritten, MissingIsAbsence}
use Rattle.std.specs.Prelude.{Some, None}

in_append : (xs : List Row) (r : Row) (n : ℕ) → in_block (xs ++ (r ∷ [])) n ≡ (in_block xs n || within r.first (parts r) n)
unfolding in_block
in_append [] r n = or_none (within r.first (parts r) n)
in_append (x ∷ xs) r n = go (within x.first (parts x) n) (in_append xs r n)
  where
    go : (b : Bool) → in_block (xs ++ (r ∷ [])) n ≡ (in_block xs n || within r.first (parts r) n)
        → (b || in_block (xs ++ (r ∷ [])) n) ≡ ((b || in_block xs n) || within r.first (parts r) n)
    go true e = refl
    go false e = e

-- what is said of a missing block tells the doubt
pub missing-is-absence : MissingIsAbsence
unfolding doubt_of absence
missing-is-absence log = go (eqb (doubtful log) 0)
  where
    go : (b : Bool) → missing (cond b None (Some (record { 0 = first_doubtful log }))) ≡ cond b NotHeld (NotKnown (record { 0 = first_doubtful log }))
    go true = refl
    go false = refl

pub doubt_by_absence : (a b : Bytes) → absence a ≡ absence b → doubt_of a ≡ doubt_of b
unfolding doubt_of absence
doubt_by_absence a b e = go (eqb (doubtful a) 0) (eqb (doubtful b) 0) e
  where
    x : SectorNumber
    x = record { 0 = first_doubtful a }

    y : SectorNumber
    y = record { 0 = first_doubtful b }

    go : (p q : Bool) → cond p NotHeld (NotKnown x) ≡ cond q NotHeld (NotKnown y) → cond p None (Some x) ≡ cond q None (Some y)
    go true true d = refl
    go true false d = let z : ◌≡◌ {A = ℕ} 0 1 = cc in absurd (omega arith)
    go false true d = let z : ◌≡◌ {A = ℕ} 0 1 = cc in absurd (omega arith)
    go false false d = let z : x ≡ y = cc in ap Some z

module _ (log : Bytes) (r : Row) (a : Appends log r) where
  abbrev W : Bytes
  W = written log r

  pub used-written : used W ≡ r.first + parts r
  used-written = le_antisymm (used_ends log r a.0 a.1 a.2) (sound-used W r.first r (new-sound log r a.0 a.1 a.2))

  in_new : (n : ℕ) → in_block (blocks W) n ≡ (in_block (blocks log) n || within r.first (parts r) n)
  in_new n = ap (λ (rows : List Row). in_block rows n) (blocks-added log r a.0 a.1 a.2) ∙ in_append (blocks log) r n

  in_old : (n : ℕ) → n < used log → in_block (blocks W) n ≡ in_block (blocks log) n
  in_old n h =
      in_new n ∙ ap (λ (b : Bool). in_block (blocks log) n || b) (within-before r.first (parts r) n (omega (arith, a.1))) ∙ or_none (in_block (blocks log) n)

  in_row : (n : ℕ) → used log ≤ n → n < used W → in_block (blocks W) n ≡ true
  in_row n h i = in_new n ∙ or_right (in_block (blocks log) n) (within r.first (parts r) n) (within_in r.first (parts r) n (omega (arith, a.1)) (omega (arith, used-written)))

  -- the first doubtful sector, else the end
  abbrev f : ℕ
  f = first_outside (blocks log) (used log) 0

  absence-written : absence W ≡ absence log
  unfolding first_doubtful
  absence-written = go (ltb f (used log)) refl
    where
      before : (n : ℕ) → n < f → n < used log → in_block (blocks W) n ≡ true
      before n h i = in_old n i ∙ inside-before (blocks log) (used log) 0 n (omega arith) h

      go : (b : Bool) → ltb f (used log) ≡ b → absence W ≡ absence log
      go true q =
          let h : f < used log = ltb-true f (used log) q in
          let out : in_block (blocks W) f ≡ false = in_old f h ∙ outside-at (blocks log) (used log) 0 (omega arith) in
          let z : outside (blocks W) f ≡ 0 = zero-outside (blocks W) f (λ n i. before n i (omega arith)) in
          let u : f < used W = omega (arith, h, used-written, a.1) in
          let e : first_doubtful W ≡ f = first-at W f z u out in
          absence-known W (omega (arith, e, u)) ∙ ap (λ (n : ℕ). NotKnown (record { 0 = n })) e ∙ sym (absence-known log h)
      go false q =
          let h : used log ≤ f = ltb-false f (used log) q in
          let z : outside (blocks W) (used W) ≡ 0 = zero-outside (blocks W) (used W) (λ n i. each n i (ltb n (used log)) refl) in
          let e : first_doubtful W ≡ used W = first-end W (used W) z (omega arith) in
          absence-held W (omega (arith, e)) ∙ sym (absence-held log h)
        where
          each : (n : ℕ) → n < used W → (b : Bool) → ltb n (used log) ≡ b → in_block (blocks W) n ≡ true
          each n i true p = let k = ltb-true n (used log) p in let h : used log ≤ f = ltb-false f (used log) q in before n (omega arith) k
          each n i false p = in_row n (ltb-false n (used log) p) i

pub doubt-written : DoubtWritten
doubt-written log r a = doubt_by_absence (written log r) log (absence-written log r a)
