-- Damage that there is: a sector of any log on which nothing waits with one byte in it, or a log as it was.
use mathlib.Core.Path.{◌≡◌, refl, sym, ap, ◌∙◌}
use mathlib.Core.Bool.{true, false, cond, true≢false, false≢true}
use mathlib.Core.List.{List, [], ◌∷◌, Memᴰ}
use mathlib.Core.Logic.{◌≢◌, ◌⊎◌, inl, inr}
use Prim.Native.Nat.{ℕ, ◌-◌, ◌<◌}
use native.Mathlib.Omega.{arith}
use lib.Dec.{eqb}
use lib.ListN.{length, replicate}
use borrow.Author.Tests.{eqb-true, eq-eqb}
use Rattle.bedrock.proofs.Choices.{or_none}
use Rattle.buffer.specs.Bytes.{Bytes, zeros}
use Rattle.sector.specs.Sector.{fits, check, blank}
use Rattle.block.specs.Block.{Row, valid}
use Rattle.block.specs.Log.{sectors, at}
use Rattle.block.proofs.At.{length-blank, blank-is}
use Rattle.block.proofs.Image.{image-length, image-fits}
use Rattle.sector_log.specs.Parts.{Lent, one_log}
use Rattle.ledger.specs.Ledger.{has}
use Rattle.ledger.specs.History.{Damage}
use Rattle.ledger.specs.Reflects.{cell}
use Rattle.ledger.proofs.Cells.{cell_cases, Held}
use Rattle.demands.specs.Ledger.{Extent}
use Rattle.demands.specs.Instance.{extent_of, archive}
use Rattle.promises.specs.Histories.{NothingWaits}
use Rattle.witnesses.proofs.Splice.{splice, length_splice, with_log, rests_with, extent_with, at_spliced}

-- a blank sector with a byte 1 at its front: it does not fit, and is not blank
pub marred : Bytes
marred = 1 ∷ replicate 511 0

pub length_marred : length marred ≡ 512
unfolding marred
length_marred = refl

pub marred_unfit : fits marred ≡ false
unfolding marred fits check
marred_unfit = refl

pub marred_used : zeros marred ≡ false
unfolding marred
marred_used = refl

-- the one number of a list
pub only : (n m : ℕ) → has m (n ∷ []) ≡ true → m ≡ n
only n m e = eqb-true m n (sym (or_none (eqb m n)) ∙ e)

pub not-only : (n m : ℕ) → has m (n ∷ []) ≡ false → eqb m n ≡ false
not-only n m e = sym (or_none (eqb m n)) ∙ e

-- a log with nothing waiting that holds these sectors, in which one is marred, or none
module _ (clean : ℕ → Bytes) (x : Extent) (L : Lent) (size : extent_of L ≡ x) (alike : (k : ℕ) → at (one_log L) k ≡ clean k) (rests : NothingWaits L) where
  pub damage-none : Damage archive clean x [] L
  damage-none = record {
    size = size;
    inside = λ k e. absurd (false≢true e);
    others = λ k e. alike k;
    differs = λ k e. absurd (false≢true e);
    shows = λ k e. absurd (false≢true e);
    marked = λ k e. absurd (false≢true e);
    none-waits = rests;
  }

  pub damage-one : (n : ℕ) → n < sectors x.size → clean n ≢ marred → Damage archive clean x (n ∷ []) (with_log (splice n marred L.log) L)
  damage-one n h d = record {
    size = extent_with L rests (splice n marred L.log) (length_splice n marred L.log inside length_marred) ∙ size;
    inside = λ k e. rw (only n k e) h;
    others = λ k e. here k ∙ rw (not-only n k e) (alike k);
    differs = λ k e z. d (ap clean (sym (only n k e)) ∙ sym z ∙ this k e);
    shows = λ k e. inl (ap fits (this k e) ∙ marred_unfit);
    marked = λ k e. ap zeros (this k e) ∙ marred_used;
    none-waits = rests_with L rests (splice n marred L.log);
  }
    where
      inside : n < sectors (length L.log)
      inside = omega (arith, h, ap (λ (y : Extent). y.size) size)

      hurt : Lent
      hurt = with_log (splice n marred L.log) L

      here : (k : ℕ) → at (one_log hurt) k ≡ cond (eqb k n) marred (at (one_log L) k)
      here k = at_spliced L rests n marred inside length_marred k

      this : (k : ℕ) → has k (n ∷ []) ≡ true → at (one_log hurt) k ≡ marred
      this k e = here k ∙ rw (eq-eqb k n (only n k e))

-- what rows put in a sector has its length, and is not marred
module _ (rows : List Row) (ok : (r : Row) → Memᴰ r rows → valid r ≡ true) where
  pub length-cell : (n : ℕ) → length (cell archive rows n) ≡ 512
  length-cell n = go (cell_cases archive rows n)
    where
      go : (cell archive rows n ≡ blank) ⊎ Held archive rows n → length (cell archive rows n) ≡ 512
      go (inl e) = ap length e ∙ length-blank
      go (inr k) = ap length k.3 ∙ image-length k.0 (n - k.0.first) (ok k.0 k.1)

  pub cell-sound : (n : ℕ) → cell archive rows n ≢ marred
  cell-sound n e = go (cell_cases archive rows n)
    where
      go : (cell archive rows n ≡ blank) ⊎ Held archive rows n → ⊥
      go (inl q) = true≢false (sym blank-is ∙ ap zeros (sym q ∙ e) ∙ marred_used)
      go (inr k) = true≢false (sym (image-fits k.0 (n - k.0.first) (ok k.0 k.1)) ∙ ap fits (sym k.3 ∙ e) ∙ marred_unfit)
