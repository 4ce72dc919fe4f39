-- Damage: each kind leaves the changed sectors doubtful.
use mathlib.Core.Path.{◌≡◌, refl, sym, ◌∙◌}
use mathlib.Core.Bool.{Bool, true, false}
use mathlib.Core.List.{List, Memᴰ}
use mathlib.Core.Logic.{◌⊎◌, inl, inr}
use Prim.Native.Nat.{ℕ, ◌-◌}
use native.Mathlib.Omega.{arith}
use Rattle.ledger.specs.Archive.{Archive}
use Rattle.ledger.specs.Ledger.{has}
use Rattle.ledger.specs.Lawful.{Lawful}
use Rattle.ledger.specs.History.{Damage, Zeroing, Harm}
use Rattle.ledger.specs.Reflects.{cell}
use Rattle.ledger.proofs.Covers.{covers-reads}
use Rattle.ledger.proofs.Cells.{cell_cases, Held}
use Rattle.ledger.proofs.Doubt.{unfit-doubtful}

module _ (A : Archive) (W : Lawful A) where
  open A use {Log, Extent, Sector, at, blank, is_blank, fits, Near, Row, first, valid}
  open W use {lt_used, image_near, blank_near, zeros-unfit}

  -- only what stood in each sector counts
  pub zeroing_over : (clean same : ℕ → Sector) (x : Extent) (cs : List ℕ) (hurt : Log) → ((n : ℕ) → clean n ≡ same n) → Zeroing A clean x cs hurt → Zeroing A same x cs hurt
  zeroing_over clean same x cs hurt alike D = record {
    size = D.size;
    inside = D.inside;
    others = λ n e. D.others n e ∙ alike n;
    differs = λ n e z. D.differs n e (z ∙ sym (alike n));
    shows = λ n e. rw (← alike n) (D.shows n e);
    within-used = D.within-used;
    none-waits = D.none-waits;
  }

  -- damage that shows, to what rows put in each sector, leaves each changed sector doubtful
  module _ (rows : List Row) (x : Extent) (cs : List ℕ) (hurt : Log) (ok : (r : Row) → Memᴰ r rows → valid r ≡ true) (D : Zeroing A (cell A rows) x cs hurt) where
    pub zeroing_unfit : (n : ℕ) → has n cs ≡ true → fits (at hurt n) ≡ false
    zeroing_unfit n e = go (D.shows n e) (cell_cases A rows n)
      where
        low : cell A rows n ≡ blank → Near (cell A rows n) (at hurt n) → (b : Bool) → is_blank (at hurt n) ≡ b → fits (at hurt n) ≡ false
        low c w true q = zeros-unfit (at hurt n) q
        low c w false q = blank_near (at hurt n) (rw c at w) q

        go : (fits (at hurt n) ≡ false) ⊎ Near (cell A rows n) (at hurt n) → (cell A rows n ≡ blank) ⊎ Held A rows n → fits (at hurt n) ≡ false
        go (inl u) c = u
        go (inr w) (inl c) = low c w (is_blank (at hurt n)) refl
        go (inr w) (inr h) =
            let b = covers-reads A h.0 n h.2 in
            image_near h.0 (n - first h.0) (at hurt n) (ok h.0 h.1) (omega arith) (rw h.3 at w) (λ z. D.differs n e (z ∙ sym h.3))

    pub zeroing_harm : Harm A (cell A rows) x cs hurt
    zeroing_harm = record {
      size = D.size;
      inside = D.inside;
      others = D.others;
      doubtful = λ n e. unfit-doubtful A W hurt n (D.within-used n e) (zeroing_unfit n e);
      none-waits = D.none-waits;
    }

  -- damage with a mark in each changed sector leaves them in the used part
  pub damage_zeroing : (clean : ℕ → Sector) (x : Extent) (cs : List ℕ) (hurt : Log) → Damage A clean x cs hurt → Zeroing A clean x cs hurt
  damage_zeroing clean x cs hurt D = record {
    size = D.size;
    inside = D.inside;
    others = D.others;
    differs = D.differs;
    shows = D.shows;
    within-used = λ n e. lt_used hurt n (D.marked n e);
    none-waits = D.none-waits;
  }
