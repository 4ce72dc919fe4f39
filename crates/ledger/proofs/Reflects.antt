-- What follows from the invariant: the log's sound blocks are the intact rows, its used part ends at the end.
use mathlib.Core.Path.{◌≡◌, refl, sym, ap, ◌∙◌}
use mathlib.Core.Bool.{Bool, true, false, true≢false}
use mathlib.Core.List.Memᴰ
use mathlib.Core.List.{Memᴰ}
use mathlib.Core.Option.{some}
use mathlib.Core.Logic.{◌⊎◌, inl, inr}
use Prim.Native.Nat.{ℕ, ◌+◌, ◌-◌, ◌≤◌, ◌<◌}
use native.Mathlib.Nat.{le_antisymm}
use native.Mathlib.Omega.{arith}
use Rattle.bedrock.proofs.Places.{found_in, found_out}
use Rattle.bedrock.proofs.Choices.{false_unless}
use Rattle.ledger.specs.Archive.{Archive}
use Rattle.ledger.specs.Ledger.{has, Ledger, covers, hit, intact, end, blocks}
use Rattle.ledger.specs.Reflects.{cell, Reflects}
use Rattle.ledger.specs.Lawful.{Lawful}
use Rattle.ledger.proofs.Ascending.{ascending_ext}
use Rattle.ledger.proofs.Covers.{covers-reads, covers_in, hit-none, hit-not}
use Rattle.ledger.proofs.Ends.{end_row, end-rows_le, end-changed, end-changed_le}
use Rattle.ledger.proofs.Intact.{intact_in, intact_out, intact_ascends}
use Rattle.ledger.proofs.Cells.{cell_in, cell-blank, cell_cases, Held}
use Rattle.ledger.proofs.Blocks.{blocks_ascend}

module _ (A : Archive) (W : Lawful A) (log : A.Log) (L : Ledger A) (R : Reflects A log L) where
  open A use {at, blank, is_blank, used, Row, first, parts, image, valid, sound}
  open W use {blank-is, lt_used, used_le, parts_pos, image-used, label, sound-reads, sound_finds}

  past_end : (n : ℕ) → end A L ≤ n → has n L.changed ≡ false
  past_end n h = false_unless (has n L.changed) (λ q. omega (arith, end-changed A L.changed n q))

  -- a sector of a row: its part of the image, unless it is changed
  row-cell : (r : Row) (k : ℕ) → Memᴰ r L.rows → k < parts r → has (first r + k) L.changed ≡ false → at log (first r + k) ≡ image r k
  row-cell r k m h c =
      R.plain (first r + k) c
      ∙ cell_in A 0 L.rows r (first r + k) R.apart m (covers_in A r (first r + k) (omega arith) (omega arith))
      ∙ ap (image r) (omega arith)

  row-used : (r : Row) (k : ℕ) → Memᴰ r L.rows → k < parts r → first r + k < used log
  row-used r k m h = go (has (first r + k) L.changed) refl
    where
      go : (b : Bool) → has (first r + k) L.changed ≡ b → first r + k < used log
      go true q = (R.doubt (first r + k) q).0
      go false q = lt_used log (first r + k) (rw (row-cell r k m h q) (image-used r k (R.valids r m) h))

  pub used-end : used log ≡ end A L
  used-end = le_antisymm
      (used_le log (end A L) (λ n h. rw (R.plain n (past_end n h) ∙ cell-blank A L.rows n (omega arith)) blank-is))
      (omega (arith, end-rows_le A L.rows (used log) row, end-changed_le A L.changed (used log) (λ n e. (R.doubt n e).0)))
    where
      row : (r : Row) → Memᴰ r L.rows → first r + parts r ≤ used log
      row r m =
          let p : 0 < parts r = parts_pos r (R.valids r m) in
          omega (arith, row-used r (parts r - 1) m (omega arith))

  -- an intact row is a sound block
  pub row-sound : (r : Row) → Memᴰ r L.rows → hit A L.changed r ≡ false → sound log (first r) ≡ some r
  row-sound r m h = sound_finds log r (R.valids r m)
      (λ k lt. row-cell r k m lt (hit-none A L.changed r (first r + k) h (covers_in A r (first r + k) (omega arith) (omega arith))))

  -- a sound block is an intact row
  pub sound-row : (n : ℕ) (r : Row) → sound log n ≡ some r → Memᴰ r L.rows × (hit A L.changed r ≡ false)
  sound-row n r e = (held (cell_cases A L.rows (n + 0)), hit-not A L.changed r untouched)
    where
      ok : valid r ≡ true
      ok = (sound-reads log n r e).0

      here : first r ≡ n
      here = (sound-reads log n r e).1

      reads : (k : ℕ) → k < parts r → at log (n + k) ≡ image r k
      reads = (sound-reads log n r e).2

      some_part : 0 < parts r
      some_part = parts_pos r ok

      unchanged : (k : ℕ) → k < parts r → has (n + k) L.changed ≡ false
      unchanged k h = false_unless (has (n + k) L.changed) (λ q.
          true≢false (sym (covers_in A r (n + k) (omega (arith, here)) (omega (arith, here))) ∙ (R.doubt (n + k) q).1 n r e))

      shown : (k : ℕ) → k < parts r → cell A L.rows (n + k) ≡ image r k
      shown k h = sym (R.plain (n + k) (unchanged k h)) ∙ reads k h

      untouched : (m : ℕ) → covers A r m ≡ true → has m L.changed ≡ false
      untouched m c =
          let b = covers-reads A r m c in
          let same : n + (m - n) ≡ m = omega (arith, here) in
          rw same at (unchanged (m - n) (omega (arith, here)))

      equal : (s : Row) → Memᴰ s L.rows → covers A s (n + 0) ≡ true → cell A L.rows (n + 0) ≡ image s (n + 0 - first s) → r ≡ s
      equal s m c q =
          let b = covers-reads A s (n + 0) c in
          let t = label r s 0 (n + 0 - first s) ok (R.valids s m) some_part (omega arith) (sym (shown 0 some_part) ∙ q) in
          let f : first s ≡ n = sym t.0 ∙ here in
          let found : sound log (first s) ≡ some s = sound_finds log s (R.valids s m)
          (λ k h. row-cell s k m h (rw f (unchanged k (omega (arith, t.2))))) in
          let both : some r ≡ some s = sym e ∙ ap (sound log) (sym f) ∙ found in
          cc

      held : (cell A L.rows (n + 0) ≡ blank) ⊎ Held A L.rows (n + 0) → Memᴰ r L.rows
      held (inl q) = absurd (true≢false (sym blank-is ∙ ap is_blank (sym q ∙ shown 0 some_part) ∙ image-used r 0 ok some_part))
      held (inr h) = Memᴰ.cast (equal h.0 h.1 h.2 h.3) h.1

  pub blocks-intact : blocks A log ≡ intact A L
  unfolding blocks
  blocks-intact = ascending_ext A 0 (blocks A log) (intact A L) (blocks_ascend A W log (used log) 0)
      (intact_ascends A L.changed 0 L.rows (λ r m. parts_pos r (R.valids r m)) R.apart)
      (λ r m. let s = found_out (sound log) (used log) 0 r m in let p = sound-row s.0 r s.2 in intact_in A L.changed L.rows r p.0 p.1)
      (λ r m. let p = intact_out A L.changed L.rows r m in
      let v : 0 < parts r = parts_pos r (R.valids r p.0) in
      found_in (sound log) (used log) 0 (first r) r (omega arith) (omega (arith, used-end, end_row A L.rows r p.0)) (row-sound r p.0 p.1))
