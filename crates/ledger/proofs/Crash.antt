-- A stop inside a write: what the disk then holds reflects the ledger with the rows that are there, told of the other sectors.
use mathlib.Core.Path.{◌≡◌, refl, sym, ap, ◌∙◌}
use mathlib.Core.Bool.{Bool, true, false, true≢false}
use mathlib.Core.List.{List, ◌++◌, Memᴰ}
use mathlib.Core.Logic.{◌⊎◌, inl, inr}
use Prim.Native.Nat.{ℕ, ◌+◌, ◌-◌, ◌≤◌, ◌<◌}
use native.Mathlib.Omega.{arith}
use lib.Dec.{ltb}
use borrow.Author.Tests.{ltb-true, ltb-false}
use Rattle.bedrock.proofs.Choices.{false_unless, true_unless}
use Rattle.ledger.specs.Archive.{Archive}
use Rattle.ledger.specs.Ledger.{has, has_all, Ledger, enter, covers, covered, end, loose, there, there_rows, crashed, Doubtful}
use Rattle.ledger.specs.Lawful.{Lawful}
use Rattle.ledger.specs.Reflects.{Apart, cell, Reflects, Waits}
use Rattle.ledger.specs.Events.{Crash}
use Rattle.ledger.proofs.Covers.{covers-reads, covers-before}
use Rattle.ledger.proofs.Ends.{end_row, end-last, end-rows_le, end-changed_le}
use Rattle.ledger.proofs.Cells.{cell_in, cell-last, cell_cases, Held}
use Rattle.ledger.proofs.Kept.{has_either, has_neither, all_out, all_in, keep_out, keep_in, keep_apart, keep-cell}
use Rattle.ledger.proofs.Kept.{there_late, there-whole, not-there_late, covered_out, covered_in, loose_out, loose-not}
use Rattle.ledger.proofs.Doubt.{alone_early, alone_late, unfit-doubtful, Lies, doubt-on}
use Rattle.ledger.proofs.Steps.{waits-none, every}
use Rattle.ledger.proofs.Apart.{apart-last}

-- a ledger whose waiting rows are on their way, over the log that they are not yet in: what was settled is there
pub record Pending (A : Archive) (log : A.Log) (L : Ledger A) : Type 0 where
  pub valids : (r : A.Row) → Memᴰ r L.rows → A.valid r ≡ true
  pub owneds : (r : A.Row) → Memᴰ r L.rows → A.owned r ≡ true
  pub apart : Apart A 0 L.rows
  pub room : end A L ≤ A.sectors (A.extent log)
  pub plain : (n : ℕ) → n < L.start → has n L.changed ≡ false → A.at log n ≡ cell A L.rows n
  pub doubt : (n : ℕ) → has n L.changed ≡ true → Doubtful A log n
  pub starts : A.start log ≡ L.start
  pub before : L.start ≤ end A L
  pub split : (r : A.Row) → Memᴰ r L.rows → (A.first r + A.parts r ≤ L.start) ⊎ (L.start ≤ A.first r)
  pub firm : (n : ℕ) → has n L.changed ≡ true → (other : A.Log) → ((m : ℕ) → m < L.start → A.at other m ≡ A.at log m) → n < A.used other

pub pending_all : (A : Archive) (log : A.Log) (L : Ledger A) → Reflects A log L → Waits A log L → Pending A log L
pending_all A log L R S = record {
  valids = R.valids;
  owneds = R.owneds;
  apart = R.apart;
  room = R.room;
  plain = λ n h e. R.plain n e;
  doubt = R.doubt;
  starts = S.starts;
  before = S.before;
  split = S.split;
  firm = S.firm;
}

-- one more row, on its way
pub pending_row : (A : Archive) (W : Lawful A) (log : A.Log) (L : Ledger A) (r : A.Row) → Reflects A log L → Waits A log L → A.valid r ≡ true → end A L ≤ A.first r
    → A.has_room (A.extent log) (A.start log) r ≡ true → A.owned r ≡ true → Pending A log (enter A r L)
pending_row A W log L r R S ok here fit own = record {
  valids = every A W log L r R S ok here fit own (λ s. A.valid s ≡ true) R.valids ok;
  owneds = every A W log L r R S ok here fit own (λ s. A.owned s ≡ true) R.owneds own;
  apart = apart-last A 0 L.rows r R.apart (omega arith) (omega arith);
  room = omega (arith, R.room, W.room-inside (A.extent log) (A.start log) r fit, end-last A L.rows r);
  plain = λ n h e. R.plain n e ∙ sym (cell-last A L.rows r n (omega arith) ∙ rw (covers-before A r n (omega (arith, h, S.before))));
  doubt = R.doubt;
  starts = S.starts;
  before = omega (arith, S.before, end-last A L.rows r);
  split = every A W log L r R S ok here fit own (λ s. (A.first s + A.parts s ≤ L.start) ⊎ (L.start ≤ A.first s)) S.split (inr (omega (arith, S.before)));
  firm = S.firm;
}

module _ (A : Archive) (W : Lawful A) (log : A.Log) (L : Ledger A) (P : Pending A log L)
    (arrived torn : List ℕ) (l : A.Loan) (hurt : A.Log) (C : Crash A log L arrived torn l hurt) where
  open A use {extent, sectors, at, blank, is_blank, fits, used, alone, Row, first, parts, image, valid, sound}
  open W use {blank-is, lt_used, used_le, sectors-lent, image-fits, image-used, label, sound-reads}

  abbrev pub left : List Row
  left = there_rows A arrived L

  pub same-sectors : sectors (extent hurt) ≡ sectors (extent log)
  same-sectors = ap sectors C.size ∙ sectors-lent l (extent log)

  early : (n : ℕ) → has n L.changed ≡ true → n < L.start
  early n e = omega (
    arith,
    P.firm n e (alone l log) (λ m h. alone_early A W l log m (omega (arith, h, P.starts))),
    used_le (alone l log) L.start (λ m h. rw (alone_late A W l log m (omega (arith, h, P.starts))) blank-is),
  )

  -- a part of any block that stands behind what was settled has arrived
  landed : (s : Row) (k : ℕ) → valid s ≡ true → k < parts s → at hurt (first s + k) ≡ image s k → L.start ≤ first s + k → has (first s + k) arrived ≡ true
  landed s k v lt same h = true_unless (has (first s + k) arrived) (λ p.
      let q = false_unless (has (first s + k) torn) (λ t. true≢false (sym (image-fits s k v lt) ∙ ap fits (sym same) ∙ (C.broken (first s + k) t).2)) in
      true≢false (sym blank-is ∙ ap is_blank (sym (C.still (first s + k) h p q) ∙ same) ∙ image-used s k v lt))

  -- a sector that arrived tells of which row it is
  module _ (n : ℕ) (a : has n arrived ≡ true) where
    pub row : Row
    row = (C.arrived_whole n a).0

    pub row_in : Memᴰ row L.rows
    unfolding row
    row_in = (C.arrived_whole n a).1.0

    pub row_late : L.start ≤ first row
    unfolding row
    row_late = (C.arrived_whole n a).1.1

    pub row-over : covers A row n ≡ true
    unfolding row
    row-over = (C.arrived_whole n a).1.2

    pub row_part : at hurt n ≡ image row (n - first row)
    unfolding row
    row_part = (C.arrived_whole n a).2

    row-end : n < end A L
    row-end = omega (arith, (covers-reads A row n row-over).1, end_row A L.rows row row_in)

    seen : is_blank (at hurt n) ≡ false
    seen = let b = covers-reads A row n row-over in ap is_blank row_part ∙ image-used row (n - first row) (P.valids row row_in) (omega arith)

    same_block : (s : Row) (k : ℕ) → valid s ≡ true → k < parts s → at hurt n ≡ image s k → (first s ≡ first row) × (k ≡ n - first row) × (parts s ≡ parts row)
    same_block s k v lt e =
        let b = covers-reads A row n row-over in
        label s row k (n - first row) v (P.valids row row_in) lt (omega arith) (sym e ∙ row_part)

  -- a sector that was changed before: a block that lies over it lay there before
  doubt_old : (n : ℕ) → has n L.changed ≡ true → Doubtful A hurt n
  doubt_old n e = doubt-on A W log hurt n (P.doubt n e) (P.firm n e hurt C.settled)
      (λ s v c lies k lt. go s v c k lt (lies k lt) (ltb (first s + k) L.start) refl)
    where
      go : (s : Row) → valid s ≡ true → covers A s n ≡ true → (k : ℕ) → k < parts s → at hurt (first s + k) ≡ image s k → (b : Bool) → ltb (first s + k) L.start ≡ b
          → at log (first s + k) ≡ image s k
      go s v c k lt reads true q = sym (C.settled (first s + k) (ltb-true (first s + k) L.start q)) ∙ reads
      go s v c k lt reads false q =
          let a = landed s k v lt reads (ltb-false (first s + k) L.start q) in
          absurd (omega (arith, early n e, (covers-reads A s n c).0, (same_block (first s + k) a s k v lt reads).0, row_late (first s + k) a))

  doubt_torn : (n : ℕ) → has n torn ≡ true → Doubtful A hurt n
  doubt_torn n e = let b = C.broken n e in unfit-doubtful A W hurt n (lt_used hurt n b.3) b.2

  -- a sector that arrived of a row that is not there: a block over it has the row's sectors, so that all of them had arrived
  doubt-loose : (n : ℕ) → has n arrived ≡ true → covered A left n ≡ false → Doubtful A hurt n
  doubt-loose n a out = (
    lt_used hurt n (seen n a),
    λ m s e. false_unless (covers A s n) (λ q.
        let p = sound-reads hurt m s e in
        let c = covers-reads A s n q in
        let lies : Lies A W hurt s = rw p.1 p.2 in
        let here : first s + (n - first s) ≡ n = omega arith in
        let t = same_block n a s (n - first s) p.0 (omega arith) (rw here at (lies (n - first s) (omega arith))) in
        let all : has_all arrived (first (row n a)) (parts (row n a)) ≡ true = all_in arrived (first (row n a)) (parts (row n a)) (λ i lo hi.
        let back : first s + (i - first s) ≡ i = omega (arith, lo, t.0) in
        rw back at (landed s (i - first s) p.0 (omega (arith, lo, hi, t.0, t.2)) (lies (i - first s) (omega (arith, lo, hi, t.0, t.2))) (omega (arith, lo, back, row_late n a)))) in
        let m : Memᴰ (row n a) left = keep_in A (there A L.start arrived) L.rows (row n a) (row_in n a)
        (there-whole A L.start arrived (row n a) all) in
        true≢false (sym (covered_in A left (row n a) n m (row-over n a)) ∙ out)),
  )

  cases : {X : Type 0} (n : ℕ) → has n (crashed A arrived torn L).changed ≡ true
      → (has n L.changed ≡ true → X) → (has n torn ≡ true → X) → (has n arrived ≡ true → covered A left n ≡ false → X) → X
  cases {X = X} n e f g h = go (has_either n L.changed (torn ++ loose A left arrived) e)
    where
      later : (has n torn ≡ true) ⊎ (has n (loose A left arrived) ≡ true) → X
      later (inl q) = g q
      later (inr q) = let p = loose_out A left arrived n q in h p.0 p.1

      go : (has n L.changed ≡ true) ⊎ (has n (torn ++ loose A left arrived) ≡ true) → X
      go (inl q) = f q
      go (inr q) = later (has_either n torn (loose A left arrived) q)

  -- no row that is there covers a sector behind what was settled that did not arrive
  not_there : (n : ℕ) → L.start ≤ n → has n arrived ≡ false → cell A left n ≡ blank
  not_there n h a = go (cell_cases A left n)
    where
      whole : (r : Row) → covers A r n ≡ true → (first r + parts r ≤ L.start) ⊎ (L.start ≤ first r) → there A L.start arrived r ≡ true → cell A left n ≡ blank
      whole r c (inl s) t = absurd (omega (arith, h, s, (covers-reads A r n c).1))
      whole r c (inr s) t =
          let b = covers-reads A r n c in
          absurd (true≢false (sym (all_out arrived (first r) (parts r) (there_late A L.start arrived r s t) n b.0 b.1) ∙ a))

      go : (cell A left n ≡ blank) ⊎ Held A left n → cell A left n ≡ blank
      go (inl e) = e
      go (inr k) =
          let p = keep_out A (there A L.start arrived) L.rows k.0 k.1 in
          whole k.0 k.2 (P.split k.0 p.0) p.1

  plain : (n : ℕ) → has n L.changed ≡ false → has n torn ≡ false → has n (loose A left arrived) ≡ false → at hurt n ≡ cell A left n
  plain n c t l = go (ltb n L.start) refl (has n arrived) refl
    where
      go : (b : Bool) → ltb n L.start ≡ b → (a : Bool) → has n arrived ≡ a → at hurt n ≡ cell A left n
      go true q a p =
          let h = ltb-true n L.start q in
          C.settled n h ∙ P.plain n h c ∙ sym (keep-cell A (there A L.start arrived) L.rows n (λ r f.
          covers-before A r n (omega (arith, h, not-there_late A L.start arrived r f))))
      go false q true p =
          let o = covered_out A left n (loose-not A left arrived n p l) in
          let m = keep_out A (there A L.start arrived) L.rows o.0 o.1 in
          row_part n p
          ∙ sym (cell_in A 0 L.rows (row n p) n P.apart (row_in n p) (row-over n p))
          ∙ cell_in A 0 L.rows o.0 n P.apart m.0 o.2
          ∙ sym (cell_in A 0 left o.0 n (keep_apart A (there A L.start arrived) 0 L.rows P.apart) o.1 o.2)
      go false q false p = let h = ltb-false n L.start q in C.still n h p t ∙ sym (not_there n h p)

  pub reflects_crash : Reflects A hurt (crashed A arrived torn L)
  reflects_crash = record {
    valids = λ r m. P.valids r (keep_out A (there A L.start arrived) L.rows r m).0;
    owneds = λ r m. P.owneds r (keep_out A (there A L.start arrived) L.rows r m).0;
    apart = keep_apart A (there A L.start arrived) 0 L.rows P.apart;
    room = omega (
      arith,
      P.room,
      same-sectors,
      end-rows_le A left (end A L) (λ r m. omega (arith, end_row A L.rows r (keep_out A (there A L.start arrived) L.rows r m).0)),
      end-changed_le A (crashed A arrived torn L).changed (end A L) (λ n e. cases {X = n < end A L} n e
          (λ q. omega (arith, early n q, P.before))
          (λ q. let b = C.broken n q in omega (arith, (covers-reads A b.0 n b.1.2).1, end_row A L.rows b.0 b.1.0))
          (λ a q. row-end n a)),
    );
    plain = λ n e.
        let p = has_neither n L.changed (torn ++ loose A left arrived) e in
        let q = has_neither n torn (loose A left arrived) p.1 in
        plain n p.0 q.0 q.1;
    doubt = λ n e. cases {X = Doubtful A hurt n} n e (doubt_old n) (doubt_torn n) (doubt-loose n);
  }

  pub waits-crash : Waits A hurt (crashed A arrived torn L)
  waits-crash = waits-none A W hurt (crashed A arrived torn L) reflects_crash C.none-waits refl
