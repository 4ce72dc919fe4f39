-- What the events do to each block, after any history of them.
use mathlib.Core.Path.{◌≡◌, refl, sym, ap, ◌∙◌}
use mathlib.Core.Bool.{Bool, true, false, cond, true≢false}
use mathlib.Core.List.{List, [], ◌∷◌, ◌++◌, Memᴰ}
use mathlib.Core.Logic.{◌⊎◌, inl, inr}
use mathlib.Core.Option.{Option, none, some}
use Prim.Native.Nat.{ℕ, ◌+◌, ◌-◌, ◌≤◌, ◌<◌}
use native.Mathlib.Omega.{arith}
use lib.Dec.{ltb}
use borrow.Author.Tests.{lt-ltb, le-ltb}
use Rattle.bedrock.proofs.Places.{found_in}
use Rattle.bedrock.proofs.Choices.{false_unless}
use Rattle.ledger.specs.Archive.{Effect, stays, adds, settles, Archive}
use Rattle.ledger.specs.Ledger.{has, has_all, Ledger, told, enter, settle, covers, hit, end, keep_rows, there, at_settling, crashed, note, blocks, Doubtful}
use Rattle.ledger.specs.Lawful.{Lawful}
use Rattle.ledger.specs.History.{Item, given, ruling, Harm, Books}
use Rattle.ledger.specs.Reflects.{cell, Reflects}
use Rattle.ledger.specs.Events.{Event, ask, harm, stop, crash, grow, recount_event, Possible, Crash, begun, beginning, EventHistory, log-then, books_then}
use Rattle.ledger.specs.Aftermath.{ledger-then, BlocksAreRows, ChangedIsDoubtful, DoubtfulNeeded, Hits, HitsMayHappen}
use Rattle.ledger.specs.Aftermath.{ZeroingByTheEnd, SettledIsKept, UnlentIsSettled, WaitingIsDropped, SettledForGood}
use Rattle.ledger.specs.Aftermath.{Stopped, SettledStays, WholeIsThere, TornIsDoubtful, AsIfNeverWritten, NothingBehind}
use Rattle.ledger.proofs.Covers.{covers-reads, covers_in, hit-none}
use Rattle.ledger.proofs.Ends.{end_row, end-changed}
use Rattle.ledger.proofs.Cells.{cell_in, cell-blank}
use Rattle.ledger.proofs.Intact.{intact_out}
use Rattle.ledger.proofs.Kept.{has_either, has_neither, all_out, keep_out, keep_in, there_late}
use Rattle.ledger.proofs.Trace.{along_keeps}
use Rattle.ledger.proofs.Doubt.{unfit-doubtful, doubt-on}
use Rattle.ledger.proofs.Reflects.{used-end, blocks-intact, sound-row}
use Rattle.ledger.proofs.Steps.{none-waits}
use Rattle.ledger.proofs.Crash.{Pending, row, row_in, row-over, row_part, left, reflects_crash}
use Rattle.ledger.proofs.Lists.{Stands}
use Rattle.ledger.proofs.Happens.{pending, stands-then}

-- rows that all pass a test, and one behind them that does not
module _ (A : Archive) where
  open A use {Row}

  keep_all : (test : Row → Bool) (rows : List Row) → ((r : Row) → Memᴰ r rows → test r ≡ true) → keep_rows A test rows ≡ rows
  keep_all test [] f = refl
  keep_all test (r ∷ rows) f = rw (f r (mathlib.Core.List.Memᴰ.head refl)) (ap (λ l. r ∷ l) (keep_all test rows (λ s m. f s (mathlib.Core.List.Memᴰ.tail m))))

  keep-last : (test : Row → Bool) (rows : List Row) (r : Row) → test r ≡ false → keep_rows A test (rows ++ (r ∷ [])) ≡ keep_rows A test rows
  keep-last test [] r e = rw e
  keep-last test (s ∷ rows) r e = ap (λ (l : List Row). cond (test s) (s ∷ l) l) (keep-last test rows r e)

-- a stop inside a write
module _ (A : Archive) (W : Lawful A) (log : A.Log) (L : Ledger A) (P : Pending A log L)
    (arrived torn : List ℕ) (l : A.Loan) (hurt : A.Log) (C : Crash A log L arrived torn l hurt) where
  open A use {at, blank, used, Row, first, parts, image, sound}
  open W use {label, sound_finds}

  after : Reflects A hurt (crashed A arrived torn L)
  after = reflects_crash A W log L P arrived torn l hurt C

  whole-there : (r : Row) → Memᴰ r L.rows → has_all arrived (first r) (parts r) ≡ true → sound hurt (first r) ≡ some r
  whole-there r m all = sound_finds hurt r (P.valids r m)
      (λ k lt.
      let a = all_out arrived (first r) (parts r) all (first r + k) (omega arith) (omega (arith, lt)) in
      let o = row A W log L P arrived torn l hurt C (first r + k) a in
      row_part A W log L P arrived torn l hurt C (first r + k) a
      ∙ sym (cell_in A 0 L.rows o (first r + k) P.apart (row_in A W log L P arrived torn l hurt C (first r + k) a) (row-over A W log L P arrived torn l hurt C (first r + k) a))
      ∙ cell_in A 0 L.rows r (first r + k) P.apart m (covers_in A r (first r + k) (omega arith) (omega (arith, lt)))
      ∙ ap (image r) (omega arith))

  torn_doubtful : (r : Row) → Memᴰ r L.rows → L.start ≤ first r → has_all arrived (first r) (parts r) ≡ false
      → (n : ℕ) → covers A r n ≡ true → n < used hurt → Doubtful A hurt n
  torn_doubtful r m late out n c u = (
    u,
    λ i s e. false_unless (covers A s n) (λ q.
        let o = keep_out A (there A L.start arrived) L.rows s (sound-row A W hurt (crashed A arrived torn L) after i s e).0 in
        let x = covers-reads A s n q in
        let y = covers-reads A r n c in
        let same : image s (n - first s) ≡ image r (n - first r) = sym (cell_in A 0 L.rows s n P.apart o.0 q) ∙ cell_in A 0 L.rows r n P.apart m c in
        let t = label s r (n - first s) (n - first r) (P.valids s o.0) (P.valids r m) (omega arith) (omega arith) same in
        let all : has_all arrived (first s) (parts s) ≡ true = there_late A L.start arrived s (omega (arith, late, t.0)) o.1 in
        true≢false (sym all ∙ ap (λ (k : ℕ). has_all arrived k (parts s)) t.0 ∙ ap (has_all arrived (first r)) t.2 ∙ out)),
  )

  never_written : (n : ℕ) → used hurt ≤ n → at hurt n ≡ blank
  never_written n h = go (has n (crashed A arrived torn L).changed) refl
    where
      go : (b : Bool) → has n (crashed A arrived torn L).changed ≡ b → at hurt n ≡ blank
      go true q = absurd (omega (arith, h, (after.doubt n q).0))
      go false q = after.plain n q ∙ cell-blank A (left A W log L P arrived torn l hurt C) n (omega (arith, h, used-end A W hurt (crashed A arrived torn L) after))

-- damage that leaves the sectors that it hits unfit leaves them, and those that were changed before, doubtful
module _ (A : Archive) (W : Lawful A) (log : A.Log) (L : Ledger A) (R : Reflects A log L) (hits : List ℕ) (hurt : A.Log) (D : Hits A log L hits hurt) where
  open A use {extent, sectors, at, fits, Row, first, parts, image, valid}
  open W use {image-fits}

  old : (n : ℕ) → n < A.used hurt → has n L.changed ≡ true → Doubtful A hurt n
  old n u e = doubt-on A W log hurt n (R.doubt n e) u (λ s v c lies k lt. go s v k lt (lies k lt) (has (first s + k) hits) refl)
    where
      go : (s : Row) → valid s ≡ true → (k : ℕ) → k < parts s → at hurt (first s + k) ≡ image s k → (b : Bool) → has (first s + k) hits ≡ b → at log (first s + k) ≡ image s k
      go s v k lt reads true q = absurd (true≢false (sym (image-fits s k v lt) ∙ ap fits (sym reads) ∙ D.unfit (first s + k) q))
      go s v k lt reads false q = sym (D.others (first s + k) q) ∙ reads

  hits_harm : Harm A (cell A L.rows) (extent log) (hits ++ L.changed) hurt
  hits_harm = record {
    size = D.size;
    inside = λ n e. inside n (has_either n hits L.changed e);
    others = λ n e. let p = has_neither n hits L.changed e in D.others n p.0 ∙ R.plain n p.1;
    doubtful = λ n e. doubtful n (D.within-used n e) (has_either n hits L.changed e);
    none-waits = D.none-waits;
  }
    where
      inside : (n : ℕ) → (has n hits ≡ true) ⊎ (has n L.changed ≡ true) → n < sectors (extent log)
      inside n (inl q) = D.inside n q
      inside n (inr q) = omega (arith, R.room, end-changed A L.changed n q)

      doubtful : (n : ℕ) → n < A.used hurt → (has n hits ≡ true) ⊎ (has n L.changed ≡ true) → Doubtful A hurt n
      doubtful n u (inl q) = unfit-doubtful A W hurt n u (D.unfit n q)
      doubtful n u (inr q) = old n u q

pub zeroing_by_the_end : (A : Archive) → ZeroingByTheEnd A
zeroing_by_the_end A L cs hurt same n e = omega (arith, same, end-changed A cs n e)

pub doubtful_needed : (A : Archive) → Lawful A → DoubtfulNeeded A
unfolding blocks
doubtful_needed A W log L same ends n e = (
  omega (arith, ends, end-changed A L.changed n e),
  λ m r q. false_unless (covers A r n) (λ c.
      let p = W.sound-reads log m r q in
      let b = covers-reads A r n c in
      let i : Memᴰ r (blocks A log) = found_in (A.sound log) (A.used log) 0 m r (omega arith) (omega (arith, p.1, b.0, ends, end-changed A L.changed n e)) q in
      let h : hit A L.changed r ≡ false = (intact_out A L.changed L.rows r (rw same at i)).1 in
      true≢false (sym e ∙ hit-none A L.changed r n h c)),
)

module _ (A : Archive) (W : Lawful A) where
  open A use {Log, Extent, extent, waits, start, Loan, Row, first, parts}
  open W use {start_none, parts_pos, sound-reads, sound_finds}

  pub blocks_are_rows : BlocksAreRows A
  blocks_are_rows h =
      let R = (stands-then A W h).mirrors in
      (blocks-intact A W (log-then A h).log (ledger-then A h) R, used-end A W (log-then A h).log (ledger-then A h) R)

  pub changed-is-doubtful : ChangedIsDoubtful A
  changed-is-doubtful h = (stands-then A W h).mirrors.doubt

  pub hits_may_happen : HitsMayHappen A
  hits_may_happen h hits hurt idle D =
      let S = stands-then A W h in
      (idle, rw (← S.size) (hits_harm A W (log-then A h).log (ledger-then A h) S.mirrors hits hurt D))

  pub settled-is-kept : SettledIsKept A
  settled-is-kept h idle = go (ledger-then A h) (stands-then A W h).mirrors idle
    where
      go : (L : Ledger A) → Reflects A (log-then A h).log L → L.start ≡ end A L → at_settling A L ≡ L
      go L R e =
          ap (λ (rows : List Row). told A L.changed (record { rows = rows; changed = L.changed; start = L.start }))
          (keep_all A (λ r. ltb (first r) L.start) L.rows (λ r m. lt-ltb (first r) L.start (omega (arith, e, parts_pos r (R.valids r m), end_row A L.rows r m))))
          ∙ (λ i. record { rows = L.rows; changed = L.changed; start = sym e i })

  pub unlent_is-settled : UnlentIsSettled A
  unlent_is-settled h e =
      let S = stands-then A W h in
      none-waits A W (log-then A h).log (ledger-then A h) S.mirrors S.waiting (start_none (log-then A h).log e)

  -- a stop inside a write
  module _ (h : EventHistory A) (q : Option (Item A)) (arrived torn : List ℕ) (l : Loan) (hurt : Log) where
    on_its_way : Stopped A h q arrived torn l hurt → Pending A (log-then A h).log (beginning A (books_then A h) q)
    on_its_way ok = pending A W (log-then A h) (books_then A h) (stands-then A W h) q ok.0

    pub stopped : Stopped A h q arrived torn l hurt → Crash A (log-then A h).log (beginning A (books_then A h) q) arrived torn l hurt
    stopped ok = rw (stands-then A W h).since ok.1

    pub same_start : (beginning A (books_then A h) q).start ≡ (ledger-then A h).start
    same_start = go q
      where
        begin : (a : Effect Row) → (begun A a (ledger-then A h)).start ≡ (ledger-then A h).start
        begin stays = refl
        begin (adds r) = refl
        begin settles = refl

        go : (o : Option (Item A)) → (beginning A (books_then A h) o).start ≡ (ledger-then A h).start
        go none = refl
        go (some p) = begin (ruling A (books_then A h) p).effect

    pub settled-stays : SettledStays A h q arrived torn l hurt
    settled-stays ok r e early = go (S.waiting.split r (sound-row A W (log-then A h).log (ledger-then A h) S.mirrors (first r) r e).0)
      where
        S : Stands A (log-then A h) (books_then A h)
        S = stands-then A W h

        go : (first r + parts r ≤ (ledger-then A h).start) ⊎ ((ledger-then A h).start ≤ first r) → A.sound hurt (first r) ≡ some r
        go (inr late) = absurd (omega arith)
        go (inl all) =
            let p = sound-reads (log-then A h).log (first r) r e in
            sound_finds hurt r p.0 (λ k lt. (stopped ok).settled (first r + k) (omega (arith, all, lt, same_start)) ∙ p.2 k lt)

    pub whole-is-there : WholeIsThere A h q arrived torn l hurt
    whole-is-there ok r m all = whole-there A W (log-then A h).log (beginning A (books_then A h) q) (on_its_way ok) arrived torn l hurt (stopped ok) r m.0 all

    pub torn_is-doubtful : TornIsDoubtful A h q arrived torn l hurt
    torn_is-doubtful ok r m out = torn_doubtful A W (log-then A h).log (beginning A (books_then A h) q) (on_its_way ok) arrived torn l hurt (stopped ok) r m.0 (omega (arith, m.1, same_start)) out

    pub as_if_never_written : AsIfNeverWritten A h q arrived torn l hurt
    as_if_never_written ok r way u = (
      λ m. omega (arith, pos, end_row A L.rows r m, ends, u),
      λ n c. false_unless (has n L.changed) (λ e. omega (arith, end-changed A L.changed n e, (covers-reads A r n c).0, ends, u)),
    )
      where
        L : Ledger A
        L = crashed A arrived torn (beginning A (books_then A h) q)

        pos : 0 < parts r
        pos = W.parts_pos r ((on_its_way ok).valids r way.0)

        ends : A.used hurt ≡ end A L
        ends = used-end A W hurt L (after A W (log-then A h).log (beginning A (books_then A h) q) (on_its_way ok) arrived torn l hurt (stopped ok))

    pub nothing-behind : NothingBehind A h q arrived torn l hurt
    nothing-behind ok = never_written A W (log-then A h).log (beginning A (books_then A h) q) (on_its_way ok) arrived torn l hurt (stopped ok)

  -- a row that waits
  pub waiting-is_dropped : WaitingIsDropped A
  waiting-is_dropped h q r b w e =
      let S = stands-then A W h in
      let L = ledger-then A h in
      let p = W.tell-adds L (extent (books_then A h).begin) (given A (books_then A h).past q) q.request r b e in
      ap (λ (a : Effect Row). at_settling A (note A (extent (books_then A h).begin) a L)) e
      ∙ ap (λ (t : Bool). at_settling A (cond t (enter A r L) (settle A (enter A r L)))) (ap waits (sym S.size) ∙ w)
      ∙ ap (λ (rows : List Row). told A L.changed (record { rows = rows; changed = L.changed; start = L.start }))
      (keep-last A (λ s. ltb (first s) L.start) L.rows r (le-ltb (first r) L.start (omega (arith, p.1, S.waiting.before))))

-- a row that does not wait stays, and never waits again
module _ (A : Archive) (r : A.Row) (pos : 0 < A.parts r) where
  open A use {Extent, waits, Row, first, parts}

  abbrev Rests : Ledger A → Type 0
  Rests L = Memᴰ r L.rows × (first r < L.start)

  in_front : (rows : List Row) (x : Row) → Memᴰ r rows → Memᴰ r (rows ++ (x ∷ []))
  in_front [] x m = absurd (mathlib.Core.List.Memᴰ.not-nil m)
  in_front (s ∷ rows) x m = go (mathlib.Core.List.Memᴰ.cases_cons m) (in_front rows x)
    where
      go : (r ≡ s) ⊎ Memᴰ r rows → (Memᴰ r rows → Memᴰ r (rows ++ (x ∷ []))) → Memᴰ r (s ∷ (rows ++ (x ∷ [])))
      go (inl e) f = mathlib.Core.List.Memᴰ.head e
      go (inr m') f = mathlib.Core.List.Memᴰ.tail (f m')

  rests-told : (cs : List ℕ) (L : Ledger A) → Memᴰ r L.rows → Rests (told A cs L)
  rests-told cs L m = (m, omega (arith, pos, end_row A L.rows r m))

  rests-note : (x : Extent) (a : Effect Row) (L : Ledger A) → Rests L → Rests (note A x a L)
  rests-note x stays L p = p
  rests-note x settles L p = (p.0, omega (arith, pos, end_row A L.rows r p.0))
  rests-note x (adds s) L p = go (waits x)
    where
      m : Memᴰ r (L.rows ++ (s ∷ []))
      m = in_front L.rows s p.0

      go : (b : Bool) → Rests (cond b (enter A s L) (settle A (enter A s L)))
      go true = (m, p.1)
      go false = (m, omega (arith, pos, end_row A (L.rows ++ (s ∷ [])) r m))

  rests-begun : (a : Effect Row) (L : Ledger A) → Rests L → Rests (begun A a L)
  rests-begun stays L p = p
  rests-begun settles L p = p
  rests-begun (adds s) L p = (in_front L.rows s p.0, p.1)

  rests-beginning : (b : Books A) (q : Option (Item A)) → Rests b.ledger → Rests (beginning A b q)
  rests-beginning b none p = p
  rests-beginning b (some q) p = rests-begun (ruling A b q).effect b.ledger p

  rests-event : (b : Books A) (e : Event A) → Possible A b e → Rests b.ledger → Rests (recount_event A b e).state.ledger
  rests-event b (ask q) ok p = rests-note (A.extent b.begin) (ruling A b q).effect b.ledger p
  rests-event b (harm cs hurt) ok p = rests-told cs b.ledger p.0
  rests-event b (stop l) ok p =
      let L = b.ledger in
      let m = keep_in A (λ x. ltb (first x) L.start) L.rows r p.0 (lt-ltb (first r) L.start p.1) in
      (m, omega (arith, pos, end_row A (keep_rows A (λ x. ltb (first x) L.start) L.rows) r m))
  rests-event b (crash q arrived torn l hurt) ok p =
      let L = beginning A b q in
      let s = rests-beginning b q p in
      let m = keep_in A (there A L.start arrived) L.rows r s.0 (rw (lt-ltb (first r) L.start s.1) refl) in
      (m, omega (arith, pos, end_row A (keep_rows A (there A L.start arrived) L.rows) r m))
  rests-event b (grow g) ok p = p

module _ (A : Archive) (W : Lawful A) where
  pub settled_for_good : SettledForGood A
  settled_for_good h r m early es ok =
      along_keeps (recount_event A) (λ b. Rests A r (W.parts_pos r ((stands-then A W h).mirrors.valids r m)) b.ledger) (Possible A)
      (rests-event A r (W.parts_pos r ((stands-then A W h).mirrors.valids r m))) (books_then A h) es ok (m, early)
