-- A row that waits is the only intact one of its name: a row is added only where no intact one has its name, and whatever else happens leaves the
-- ledger as it is or leaves nothing waiting.
use mathlib.Core.Path.{◌≡◌, refl, sym, ap, ◌∙◌}
use mathlib.Core.Bool.{Bool, true, false, cond, true≢false}
use mathlib.Core.List.Memᴰ
use mathlib.Core.List.{List, [], ◌∷◌, ◌++◌, Memᴰ}
use mathlib.Core.Logic.{◌⊎◌, inl, inr}
use mathlib.Core.Option.{Option, none, some}
use Prim.Native.Nat.{ℕ, ◌≤◌, ◌<◌}
use native.Mathlib.Omega.{arith}
use lib.Dec.{ltb}
use Rattle.bedrock.proofs.Choices.{false_unless}
use Rattle.ledger.specs.Archive.{Effect, stays, adds, settles, Archive}
use Rattle.ledger.specs.Ledger.{has, Ledger, empty, NoneWaits, told, enter, settle, hit, intact, end, keep_rows, there, crashed, note}
use Rattle.ledger.specs.Lawful.{Lawful}
use Rattle.ledger.specs.History.{Item, given, ruling, Books, blank_books}
use Rattle.ledger.specs.Events.{Event, ask, harm, stop, crash, grow, recount_event, SomeOfBytes, Possible, begun, beginning, EventHistory, books_then}
use Rattle.ledger.specs.Named.{AddsNewNames, WaitingAreOnly, WaitingIsOnly, TornIsGone}
use Rattle.ledger.proofs.Covers.{covers-reads, hit-none, hit-not}
use Rattle.ledger.proofs.Ends.{end_row, end-changed}
use Rattle.ledger.proofs.Intact.{intact_in, intact_out}
use Rattle.ledger.proofs.Kept.{has_neither, keep_out, there_late}
use Rattle.ledger.proofs.Trace.{along_keeps}
use Rattle.ledger.proofs.Aftermath.{same_start}

module _ (A : Archive) {Name : Type 0} (name : A.Row → Name) where
  open A use {Extent, waits, Row, first, parts}

  -- what the events keep: each row covers a sector, and the waiting ones are the only intact ones of their names
  record Only (L : Ledger A) : Type 0 where
    some-parts : (r : Row) → Memᴰ r L.rows → 0 < parts r
    waiting : WaitingAreOnly A name L

  -- where nothing waits
  only-settled : (L : Ledger A) → NoneWaits A L → ((r : Row) → Memᴰ r L.rows → 0 < parts r) → Only L
  only-settled L idle pos = record { some-parts = pos; waiting = λ r m late. absurd (omega (arith, idle, late, pos r m, end_row A L.rows r m)) }

  -- a row behind all others, of a name that no intact one has
  module _ (L : Ledger A) (r : Row) (pos : 0 < parts r) (here : end A L ≤ first r) (new : (y : Row) → Memᴰ y (intact A L) → name y ≡ name r → ⊥) where
    unhit : hit A L.changed r ≡ false
    unhit = hit-not A L.changed r (λ n c.
        false_unless (has n L.changed) (λ e. omega (arith, here, (covers-reads A r n c).0, end-changed A L.changed n e)))

    only-enter : Only L → Only (enter A r L)
    only-enter O = record {
      some-parts = λ s m. parts-of s (Memᴰ.append_cases L.rows m);
      waiting = λ s m late. (
        intact_in A L.changed (L.rows ++ (r ∷ [])) s m (unhit_of s late (Memᴰ.append_cases L.rows m)),
        λ x i e.
            let o = intact_out A L.changed (L.rows ++ (r ∷ [])) x i in
            one s late (Memᴰ.append_cases L.rows m) x o.1 (Memᴰ.append_cases L.rows o.0) e,
      );
    }
      where
        parts-of : (s : Row) → Memᴰ s L.rows ⊎ Memᴰ s (r ∷ []) → 0 < parts s
        parts-of s (inl m) = O.some-parts s m
        parts-of s (inr m) = rw (Memᴰ.eq_of_singleton m) pos

        unhit_of : (s : Row) → L.start ≤ first s → Memᴰ s L.rows ⊎ Memᴰ s (r ∷ []) → hit A L.changed s ≡ false
        unhit_of s late (inl m) = (intact_out A L.changed L.rows s (O.waiting s m late).0).1
        unhit_of s late (inr m) = rw (Memᴰ.eq_of_singleton m) unhit

        one : (s : Row) → L.start ≤ first s → Memᴰ s L.rows ⊎ Memᴰ s (r ∷ [])
            → (x : Row) → hit A L.changed x ≡ false → Memᴰ x L.rows ⊎ Memᴰ x (r ∷ []) → name x ≡ name s → x ≡ s
        one s late (inl m) x f (inl i) e = (O.waiting s m late).1 x (intact_in A L.changed L.rows x i f) e
        one s late (inl m) x f (inr i) e = absurd (new s (O.waiting s m late).0 (sym e ∙ ap name (Memᴰ.eq_of_singleton i)))
        one s late (inr m) x f (inl i) e = absurd (new x (intact_in A L.changed L.rows x i f) (e ∙ ap name (Memᴰ.eq_of_singleton m)))
        one s late (inr m) x f (inr i) e = Memᴰ.eq_of_singleton i ∙ sym (Memᴰ.eq_of_singleton m)

  -- the row that is added, if one is, covers a sector, stands at the end or later, and no intact one has its name
  abbrev AddsNew : Ledger A → Effect Row → Type 0
  AddsNew L a = (r : Row) → a ≡ adds r → (0 < parts r) × (end A L ≤ first r) × ((y : Row) → Memᴰ y (intact A L) → name y ≡ name r → ⊥)

  only-begun : (a : Effect Row) (L : Ledger A) → AddsNew L a → Only L → Only (begun A a L)
  only-begun stays L f O = O
  only-begun settles L f O = O
  only-begun (adds r) L f O = let p = f r refl in only-enter L r p.0 p.1 p.2 O

  only-note : (x : Extent) (a : Effect Row) (L : Ledger A) → AddsNew L a → Only L → Only (note A x a L)
  only-note x stays L f O = O
  only-note x settles L f O = only-settled (settle A L) refl O.some-parts
  only-note x (adds r) L f O = go (waits x)
    where
      E : Only (enter A r L)
      E = only-begun (adds r) L f O

      go : (b : Bool) → Only (cond b (enter A r L) (settle A (enter A r L)))
      go true = E
      go false = only-settled (settle A (enter A r L)) refl E.some-parts

  -- some of the rows, nothing waiting
  only_kept : (test : Row → Bool) (cs : List ℕ) (L : Ledger A) → Only L → Only (told A cs (record { rows = keep_rows A test L.rows; changed = L.changed; start = L.start }))
  only_kept test cs L O =
      let K : Ledger A = record { rows = keep_rows A test L.rows; changed = L.changed; start = L.start } in
      only-settled (told A cs K) refl (λ r m. O.some-parts r (keep_out A test L.rows r m).0)

module _ (A : Archive) (W : Lawful A) {Name : Type 0} (name : A.Row → Name) (new : AddsNewNames A name) where
  open A use {Log, extent, Loan, Row, first, parts, OfBytes}

  adds-new : (b : Books A) (q : Item A) → OfBytes q.request → AddsNew A name b.ledger (ruling A b q).effect
  adds-new b q ok r e =
      let p = W.tell-adds b.ledger (extent b.begin) (given A b.past q) q.request r ok e in
      (W.parts_pos r p.0, omega (arith, p.1), new b.ledger (extent b.begin) (given A b.past q) q.request r ok e)

  only-beginning : (b : Books A) (q : Option (Item A)) → SomeOfBytes A q → Only A name b.ledger → Only A name (beginning A b q)
  only-beginning b none ok O = O
  only-beginning b (some q) ok O = only-begun A name (ruling A b q).effect b.ledger (adds-new b q ok) O

  only-event : (b : Books A) (e : Event A) → Possible A b e → Only A name b.ledger → Only A name (recount_event A b e).state.ledger
  only-event b (ask q) ok O = only-note A name (extent b.begin) (ruling A b q).effect b.ledger (adds-new b q ok) O
  only-event b (harm cs hurt) ok O = only-settled A name (told A cs b.ledger) refl O.some-parts
  only-event b (stop l) ok O = only_kept A name (λ r. ltb (first r) b.ledger.start) b.ledger.changed b.ledger O
  only-event b (crash q arrived torn l hurt) ok O =
      let L = beginning A b q in
      only_kept A name (there A L.start arrived) (crashed A arrived torn L).changed L (only-beginning b q ok.0 O)
  only-event b (grow g) ok O = O

  only_then : (h : EventHistory A) → Only A name (books_then A h).ledger
  only_then h = along_keeps (recount_event A) (λ b. Only A name b.ledger) (Possible A) only-event (blank_books A h.size) h.events h.possible
      (only-settled A name (empty A) refl (λ r m. absurd (Memᴰ.not-nil m)))

  pub waiting-is-only : WaitingIsOnly A name
  waiting-is-only h q ok = (only-beginning (books_then A h) q ok (only_then h)).waiting

  -- an intact row of its name would be the row itself, which is not there
  pub torn_is_gone : TornIsGone A name
  torn_is_gone h q arrived torn l hurt ok r way out x i e =
      let L = beginning A (books_then A h) q in
      let C = crashed A arrived torn L in
      let late : L.start ≤ first r = omega (arith, way.1, same_start A W h q arrived torn l hurt) in
      let o = intact_out A C.changed C.rows x i in
      let k = keep_out A (there A L.start arrived) L.rows x o.0 in
      let f : hit A L.changed x ≡ false = hit-not A L.changed x (λ n c. (has_neither n L.changed _ (hit-none A C.changed x n o.1 c)).0) in
      let same : x ≡ r = (waiting-is-only h q ok.0 r way.0 late).1 x (intact_in A L.changed L.rows x k.0 f) e in
      true≢false (sym (there_late A L.start arrived r late (ap (there A L.start arrived) (sym same) ∙ k.1)) ∙ out)
