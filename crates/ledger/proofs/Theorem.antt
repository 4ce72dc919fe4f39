-- Demands 2 and 3, damage that comes again, and the stop: cases of all that may happen, of every archive that keeps the laws.
use mathlib.Core.Path.{◌≡◌, refl, sym, ap, subst, ◌∙◌}
use mathlib.Core.Bool.{Bool, true, false, cond}
use mathlib.Core.List.Memᴰ
use mathlib.Core.List.{List, [], ◌∷◌, tail, Memᴰ}
use mathlib.Core.Logic.{◌⊎◌, inl, inr}
use Rattle.ledger.specs.Archive.{Effect, stays, adds, settles, Archive}
use Rattle.ledger.specs.Ledger.{Ledger, enter, settle, at_settling, note}
use Rattle.ledger.specs.Lawful.{Lawful}
use Rattle.ledger.specs.Trace.{trace, Along}
use Rattle.ledger.specs.History.{Item, AllOfBytes, given, Standing, answer, Books, ruling, recount, blank-log, blank_books, harmed, harmed_books, first-log, first_books}
use Rattle.ledger.specs.History.{Zeroing, Damage, Demand2, Demand3, Demand3Zeroed}
use Rattle.ledger.specs.Reflects.{cell}
use Rattle.ledger.specs.Events.{Event, ask, harm, stop, crash, grow, happen, recount_event, Possible, Damaging, AnyDamage, AnyZeroing, EventHistory, log-then, books_then, StopAnswers}
use lib.Dec.{ltb}
use Rattle.ledger.proofs.Kept.{keep_out}
use Rattle.ledger.proofs.Trace.{along_gives}
use Rattle.ledger.proofs.Harm.{damage_zeroing, zeroing_harm}
use Rattle.ledger.proofs.Happens.{follows-all, all_that_happens, stands-then}
use Rattle.ledger.proofs.Asks.{opened, opened-all, asks, happen-asks, happen-left, recount-asks, recount-left, possible-asks}
use Rattle.ledger.proofs.After.{zeroing_first, none-waits-first}

module _ (A : Archive) (W : Lawful A) where
  open A use {Log, Extent, extent, at, waits, alone, Row, first, valid}
  open W use {tell-adds}

  -- a list of requests, and what is seen of it as events
  only-asks : (s : Standing A) (b : Books A) (qs : List (Item A)) → (trace (happen A) s (asks A qs)).seen ≡ (trace (recount_event A) b (asks A qs)).seen
      → (trace (answer A) s qs).seen ≡ (trace (recount A) b qs).seen
  only-asks s b qs e =
      sym (opened-all (trace (answer A) s qs).seen) ∙ ap opened (sym (happen-asks A s qs) ∙ e ∙ recount-asks A b qs) ∙ opened-all (trace (recount A) b qs).seen

  -- requests only
  pub demand2 : Demand2 A
  demand2 x qs b = only-asks (blank-log A x) (blank_books A x) qs (all_that_happens A W x (asks A qs) (possible-asks A (blank_books A x) qs b))

  -- after a history, an event, and then requests
  pub list_then : (h : EventHistory A) (e : Event A) → Possible A (books_then A h) e → (qs : List (Item A)) → AllOfBytes A qs
      → (trace (answer A) (happen A (log-then A h) e).state qs).seen ≡ (trace (recount A) (recount_event A (books_then A h) e).state qs).seen
  list_then h e ok qs b = only-asks (happen A (log-then A h) e).state (recount_event A (books_then A h) e).state qs
      (ap tail (follows-all A W (log-then A h) (books_then A h) (e ∷ asks A qs) (ok, possible-asks A (recount_event A (books_then A h) e).state qs b) (stands-then A W h)).seen)

  -- requests, one damage, requests
  pub demand3_zeroed : Demand3Zeroed A
  demand3_zeroed x before later b c none cs hurt D = (demand2 x before b, second)
    where
      h : EventHistory A
      h = record { size = x; events = asks A before; possible = possible-asks A (blank_books A x) before b }

      same_log : log-then A h ≡ first-log A x before
      same_log = happen-left A (blank-log A x) before

      same_books : books_then A h ≡ first_books A x before
      same_books = recount-left A (blank_books A x) before

      may : Possible A (first_books A x before) (harm cs hurt)
      may = (none-waits-first A W x before b none, zeroing_first A W x before b cs hurt D)

      second : (trace (answer A) (harmed A hurt (first-log A x before)) later).seen ≡ (trace (recount A) (harmed_books A cs hurt (first_books A x before)) later).seen
      second =
          ap (λ (s : Standing A). (trace (answer A) (harmed A hurt s) later).seen) (sym same_log)
          ∙ list_then h (harm cs hurt) (subst (λ (m : Books A). Possible A m (harm cs hurt)) (sym same_books) may) later c
          ∙ ap (λ (m : Books A). (trace (recount A) (harmed_books A cs hurt m) later).seen) same_books

  pub demand3 : Demand3 A
  demand3 x before later b c none cs hurt D = demand3_zeroed x before later b c none cs hurt (damage_zeroing A W (at (first-log A x before).log) x cs hurt D)

  -- a stop
  pub stop-answers : StopAnswers A
  stop-answers h l qs b =
      list_then h (stop l) tt qs b
      ∙ ap (λ (log : Log). (trace (recount A) (record { begin = alone l log; done = []; ledger = at_settling A (books_then A h).ledger; past = (books_then A h).past }) qs).seen)
      (sym (stands-then A W h).since)

  -- damage that comes again: the rows are valid all along, so that what shows is doubtful
  Valid : List Row → Type 0
  Valid rows = (r : Row) → Memᴰ r rows → valid r ≡ true

  valid-note : (x : Extent) (L : Ledger A) → Valid L.rows → (a : Effect Row) → ((r : Row) → a ≡ adds r → valid r ≡ true) → Valid (note A x a L).rows
  unfolding Valid
  valid-note x L v stays f = v
  valid-note x L v settles f = v
  valid-note x L v (adds r) f = go (waits x)
    where
      new : (s : Row) → Memᴰ s L.rows ⊎ Memᴰ s (r ∷ []) → valid s ≡ true
      new s (inl m) = v s m
      new s (inr m) = rw (Memᴰ.eq_of_singleton m) (f r refl)

      go : (b : Bool) (s : Row) → Memᴰ s (cond b (enter A r L) (settle A (enter A r L))).rows → valid s ≡ true
      go true s m = new s (Memᴰ.append_cases L.rows m)
      go false s m = new s (Memᴰ.append_cases L.rows m)

  zeroing_keeps : (b : Books A) (e : Event A) → Valid b.ledger.rows → Damaging A (Zeroing A) b e → Valid (recount_event A b e).state.ledger.rows
  unfolding Valid
  zeroing_keeps b (ask q) v ok = valid-note (extent b.begin) b.ledger v (ruling A b q).effect
      (λ r e. (tell-adds b.ledger (extent b.begin) (given A b.past q) q.request r ok e).0)
  zeroing_keeps b (harm cs hurt) v ok = v
  zeroing_keeps b (stop l) v ok = λ r m. v r (keep_out A (λ x. ltb (first x) b.ledger.start) b.ledger.rows r m).0
  zeroing_keeps b (crash q arrived torn l hurt) v ok = absurd ok
  zeroing_keeps b (grow g) v ok = v

  zeroing_possible : (b : Books A) (e : Event A) → Valid b.ledger.rows → Damaging A (Zeroing A) b e → Possible A b e
  unfolding Valid
  zeroing_possible b (ask q) v ok = ok
  zeroing_possible b (harm cs hurt) v ok = (ok.0, zeroing_harm A W b.ledger.rows (extent b.begin) cs hurt v ok.1)
  zeroing_possible b (stop l) v ok = ok
  zeroing_possible b (crash q arrived torn l hurt) v ok = absurd ok
  zeroing_possible b (grow g) v ok = ok

  pub possible_zeroing : (x : Extent) (es : List (Event A)) → Along (Damaging A (Zeroing A)) (recount_event A) (blank_books A x) es → Along (Possible A) (recount_event A) (blank_books A x) es
  unfolding Valid
  possible_zeroing x es = along_gives (recount_event A) (λ b. Valid b.ledger.rows) (Damaging A (Zeroing A)) (Possible A) zeroing_possible zeroing_keeps
      (blank_books A x) es (λ r m. absurd (Memᴰ.not-nil m))

  pub any_zeroing : AnyZeroing A
  any_zeroing x es ok = all_that_happens A W x es (possible_zeroing x es ok)

  damage-shows : (b : Books A) (e : Event A) → Damaging A (Damage A) b e → Damaging A (Zeroing A) b e
  damage-shows b (ask q) ok = ok
  damage-shows b (harm cs hurt) ok = (ok.0, damage_zeroing A W (cell A b.ledger.rows) (extent b.begin) cs hurt ok.1)
  damage-shows b (stop l) ok = ok
  damage-shows b (crash q arrived torn l hurt) ok = absurd ok
  damage-shows b (grow g) ok = ok

  pub possible-damage : (x : Extent) (es : List (Event A)) → Along (Damaging A (Damage A)) (recount_event A) (blank_books A x) es → Along (Possible A) (recount_event A) (blank_books A x) es
  possible-damage x es ok = possible_zeroing x es
      (along_gives (recount_event A) (λ b. Unit {0}) (Damaging A (Damage A)) (Damaging A (Zeroing A)) (λ b e _ p. damage-shows b e p) (λ b e _ p. tt) (blank_books A x) es tt ok)

  pub any_damage : AnyDamage A
  any_damage x es ok = all_that_happens A W x es (possible-damage x es ok)
