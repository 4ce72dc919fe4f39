-- Requests, damage, stops, stops inside a write and growth in any order: the archive's account is the ledger's.
use mathlib.Core.Path.{◌≡◌, refl, ap, subst}
use mathlib.Core.Bool.{true}
use mathlib.Core.List.{List, []}
use mathlib.Core.Option.{Option, none, some}
use Rattle.ledger.specs.Archive.{Effect, stays, adds, settles, Archive}
use Rattle.ledger.specs.Ledger.{Ledger, empty, told, end, at_settling, crashed}
use Rattle.ledger.specs.Lawful.{Lawful}
use Rattle.ledger.specs.Trace.{trace, Along}
use Rattle.ledger.specs.History.{Item, given, Standing, overlaid, Books, ruling, blank-log, blank_books}
use Rattle.ledger.specs.Events.{Shown, Event, ask, harm, stop, crash, grow, answered, stands, happen, begun, beginning, recount_event, Crash, SomeOfBytes, Possible, AllThatHappens}
use Rattle.ledger.specs.Events.{EventHistory, log-then, books_then}
use Rattle.ledger.specs.Reflects.{Reflects, Waits}
use Rattle.ledger.proofs.Trace.{Agree, along_agrees}
use Rattle.ledger.proofs.Steps.{FitsAt, reflects_empty, waits-empty, tell-fits, reflects_told, waits-told, reflects_grown, waits-grown}
use Rattle.ledger.proofs.Crash.{Pending, pending_all, pending_row, reflects_crash, waits-crash}
use Rattle.ledger.proofs.Stop.{reflects_stop, waits-stop}
use Rattle.ledger.proofs.Lists.{Stands, seen_alike, goes_on_lem, begins}

module _ (A : Archive) (W : Lawful A) where
  open A use {Log, Extent, extent, start, void, has_room, alone, grown, Row, Answer, Session, tell}

  -- what a request had begun that was never answered is on its way
  pending_begun : (s : Standing A) (b : Books A) → Stands A s b → (a : Effect Row) → FitsAt A W (end A b.ledger) (extent s.log) b.ledger.start a → Pending A s.log (begun A a b.ledger)
  pending_begun s b S stays f = pending_all A s.log b.ledger S.mirrors S.waiting
  pending_begun s b S settles f = pending_all A s.log b.ledger S.mirrors S.waiting
  pending_begun s b S (adds r) f =
      let p = f r refl in
      let fit : has_room (extent s.log) (start s.log) r ≡ true = rw S.waiting.starts p.2 in
      pending_row A W s.log b.ledger r S.mirrors S.waiting p.0 p.1 fit p.3

  pub pending : (s : Standing A) (b : Books A) → Stands A s b → (q : Option (Item A)) → SomeOfBytes A q → Pending A s.log (beginning A b q)
  pending s b S none ok = pending_all A s.log b.ledger S.mirrors S.waiting
  pending s b S (some q) ok =
      let L = b.ledger in
      let p = given A b.past q in
      pending_begun s b S (ruling A b q).effect
      (subst (λ (x : Extent). FitsAt A W (end A L) (extent s.log) L.start (tell L.rows L.changed L.start x p q.request).effect) S.size
      (tell-fits A W s.log L S.mirrors S.waiting p q.request ok))

  -- one event: seen alike, and what holds goes on
  Goes : Standing A → Books A → Event A → Type 0
  Goes s b e = ((happen A s e).shown ≡ (recount_event A b e).shown) × Stands A (happen A s e).state (recount_event A b e).state

  -- a log from which both go on
  left-alike : (s : Standing A) (b : Books A) → Stands A s b → (log same : Log) (L : Ledger A) → log ≡ same → Reflects A log L → Waits A log L
      → (◌≡◌ {A = Shown Answer Session Log} (stands log) (stands same)) × Stands A (record { log = log; past = s.past }) (record { begin = same; done = []; ledger = L; past = b.past })
  left-alike s b S log same L e R Q = (ap stands e, record { mirrors = R; waiting = Q; since = e; size = ap extent e; sessions = S.sessions })

  happens_alike : (s : Standing A) (b : Books A) (e : Event A) → Possible A b e → Stands A s b → Goes s b e
  unfolding Goes
  happens_alike s b (ask q) ok S = (ap answered (seen_alike A W s b q ok S), goes_on_lem A W s b q ok S)
  happens_alike s b (harm cs hurt) ok S =
      let D = rw (← S.size) at ok.1 in
      left-alike s b S hurt hurt (told A cs b.ledger) refl (reflects_told A W s.log b.ledger cs hurt S.mirrors D) (waits-told A W s.log b.ledger cs hurt S.mirrors D)
  happens_alike s b (stop l) ok S =
      left-alike s b S (alone l s.log) (alone l (overlaid A b.begin b.done)) (at_settling A b.ledger) (ap (alone l) S.since)
      (reflects_stop A W l s.log b.ledger S.mirrors S.waiting) (waits-stop A W l s.log b.ledger S.mirrors S.waiting)
  happens_alike s b (crash q arrived torn l hurt) ok S =
      let P = pending s b S q ok.0 in
      let C : Crash A s.log (beginning A b q) arrived torn l hurt = rw S.since ok.1 in
      left-alike s b S hurt hurt (crashed A arrived torn (beginning A b q)) refl
      (reflects_crash A W s.log (beginning A b q) P arrived torn l hurt C) (waits-crash A W s.log (beginning A b q) P arrived torn l hurt C)
  happens_alike s b (grow g) ok S =
      let may : A.growable (extent s.log) ≡ true = rw S.size ok in
      left-alike s b S (grown g s.log) (grown g (overlaid A b.begin b.done)) b.ledger (ap (grown g) S.since)
      (reflects_grown A W g s.log b.ledger may S.mirrors) (waits-grown A W g s.log b.ledger may S.waiting)

  pub begins-blank : (x : Extent) → Stands A (blank-log A x) (blank_books A x)
  begins-blank x = begins A (void x) (empty A) [] (reflects_empty A W x) (waits-empty A W x)

  pub follows-all : (s : Standing A) (b : Books A) (es : List (Event A)) → Along (Possible A) (recount_event A) b es → Stands A s b
      → Agree (Stands A) (trace (happen A) s es) (trace (recount_event A) b es)
  unfolding Goes
  follows-all = along_agrees (happen A) (recount_event A) (Stands A) (Possible A) happens_alike

  pub all_that_happens : AllThatHappens A
  all_that_happens x es b = (follows-all (blank-log A x) (blank_books A x) es b (begins-blank x)).seen

  -- what holds after every history
  pub stands-then : (h : EventHistory A) → Stands A (log-then A h) (books_then A h)
  stands-then h = (follows-all (blank-log A h.size) (blank_books A h.size) h.events h.possible (begins-blank h.size)).left
