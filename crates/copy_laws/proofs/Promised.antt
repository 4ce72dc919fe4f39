-- A copy and the write messages of its blocks leave the same log; so it is a list of events.
use mathlib.Core.Path.{◌≡◌, refl, sym, ap, subst, ◌∙◌}
use mathlib.Core.List.{List, [], ◌∷◌, ◌++◌, map}
use mathlib.Core.Option.{Option}
use Prim.Native.Nat.{ℕ}
use lib.ListN.{length}
use Rattle.buffer.specs.Bytes.{Bytes}
use Rattle.sector_log.specs.LookUp.{lent_allowed}
use Rattle.sector_log.specs.Parts.{alone, tape}
use Rattle.request.specs.declared.Session.TheVariants.{Greeted}
use Rattle.visit.specs.declared.Walked.{Walked}
use Rattle.ledger.specs.Trace.{trace, Along}
use Rattle.ledger.specs.History.{Item, AllOfBytes, Standing, Books}
use Rattle.ledger.specs.Events.{ask, stop, happen, recount_event, Possible, log-then, books_then}
use Rattle.ledger.proofs.Trace.{along_append, left-append}
use Rattle.ledger.proofs.Asks.{happen-left, possible-asks}
use Rattle.demands.specs.Instance.{relent, archive}
use Rattle.promises.specs.Histories.{afterwards}
use Rattle.writer_laws.specs.Held.{AllWritable}
use Rattle.writer_laws.specs.Asking.{numbers}
use Rattle.writer_laws.proofs.Messages.{any_write}
use Rattle.writer_laws.proofs.Asking.{stores_asked}
use Rattle.copying.specs.Copy.{Copied, copy_of}
use Rattle.copying.specs.PostOrder.{type_of, Visit, post_order_of}
use Rattle.copying.specs.Promises.{HoldsAll}
use Rattle.copying.proofs.InPostOrder.{copy_is_stores}
use Rattle.copying.proofs.Promised.{second-allowed}
use Rattle.copying.proofs.WalkInPostOrder.{tests_post_order, post_order-is-walk}
use Rattle.copying.proofs.Writes.{shown_writable}
use Rattle.copy_laws.specs.Requests.{WritesAreRequests, typed, copy_blocks, copy_requests, CopyIsRequests, NumbersAreItsOwn, copy_events, CopyIsEvents}
use Rattle.copy_laws.proofs.Asked.{still-alone, stores_are_visits, Numbered, numbered}

-- what a log holds may be written
writable : (first : Bytes) (vs : List Visit) → HoldsAll first vs → AllWritable (map typed vs)
writable first [] h = tt
writable first (v ∷ vs) h =
    let W = shown_writable first (type_of v.role) v.score v.bytes h.0 in ((W.lawful-kind, W.not_many, W.of-bytes), writable first vs h.1)

pub writes_are_requests : WritesAreRequests
writes_are_requests first date v s m buffer h d a f room q e =
    let W = writable first (v ∷ []) (h, tt) in
    (any_write (alone s) date buffer a d room m (typed v) W.0 f q e Greeted refl).lent ∙ still-alone s date (type_of v.role) v.bytes

pub copy_is-requests : CopyIsRequests
copy_is-requests log waiting date score second n buffer past l d room =
    let p = post_order_of log waiting score n in
    let A = writable (tape log waiting) p.visits ((tests_post_order (lent_allowed (length log) (length waiting)) score n).shown (tape log waiting)) in
    let al = second-allowed (length log) (length waiting) (length second) l in
    let S = stores_asked (alone second) date buffer past (copy_blocks log waiting score n) al d room A in (
      S.0,
      ap (λ (x : Standing archive). x.log) S.1 ∙ stores_are_visits date p.visits p.answer second
          ∙ ap (λ (c : Copied). alone c.second) (sym (copy_is_stores log waiting date score second n l d)),
      S.2,
    )

pub numbers_are_its_own : NumbersAreItsOwn
unfolding Numbered
numbers_are_its_own log waiting date score second n l d =
    let p = post_order_of log waiting score n in
    let xs = copy_blocks log waiting score n in
    subst (λ (w : Walked). Numbered (numbers (alone second) date xs) (length xs) w (copy_of log waiting date score second n).answer) (post_order-is-walk log waiting score n)
    (subst (λ (c : Copied). Numbered (numbers (alone second) date xs) (length xs) p.answer c.answer) (sym (copy_is_stores log waiting date score second n l d))
    (numbered date p.visits p.answer second))

-- ---- as events

possible-events : (b : Books archive) (qs : List (Item archive)) (lent : Option ℕ) → AllOfBytes archive qs → Along (Possible archive) (recount_event archive) b (copy_events qs lent)
possible-events b qs lent ok = (tt, along_append (recount_event archive) (Possible archive) _ (map ask qs) (stop lent ∷ []) (possible-asks archive _ qs ok) (tt, tt))

events_leave : (S : Standing archive) (qs : List (Item archive)) (lent : Option ℕ)
    → (trace (happen archive) S (copy_events qs lent)).left.log ≡ relent lent (afterwards (alone S.log.log) S.past qs)
events_leave S qs lent =
    ap (λ (x : Standing archive). x.log) (left-append (happen archive) _ (map ask qs) (stop lent ∷ []))
    ∙ ap (λ (x : Standing archive). relent lent x.log) (happen-left archive _ qs)

pub copy_is-events : CopyIsEvents
copy_is-events h log waiting date score n buffer lent l d room =
    let S = log-then archive h in
    let second = S.log.log in
    let qs = copy_requests log waiting date score second n buffer S.past in
    let R = copy_is-requests log waiting date score second n buffer S.past l d room in (
      record {
        size = h.size;
        events = h.events ++ copy_events qs lent;
        possible = along_append (recount_event archive) (Possible archive) _ h.events (copy_events qs lent) h.possible (possible-events (books_then archive h) qs lent R.0);
      },
      refl,
      refl,
      ap (λ (x : Standing archive). x.log) (left-append (happen archive) _ h.events (copy_events qs lent)) ∙ events_leave S qs lent ∙ ap (relent lent) R.1,
    )
