-- A server that knows what it would learn answers each request as with its index alone, so as the ledger does, and knows it again afterwards.
use mathlib.Core.Path.{◌≡◌, refl, sym, ap, ap₂, subst, ◌∙◌}
use mathlib.Core.Bool.{true}
use mathlib.Core.List.{List, [], ◌∷◌, ◌++◌}
use mathlib.Core.Option.{Option, none, some}
use Prim.Native.Nat.{ℕ, ◌%◌}
use lib.Dec.{eqb}
use lib.ListN.{length, get_or}
use Rattle.buffer.specs.Bytes.{Bytes}
use Rattle.digits.specs.Number.{small}
use Rattle.sector_log.specs.Parts.{Lent}
use Rattle.known.specs.declared.Known.{Known}
use Rattle.known.specs.Known.{doubt_of, exactly, learned}
use Rattle.known_request.specs.Quick.{Quick}
use Rattle.known_request.specs.Promises.{learned_of}
use Rattle.known_request.proofs.Requests.{quick_is-serve}
use Rattle.request.specs.declared.Session.{Session}
use Rattle.indexed.specs.Indexed.{Indexed, step_by}
use Rattle.block.specs.Log.{used}
use Rattle.ledger.specs.Archive.{Seen}
use Rattle.ledger.specs.Trace.{Turn, trace, Along}
use Rattle.ledger.specs.History.{Item, given, Standing, answer, Books, blank-log, blank_books}
use Rattle.ledger.specs.Events.{Shown, Event, ask, harm, stop, crash, grow, answered, happen, recount_event, log-then, books_then}
use Rattle.ledger.proofs.Trace.{Agree}
use Rattle.ledger.proofs.Lists.{Stands}
use Rattle.ledger.proofs.Happens.{begins-blank, follows-all, stands-then}
use Rattle.demands.specs.Ledger.{Asked, Answer, Extent}
use Rattle.demands.specs.Instance.{grown, archive}
use Rattle.demands.proofs.Lawful.{lawful}
use Rattle.demands.proofs.LogLaws.{used-grown}
use Rattle.demands.proofs.LentLaws.{tape-grown}
use Rattle.every_index.specs.EveryIndex.{seen_of, answer_by, Agreeing}
use Rattle.every_index.proofs.EveryIndex.{as_scan, unhealed_agrees}
use Rattle.every_known.specs.EveryKnown.{Serving, opened, learning, ask_known, happens_known, Moment, taking, happen_known}
use Rattle.every_known.specs.EveryKnown.{events_in, EveryKnown, EveryKnownUnhealed, EveryKnownFrom, GrowthLeavesKnown}

-- ---- one request

-- by what would be learned a request is the request with the index, and what is known then is what would be learned
asks_right : (k : Known) (s : Session) (m buffer : Bytes) (date : Option Bytes) (index log : Bytes) (waiting : Option Bytes) → let L : Lent = record { log = log; waiting = waiting } in
    k ≡ learned_of L index → small m ≡ true
    → ask_known k s (record { message = m; buffer = buffer; date = date }) index L ≡ learning (step_by s m date index L buffer)
asks_right k s m buffer none index log waiting e sm = refl
asks_right k s m buffer (some date) index log none e sm = refl
asks_right k s m buffer (some date) index log (some w) e sm =
    let q = quick_is-serve k s m date index log w buffer e in
    let known = q.1 sm ∙ ap (λ (x : Indexed). learned_of x.outcome.lent x.index) q.0 in
    λ i. record { indexed = q.0 i; known = known i }

-- the server follows the ledger, and knows what it would learn
record Knows (v : Serving) (b : Books archive) : Type 0 where
  follows : Stands archive v.standing b
  learnt : v.known ≡ learned_of v.standing.log v.index

-- one event goes as the ledger has it
Right : Turn (Shown Answer Session Lent) Serving → Turn (Shown Answer Session Lent) (Books archive) → Type 0
Right t u = (t.shown ≡ u.shown) × Knows t.state u.state

-- what the archive shows of one event is the ledger's
module _ (s : Standing archive) (b : Books archive) (e : Event archive) (ok : Agreeing b e) (S : Stands archive s b) where
  both : Agree (Stands archive) (trace (happen archive) s (e ∷ [])) (trace (recount_event archive) b (e ∷ []))
  both = follows-all archive lawful s b (e ∷ []) (ok.0, tt) S

  shows : (happen archive s e).shown ≡ (recount_event archive b e).shown
  shows = ap (λ (l : List (Shown Answer Session Lent)). get_or l 0 (happen archive s e).shown) both.seen

  leaves : Stands archive (happen archive s e).state (recount_event archive b e).state
  leaves = both.left

-- a request's outcome, as a server goes on from it
after : Serving → Quick → Turn (Shown Answer Session Lent) Serving
after v r =
    let o = seen_of r.indexed.outcome in
    record {
      shown = answered o;
      state = record { standing = record { log = o.log; past = v.standing.past ++ (o.session ∷ []) }; index = r.indexed.index; known = r.known };
    }

module _ (v : Serving) (b : Books archive) (q : Item archive) (ok : Agreeing b (ask q)) (K : Knows v b) where
  abbrev s : Standing archive
  s = v.standing

  abbrev a : Asked
  a = q.request

  abbrev x : Indexed
  x = step_by (given archive s.past q) a.message a.date v.index s.log a.buffer

  by_index : answer_by s (record { item = q; index = v.index }) ≡ answer archive s q
  by_index = as_scan s b (record { item = q; index = v.index }) K.follows ok.1

  learning_right : Right (after v (learning x)) (recount_event archive b (ask q))
  unfolding Right after
  learning_right = (
    ap (λ (t : Turn (Seen Answer Session Lent) (Standing archive)). answered t.shown) by_index ∙ shows s b (ask q) ok K.follows,
    record {
      follows = subst (λ (t : Turn (Seen Answer Session Lent) (Standing archive)). Stands archive t.state (recount_event archive b (ask q)).state) (sym by_index)
          (leaves s b (ask q) ok K.follows);
      learnt = refl;
    },
  )

  request_right : Right (happens_known v (ask q)) (recount_event archive b (ask q))
  unfolding after
  request_right =
      subst (λ (r : Quick). Right (after v r) (recount_event archive b (ask q)))
      (sym (asks_right v.known (given archive s.past q) a.message a.buffer a.date v.index s.log.log s.log.waiting K.learnt ok.0))
      learning_right

-- ---- all else

pub growth_leaves-known : GrowthLeavesKnown
unfolding learned
growth_leaves-known k log w index may = λ i. record {
  used = record { 0 = used-grown k log may i };
  waits = record { 0 = used w };
  doubt = doubt_of (tape-grown k log w may i);
  exact = exactly (tape-grown k log w may i) index;
}

grows : (k : ℕ) (log : Bytes) (waiting : Option Bytes) (index : Bytes) → eqb (length log % 512) 0 ≡ true
    → learned_of (record { log = grown k log; waiting = waiting }) index ≡ learned_of (record { log = log; waiting = waiting }) index
grows k log none index may = growth_leaves-known k log [] index may
grows k log (some w) index may = growth_leaves-known k log w index may

event_right : (v : Serving) (b : Books archive) (e : Event archive) → Agreeing b e → Knows v b → Right (happens_known v e) (recount_event archive b e)
unfolding Right
event_right v b (ask q) ok K = request_right v b q ok K
event_right v b (harm cs hurt) ok K =
    (shows v.standing b (harm cs hurt) ok K.follows, record { follows = leaves v.standing b (harm cs hurt) ok K.follows; learnt = refl })
event_right v b (stop l) ok K =
    (shows v.standing b (stop l) ok K.follows, record { follows = leaves v.standing b (stop l) ok K.follows; learnt = refl })
event_right v b (crash q arrived torn l hurt) ok K = (
  shows v.standing b (crash q arrived torn l hurt) ok K.follows,
  record { follows = leaves v.standing b (crash q arrived torn l hurt) ok K.follows; learnt = refl },
)
event_right v b (grow g) ok K =
    let L = v.standing.log in
    let may : eqb (length L.log % 512) 0 ≡ true = subst (λ (z : Extent). archive.growable z ≡ true) (sym K.follows.size) ok.0 in (
      shows v.standing b (grow g) ok K.follows,
      record { follows = leaves v.standing b (grow g) ok K.follows; learnt = K.learnt ∙ sym (grows g L.log L.waiting v.index may) },
    )

-- ---- lists

taken : (index : Option Bytes) (v : Serving) (b : Books archive) → Knows v b → Knows (taking index v) b
taken none v b K = K
taken (some i) v b K = record { follows = K.follows; learnt = refl }

goes : (v : Serving) (b : Books archive) (ms : List Moment) → Along Agreeing (recount_event archive) b (events_in ms) → Knows v b
    → Agree Knows (trace happen_known v ms) (trace (recount_event archive) b (events_in ms))
unfolding Right
goes v b [] ok K = record { seen = refl; left = K }
goes v b (m ∷ ms) ok K =
    let here = event_right (taking m.index v) b m.event ok.0 (taken m.index v b K) in
    let rest = goes (happen_known v m).state (recount_event archive b m.event).state ms ok.1 here.1 in
    record { seen = ap₂ ◌∷◌ here.0 rest.seen; left = rest.left }

begins : (x : Extent) (index : Bytes) → Knows (opened (blank-log archive x) index) (blank_books archive x)
begins x index = record { follows = begins-blank archive lawful x; learnt = refl }

pub every_known : EveryKnown
every_known x index ms ok =
    let all = goes (opened (blank-log archive x) index) (blank_books archive x) ms ok (begins x index) in
    (all.seen, all.left.learnt)

pub every_known_unhealed : EveryKnownUnhealed
every_known_unhealed x index ms ok = every_known x index ms (unhealed_agrees x (events_in ms) ok)

pub every_known-from : EveryKnownFrom
every_known-from h index ms ok =
    let all = goes (opened (log-then archive h) index) (books_then archive h) ms ok (record { follows = stands-then archive lawful h; learnt = refl }) in
    (all.seen, all.left.learnt)
