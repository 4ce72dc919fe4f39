-- Whatever happens, with requests answered by what a server knows from the last one: it learns when it opens a log, when it takes another index, and after
-- every harm, stop and crash; a request hands on what is known then, and growth leaves it.
use Rattle.std.specs.Prelude.{◌≡◌, true, List, [], ◌∷◌, ◌++◌, map, ℕ, ◌%◌, eqb, length}
use Rattle.std.proofs.Math.Option.{Option, none, some}
use Rattle.bedrock.specs.Choice.{on}
use Rattle.buffer.specs.Bytes.{Bytes}
use Rattle.sector_log.specs.Parts.{Lent}
use Rattle.known.specs.declared.Known.{Known}
use Rattle.known.specs.Known.{learned}
use Rattle.known_request.specs.Quick.{Quick, step_known}
use Rattle.known_request.specs.Promises.{learned_of}
use Rattle.request.specs.declared.Session.{Session}
use Rattle.indexed.specs.Indexed.{Indexed, step_by}
use Rattle.ledger.specs.Archive.{Seen}
use Rattle.ledger.specs.Trace.{Turn, trace, Along}
use Rattle.ledger.specs.History.{Item, given, Standing, Books, blank-log, blank_books}
use Rattle.ledger.specs.Events.{Shown, Event, ask, harm, stop, crash, grow, answered, happen, recount_event, EventHistory, log-then, books_then}
use Rattle.demands.specs.Ledger.{Asked, Answer, Extent}
use Rattle.demands.specs.Instance.{grown, archive}
use Rattle.every_index.specs.EveryIndex.{seen_of, Agreeing, Unhealed}
use Rattle.sector.specs.Sector.{sector_length}

-- a server: the log with its waiting part and the sessions so far, the index that it keeps, and what it knows of them
pub record Serving : Type 0 where
  pub standing : Standing archive
  pub index : Bytes
  pub known : Known

-- it has learned
abbrev pub opened : Standing archive → Bytes → Serving
opened s index = record { standing = s; index = index; known = learned_of s.log index }

-- a request with an index, and what is learned then
abbrev pub learning : Indexed → Quick
learning x = record { indexed = x; known = learned_of x.outcome.lent x.index }

-- one request by what is known; where no waiting part is lent or no date is given, as with an index alone
abbrev pub ask_known : Known → Session → Asked → Bytes → Lent → Quick
ask_known k s a index L =
    let anew : Quick = learning (step_by s a.message a.date index L a.buffer) in
    on a.date anew (λ date. on L.waiting anew (λ w. step_known k s a.message date index L.log w a.buffer))

abbrev pub answer_known : Serving → Item archive → Turn (Seen Answer Session Lent) Serving
answer_known v q =
    let r = ask_known v.known (given archive v.standing.past q) q.request v.index v.standing.log in
    let o = seen_of r.indexed.outcome in
    record {
      shown = o;
      state = record { standing = record { log = o.log; past = v.standing.past ++ (o.session ∷ []) }; index = r.indexed.index; known = r.known };
    }

-- "`learn` is called after every harm, crash and opening"
abbrev pub learns_after : Bytes → Turn (Shown Answer Session Lent) (Standing archive) → Turn (Shown Answer Session Lent) Serving
learns_after index t = record { shown = t.shown; state = opened t.state index }

-- one event, for a server
abbrev pub happens_known : Serving → Event archive → Turn (Shown Answer Session Lent) Serving
happens_known v (ask q) = let t = answer_known v q in record { shown = answered t.shown; state = t.state }
happens_known v (harm cs hurt) = learns_after v.index (happen archive v.standing (harm cs hurt))
happens_known v (stop l) = learns_after v.index (happen archive v.standing (stop l))
happens_known v (crash q arrived torn l hurt) = learns_after v.index (happen archive v.standing (crash q arrived torn l hurt))
happens_known v (grow g) =
    let t = happen archive v.standing (grow g) in
    record { shown = t.shown; state = record { standing = t.state; index = v.index; known = v.known } }

-- an event, and the index of any bytes that the server takes just before it, if it takes one
pub record Moment : Type 0 where
  pub event : Event archive
  pub index : Option Bytes

abbrev pub taking : Option Bytes → Serving → Serving
taking none v = v
taking (some index) v = opened v.standing index

abbrev pub happen_known : Serving → Moment → Turn (Shown Answer Session Lent) Serving
happen_known v m = happens_known (taking m.index v) m.event

abbrev pub events_in : List Moment → List (Event archive)
events_in = map (λ (m : Moment). m.event)

-- from a blank log on, whatever happens of such a kind, with an index of any bytes: what is seen is the ledger's, and what the server knows is what it would learn
abbrev pub EveryKnownSuch : (Books archive → Event archive → Type 0) → Type 0
EveryKnownSuch Such = (x : Extent) (index : Bytes) (ms : List Moment) → Along Such (recount_event archive) (blank_books archive x) (events_in ms)
    → let t = trace happen_known (opened (blank-log archive x) index) ms in
    (t.seen ≡ (trace (recount_event archive) (blank_books archive x) (events_in ms)).seen)
    × (t.left.known ≡ learned_of t.left.standing.log t.left.index)

-- healing too, where intact rows of one type and score have the same bytes at each request
abbrev pub EveryKnown : Type 0
EveryKnown = EveryKnownSuch Agreeing

-- and with no such premise where nothing is healed
abbrev pub EveryKnownUnhealed : Type 0
EveryKnownUnhealed = EveryKnownSuch Unhealed

-- and from any past on, in which there may have been anything that leaves what events leave, such as writing calls and copies: a server that opens the log then
abbrev pub EveryKnownFrom : Type 0
EveryKnownFrom = (h : EventHistory archive) (index : Bytes) (ms : List Moment) → Along Agreeing (recount_event archive) (books_then archive h) (events_in ms)
    → let t = trace happen_known (opened (log-then archive h) index) ms in
    (t.seen ≡ (trace (recount_event archive) (books_then archive h) (events_in ms)).seen)
    × (t.left.known ≡ learned_of t.left.standing.log t.left.index)

-- a log of whole sectors that grows by blank ones: what is known of it stays
abbrev pub GrowthLeavesKnown : Type 0
GrowthLeavesKnown = (k : ℕ) (log waiting index : Bytes) → eqb (length log % sector_length) 0 ≡ true → learned (grown k log) waiting index ≡ learned log waiting index
