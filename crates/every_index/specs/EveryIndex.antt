-- Demands 2 and 3, and whatever happens, with an index lent to each request, of its own and of any bytes: "Demands 2 and 3 read as before". What is answered,
-- the session, the log and what waits are the ledger's, which knows of no index.
use Rattle.std.specs.Prelude.{◌≡◌, true, ℕ}
use mathlib.Core.List.{List, [], ◌∷◌, ◌++◌, map, Memᴰ}
use Rattle.buffer.specs.Bytes.{Bytes}
use Rattle.block.specs.Block.{Row}
use Rattle.sector_log.specs.Parts.{Lent, one_log}
use Rattle.hint.specs.Promises.{NoClash}
use Rattle.request.specs.Step.{Outcome}
use Rattle.request.specs.declared.Session.{Session}
use Rattle.indexed.specs.Indexed.{step_by}
use Rattle.ledger.specs.Archive.{Seen}
use Rattle.ledger.specs.Ledger.{has, intact}
use Rattle.ledger.specs.Trace.{Turn, trace, Along}
use Rattle.ledger.specs.History.{Item, AllOfBytes, given, Standing, Books, recount, blank-log, blank_books, harmed, harmed_books, first-log, first_books, second-log, Damage, Zeroing}
use Rattle.ledger.specs.Events.{Shown, Event, ask, harm, stop, crash, grow, answered, happen, recount_event, Possible}
use Rattle.demands.specs.Ledger.{Answer, Extent}
use Rattle.demands.specs.Instance.{archive}

-- a message, or anything else that happens, and the index that is lent with it; only a request looks at one
pub record ItemBy : Type 0 where
  pub item : Item archive
  pub index : Bytes

pub record EventBy : Type 0 where
  pub event : Event archive
  pub index : Bytes

-- what is seen of a request: the answer, the session, the log and its waiting part
abbrev pub seen_of : Outcome → Seen Answer Session Lent
seen_of o = record { answer = record { number = o.number; buffer = o.reply }; session = o.session; log = o.lent }

-- a request by the index that is lent with it, as `answer` has it by the scan
abbrev pub answer_by : Standing archive → ItemBy → Turn (Seen Answer Session Lent) (Standing archive)
answer_by s q =
    let a = q.item.request in
    let o = seen_of (step_by (given archive s.past q.item) a.message a.date q.index s.log a.buffer).outcome in
    record { shown = o; state = record { log = o.log; past = s.past ++ (o.session ∷ []) } }

-- an event: a request by index, and all else as it was
abbrev pub happens_by : Bytes → Standing archive → Event archive → Turn (Shown Answer Session Lent) (Standing archive)
happens_by index s (ask q) = let t = answer_by s (record { item = q; index = index }) in record { shown = answered t.shown; state = t.state }
happens_by index s (harm cs hurt) = happen archive s (harm cs hurt)
happens_by index s (stop l) = happen archive s (stop l)
happens_by index s (crash q arrived torn l hurt) = happen archive s (crash q arrived torn l hurt)
happens_by index s (grow g) = happen archive s (grow g)

abbrev pub happen_by : Standing archive → EventBy → Turn (Shown Answer Session Lent) (Standing archive)
happen_by s e = happens_by e.index s e.event

abbrev pub items_of : List ItemBy → List (Item archive)
items_of = map (λ (q : ItemBy). q.item)

abbrev pub events_of : List EventBy → List (Event archive)
events_of = map (λ (e : EventBy). e.event)

-- intact rows of one type and score have the same bytes: "in which sound blocks of one score and type have the same bytes", said of the ledger. Where a block
-- was damaged, stored again with other bytes of the same score and healed, it is there twice: "Where two copies differ this speaks of the scan; #101
-- promises nothing for the index there"
abbrev pub Agreed : Books archive → Type 0
Agreed b = (r x : Row) → Memᴰ r (intact archive b.ledger) → Memᴰ x (intact archive b.ledger) → r.kind ≡ x.kind → r.score ≡ x.score
    → r.bytes ≡ x.bytes

-- so it is where a request is asked; nothing else looks at an index
abbrev pub AgreedAtRequest : Books archive → Event archive → Type 0
AgreedAtRequest b (ask q) = Agreed b
AgreedAtRequest b (harm cs hurt) = Unit {0}
AgreedAtRequest b (stop l) = Unit {0}
AgreedAtRequest b (crash q arrived torn l hurt) = Unit {0}
AgreedAtRequest b (grow g) = Unit {0}

abbrev pub Agreeing : Books archive → Event archive → Type 0
Agreeing b e = Possible archive b e × AgreedAtRequest b e

-- from a blank log on, whatever happens of such a kind, by any index: what is seen is the ledger's
abbrev pub EverySuch : (Books archive → Event archive → Type 0) → Type 0
EverySuch Such = (x : Extent) (es : List EventBy) → Along Such (recount_event archive) (blank_books archive x) (events_of es)
    → (trace happen_by (blank-log archive x) es).seen ≡ (trace (recount_event archive) (blank_books archive x) (events_of es)).seen

-- healing too
abbrev pub EveryIndex : Type 0
EveryIndex = EverySuch Agreeing

-- a sector once told as changed is told again with every later damage: none is healed. Then the bytes agree at every request
abbrev pub StaysTold : Books archive → Event archive → Type 0
StaysTold b (ask q) = Unit {0}
StaysTold b (harm cs hurt) = (n : ℕ) → has n b.ledger.changed ≡ true → has n cs ≡ true
StaysTold b (stop l) = Unit {0}
StaysTold b (crash q arrived torn l hurt) = Unit {0}
StaysTold b (grow g) = Unit {0}

abbrev pub Unhealed : Books archive → Event archive → Type 0
Unhealed b e = Possible archive b e × StaysTold b e

abbrev pub EveryIndexUnhealed : Type 0
EveryIndexUnhealed = EverySuch Unhealed

-- the log "in which sound blocks of one score and type have the same bytes" is every log of demands 2 and 3: after any list of requests on a blank one,
abbrev pub NoClashFirst : Type 0
NoClashFirst = (x : Extent) (qs : List (Item archive)) → AllOfBytes archive qs → NoClash (one_log (first-log archive x qs).log)

-- and after damage, zeroed sectors too, and a second list
abbrev pub NoClashSecond : Type 0
NoClashSecond = (x : Extent) (before later : List (Item archive)) → AllOfBytes archive before → AllOfBytes archive later
    → archive.start (first-log archive x before).log ≡ archive.used (first-log archive x before).log
    → (cs : List ℕ) (hurt : Lent) → Zeroing archive (archive.at (first-log archive x before).log) x cs hurt
    → NoClash (one_log (second-log archive x before hurt later).log)

-- demand 2 by any index: "From a blank log that only it writes, every sequence of requests is answered as a plain ledger would"
abbrev pub Demand2ByIndex : Type 0
Demand2ByIndex = (x : Extent) (qs : List ItemBy) → AllOfBytes archive (items_of qs)
    → (trace answer_by (blank-log archive x) qs).seen ≡ (trace (recount archive) (blank_books archive x) (items_of qs)).seen

-- the archive after a list by any index
abbrev pub first_log_by : Extent → List ItemBy → Standing archive
first_log_by x before = (trace answer_by (blank-log archive x) before).left

-- demand 3 by any index, of damage of a kind: as `Demand3With` has it
abbrev pub Demand3ByIndexWith : ((ℕ → Bytes) → Extent → List ℕ → Lent → Type 0) → Type 0
Demand3ByIndexWith Kind =
    (x : Extent) (before later : List ItemBy) → AllOfBytes archive (items_of before) → AllOfBytes archive (items_of later)
    → archive.start (first_log_by x before).log ≡ archive.used (first_log_by x before).log
    → (cs : List ℕ) (hurt : Lent) → Kind (archive.at (first_log_by x before).log) x cs hurt
    → ((trace answer_by (blank-log archive x) before).seen ≡ (trace (recount archive) (blank_books archive x) (items_of before)).seen)
    × ((trace answer_by (harmed archive hurt (first_log_by x before)) later).seen
    ≡ (trace (recount archive) (harmed_books archive cs hurt (first_books archive x (items_of before))) (items_of later)).seen)

-- "A list of requests, then damage to sectors, then another list: answers, session and log are the ledger's, told only which sectors changed"
abbrev pub Demand3ByIndex : Type 0
Demand3ByIndex = Demand3ByIndexWith (Damage archive)

-- the same of zeroed sectors
abbrev pub Demand3ZeroedByIndex : Type 0
Demand3ZeroedByIndex = Demand3ByIndexWith (Zeroing archive)
