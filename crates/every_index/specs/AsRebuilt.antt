-- An index that is lent with every request, and so kept by the writes: "A write message ... also enters the block it stores".
use Rattle.std.specs.Prelude.{◌≡◌, true, List, [], ◌∷◌, ◌++◌, ℕ, ◌*◌, ◌<◌, length}
use Rattle.std.proofs.Math.Option.{Option}
use Rattle.buffer.specs.Bytes.{Bytes}
use Rattle.digits.specs.Number.{small}
use Rattle.sector_log.specs.LookUp.{look_up}
use Rattle.sector_log.specs.Parts.{Lent, one_log}
use Rattle.request.specs.declared.Session.{Session}
use Rattle.index.specs.Index.{places, free}
use Rattle.hint.specs.Hint.{look_up_by}
use Rattle.hint.specs.Rebuilt.{rebuilt}
use Rattle.hint.specs.Promises.{Exact, RoomForAll}
use Rattle.indexed.specs.Indexed.{step_by}
use Rattle.ledger.specs.Archive.{Seen}
use Rattle.ledger.specs.Trace.{Turn, trace}
use Rattle.ledger.specs.History.{Item, AllOfBytes, given, Standing, blank-log}
use Rattle.demands.specs.Ledger.{Answer, Extent}
use Rattle.demands.specs.Instance.{archive}
use Rattle.every_index.specs.EveryIndex.{seen_of}

-- one request, on any log: an index that is as rebuilding it makes it is so afterwards, with what was stored or settled
abbrev pub KeptIsRebuilt : Type 0
KeptIsRebuilt = (s : Session) (m : Bytes) (date : Option Bytes) (index : Bytes) (L : Lent) (buffer : Bytes) → small m ≡ true
    → let after = step_by s m date (rebuilt (one_log L) index) L buffer in after.index ≡ rebuilt (one_log after.outcome.lent) index

-- with nothing waiting that is what rebuilding from the settled log alone gives: "The report and the index's rebuilding take the settled log alone"
abbrev pub SettledRebuilt : Type 0
SettledRebuilt = (L : Lent) (index : Bytes) → archive.start L ≡ archive.used L → rebuilt (one_log L) index ≡ rebuilt L.log index

-- the archive between two requests, and the index that goes with it
pub record Keeping : Type 0 where
  pub standing : Standing archive
  pub index : Bytes

-- a request by the index that the last one left
abbrev pub answer_keeping : Keeping → Item archive → Turn (Seen Answer Session Lent) Keeping
answer_keeping k q =
    let a = q.request in
    let x = step_by (given archive k.standing.past q) a.message a.date k.index k.standing.log a.buffer in
    let o = seen_of x.outcome in
    record { shown = o; state = record { standing = record { log = o.log; past = k.standing.past ++ (o.session ∷ []) }; index = x.index } }

-- what a list of requests leaves
abbrev pub kept_by : Standing archive → Bytes → List (Item archive) → Keeping
kept_by s index qs = (trace answer_keeping (record { standing = s; index = index }) qs).left

-- the index leads to every block of the log, without the scan and to where the scan finds it, if no bucket has fewer places than blocks
abbrev pub Leads : Keeping → Type 0
Leads k = let log = one_log k.standing.log in
    RoomForAll log (length k.index) → Exact log k.index × ((t : ℕ) (s : Bytes) → look_up_by log k.index t s ≡ look_up log t s)

-- every list of requests, on any log: rebuilt at the beginning, the index is as if it had been rebuilt at the end
abbrev pub KeptByRequests : Type 0
KeptByRequests = (s : Standing archive) (index : Bytes) (qs : List (Item archive)) → AllOfBytes archive qs
    → let after = kept_by s (rebuilt (one_log s.log) index) qs in
    (after.index ≡ rebuilt (one_log after.standing.log) index) × Leads after

-- and from a blank log on, with an index in which every place is free
abbrev pub KeptHits : Type 0
KeptHits = (x : Extent) (index : Bytes) (qs : List (Item archive)) → ((q : ℕ) → q < 256 * places (length index) → free index q ≡ true) → AllOfBytes archive qs
    → let after = kept_by (blank-log archive x) index qs in (after.index ≡ rebuilt (one_log after.standing.log) index) × Leads after
