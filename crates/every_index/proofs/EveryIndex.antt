-- The demands by any index: each request is answered as by the scan, since no two sound blocks of the log clash; and whatever happens, where none do.
use mathlib.Core.Path.{◌≡◌, refl, ap, subst, ◌∙◌}
use mathlib.Core.Bool.{true}
use mathlib.Core.List.{List, [], ◌∷◌, ◌++◌}
use Prim.Native.Nat.{ℕ}
use native.Mathlib.Omega.{arith}
use Rattle.buffer.specs.Bytes.{Bytes}
use Rattle.sector_log.specs.Parts.{Lent, one_log}
use Rattle.hint.specs.Promises.{NoClash}
use Rattle.request.specs.Step.{Outcome}
use Rattle.request.specs.declared.Session.{Session}
use Rattle.indexed.proofs.AsScan.{reads_as_scan}
use Rattle.ledger.specs.Archive.{Seen}
use Rattle.ledger.specs.Ledger.{has}
use Rattle.ledger.specs.Trace.{Turn, Trace, trace, Along}
use Rattle.ledger.specs.History.{Item, AllOfBytes, given, Standing, answer, Books, recount, blank-log, blank_books, harmed, harmed_books, first-log, first_books, second-log, second_books, Zeroing}
use Rattle.ledger.specs.Events.{Shown, Event, ask, harm, stop, crash, grow, answered, happen, beginning, recount_event, Possible}
use Rattle.ledger.proofs.Trace.{along_all, along_gives, trace-keeps}
use Rattle.ledger.proofs.Lists.{Stands, changed-after, goes_on_lem, follows}
use Rattle.ledger.proofs.Happens.{begins-blank, follows-all, all_that_happens}
use Rattle.ledger.proofs.After.{none-waits-first, zeroing_first}
use Rattle.ledger.proofs.Harm.{damage_zeroing}
use Rattle.ledger.proofs.Theorem.{demand2, demand3_zeroed}
use Rattle.demands.specs.Ledger.{Answer, Extent}
use Rattle.demands.specs.Instance.{archive}
use Rattle.demands.proofs.Lawful.{lawful}
use Rattle.every_index.specs.EveryIndex.{ItemBy, EventBy, seen_of, answer_by, happens_by, happen_by, items_of, events_of, Agreed, AgreedAtRequest, Agreeing, EveryIndex}
use Rattle.every_index.specs.EveryIndex.{Unhealed, EveryIndexUnhealed, NoClashFirst, NoClashSecond, Demand2ByIndex, first_log_by, Demand3ByIndex, Demand3ZeroedByIndex}
use Rattle.every_index.proofs.Names.{OneOfAName, one-empty, one_told, one-stop, one-crashed, one-request, one-beginning}
use Rattle.demands.proofs.NewNames.{name_of, adds-new-names}
use Rattle.every_index.proofs.NoClash.{one_agreed, no_clash}
use Rattle.every_index.proofs.Traces.{same-trace}

-- what holds between two requests: the log is the ledger's, and no two intact rows have the same type and score
record Holds (s : Standing archive) (b : Books archive) : Type 0 where
  stands : Stands archive s b
  one : OneOfAName archive name_of b.ledger

-- what a request leaves, by its outcome
turn : Standing archive → Outcome → Turn (Seen Answer Session Lent) (Standing archive)
turn s o = let x = seen_of o in record { shown = x; state = record { log = x.log; past = s.past ++ (x.session ∷ []) } }

-- a request by any index is the request by the scan
pub as_scan : (s : Standing archive) (b : Books archive) (q : ItemBy) → Stands archive s b → Agreed b → answer_by s q ≡ answer archive s q.item
unfolding turn
as_scan s b q S A =
    let a = q.item.request in
    ap (turn s)
    (reads_as_scan (given archive s.past q.item) a.message a.date q.index s.log a.buffer (no_clash s.log b S.mirrors A))

-- ---- lists of requests

item-step : (s : Standing archive) (b : Books archive) (q : ItemBy) → archive.OfBytes q.item.request → Holds s b
    → (answer_by s q ≡ answer archive s q.item) × Holds (answer archive s q.item).state (recount archive b q.item).state
item-step s b q ok H = (
  as_scan s b q H.stands (one_agreed b H.one),
  record { stands = goes_on_lem archive lawful s b q.item ok H.stands; one = one-request archive name_of adds-new-names b q.item ok H.one },
)

list_by : (s : Standing archive) (b : Books archive) (qs : List ItemBy) → AllOfBytes archive (items_of qs) → Holds s b
    → trace answer_by s qs ≡ trace (answer archive) s (items_of qs)
list_by s b qs ok = same-trace answer_by (answer archive) (λ (q : ItemBy). q.item) (recount archive) Holds (λ _ q. archive.OfBytes q.request) item-step s b qs
    (along_all (recount archive) (λ q. archive.OfBytes q.request) b (items_of qs) ok)

blank_holds : (x : Extent) → Holds (blank-log archive x) (blank_books archive x)
blank_holds x = record { stands = begins-blank archive lawful x; one = one-empty archive name_of }

first_by : (x : Extent) (qs : List ItemBy) → AllOfBytes archive (items_of qs) → trace answer_by (blank-log archive x) qs ≡ trace (answer archive) (blank-log archive x) (items_of qs)
first_by x qs ok = list_by (blank-log archive x) (blank_books archive x) qs ok (blank_holds x)

pub demand2_by_index : Demand2ByIndex
demand2_by_index x qs ok =
    ap (λ (t : Trace (Seen Answer Session Lent) (Standing archive)). t.seen) (first_by x qs ok) ∙ demand2 archive lawful x (items_of qs) ok

-- what held before a list holds after it
list_holds : (s : Standing archive) (b : Books archive) (qs : List (Item archive)) → AllOfBytes archive qs → Holds s b
    → Holds (trace (answer archive) s qs).left (trace (recount archive) b qs).left
list_holds s b qs ok H = record {
  stands = (follows archive lawful s b qs ok H.stands).left;
  one = trace-keeps (recount archive) (λ c. OneOfAName archive name_of c.ledger) (λ q. archive.OfBytes q.request)
      (λ c q k. one-request archive name_of adds-new-names c q k) b qs ok H.one;
}

first_holds : (x : Extent) (qs : List (Item archive)) → AllOfBytes archive qs → Holds (first-log archive x qs) (first_books archive x qs)
first_holds x qs ok = list_holds (blank-log archive x) (blank_books archive x) qs ok (blank_holds x)

module _ (x : Extent) (before : List (Item archive)) (ok : AllOfBytes archive before) (cs : List ℕ) (hurt : Lent) where
  none-changed : (n : ℕ) → has n (first_books archive x before).ledger.changed ≡ true → has n cs ≡ true
  none-changed n e =
      let z = rw (changed-after archive (blank_books archive x) before ok).0 at e in
      let y : ◌≡◌ {A = ℕ} 0 1 = cc in absurd (omega arith)

  hurt_holds : archive.start (first-log archive x before).log ≡ archive.used (first-log archive x before).log → Zeroing archive (archive.at (first-log archive x before).log) x cs hurt
      → Holds (harmed archive hurt (first-log archive x before)) (harmed_books archive cs hurt (first_books archive x before))
  hurt_holds idle D =
      let b = first_books archive x before in
      let may : Possible archive b (harm cs hurt) = (none-waits-first archive lawful x before ok idle, zeroing_first archive lawful x before ok cs hurt D) in
      record {
        stands = (follows-all archive lawful (first-log archive x before) b (harm cs hurt ∷ []) (may, tt) (first_holds x before ok).stands).left;
        one = one_told archive name_of b.ledger.rows cs b.ledger (λ r m. m) none-changed (first_holds x before ok).one;
      }

pub demand3_zeroed_by_index : Demand3ZeroedByIndex
demand3_zeroed_by_index x before later ok more idle cs hurt D =
    let same = first_by x before ok in
    let first : first_log_by x before ≡ first-log archive x (items_of before) = ap (λ (t : Trace (Seen Answer Session Lent) (Standing archive)). t.left) same in
    let idle' = subst (λ (s : Standing archive). archive.start s.log ≡ archive.used s.log) first idle in
    let D' = subst (λ (s : Standing archive). Zeroing archive (archive.at s.log) x cs hurt) first D in
    let both = demand3_zeroed archive lawful x (items_of before) (items_of later) ok more idle' cs hurt D' in
    let second = list_by (harmed archive hurt (first-log archive x (items_of before))) (harmed_books archive cs hurt (first_books archive x (items_of before))) later more
    (hurt_holds x (items_of before) ok cs hurt idle' D') in (
      ap (λ (t : Trace (Seen Answer Session Lent) (Standing archive)). t.seen) same ∙ both.0,
      ap (λ (s : Standing archive). (trace answer_by (harmed archive hurt s) later).seen) first
          ∙ ap (λ (t : Trace (Seen Answer Session Lent) (Standing archive)). t.seen) second ∙ both.1,
    )

pub demand3_by_index : Demand3ByIndex
demand3_by_index x before later ok more idle cs hurt D =
    demand3_zeroed_by_index x before later ok more idle cs hurt (damage_zeroing archive lawful (archive.at (first_log_by x before).log) x cs hurt D)

-- ---- no two sound blocks clash

holds_clear : (s : Standing archive) (b : Books archive) → Holds s b → NoClash (one_log s.log)
holds_clear s b H = no_clash s.log b H.stands.mirrors (one_agreed b H.one)

pub no_clash-first : NoClashFirst
no_clash-first x qs ok = holds_clear (first-log archive x qs) (first_books archive x qs) (first_holds x qs ok)

pub no_clash-second : NoClashSecond
no_clash-second x before later ok more idle cs hurt D =
    holds_clear (second-log archive x before hurt later) (second_books archive x before cs hurt later)
    (list_holds (harmed archive hurt (first-log archive x before)) (harmed_books archive cs hurt (first_books archive x before)) later more (hurt_holds x before ok cs hurt idle D))

-- ---- whatever happens

pub event-same : (index : Bytes) (s : Standing archive) (b : Books archive) (e : Event archive) → Stands archive s b → AgreedAtRequest b e
    → happens_by index s e ≡ happen archive s e
event-same index s b (ask q) S A =
    ap (λ (t : Turn (Seen Answer Session Lent) (Standing archive)). record { shown = answered t.shown; state = t.state }) (as_scan s b (record { item = q; index = index }) S A)
event-same index s b (harm cs hurt) S A = refl
event-same index s b (stop l) S A = refl
event-same index s b (crash q arrived torn l hurt) S A = refl
event-same index s b (grow g) S A = refl

event-step : (s : Standing archive) (b : Books archive) (e : EventBy) → Agreeing b e.event → Stands archive s b
    → (happen_by s e ≡ happen archive s e.event) × Stands archive (happen archive s e.event).state (recount_event archive b e.event).state
event-step s b e ok S = (event-same e.index s b e.event S ok.1, (follows-all archive lawful s b (e.event ∷ []) (ok.0, tt) S).left)

pub possible : (b : Books archive) (es : List (Event archive)) → Along Agreeing (recount_event archive) b es → Along (Possible archive) (recount_event archive) b es
possible b es = along_gives (recount_event archive) (λ _. Unit {0}) Agreeing (Possible archive) (λ _ _ _ ok. ok.0) (λ _ _ _ _. tt) b es tt

pub every_index : EveryIndex
every_index x es ok =
    ap (λ (t : Trace (Shown Answer Session Lent) (Standing archive)). t.seen)
    (same-trace happen_by (happen archive) (λ (e : EventBy). e.event) (recount_event archive) (Stands archive) Agreeing event-step (blank-log archive x) (blank_books archive x) es ok
    (begins-blank archive lawful x))
    ∙ all_that_happens archive lawful x (events_of es) (possible (blank_books archive x) (events_of es) ok)

-- ---- where nothing is healed

pub one-event : (b : Books archive) (e : Event archive) → Unhealed b e → OneOfAName archive name_of b.ledger → OneOfAName archive name_of (recount_event archive b e).state.ledger
one-event b (ask q) ok O = one-request archive name_of adds-new-names b q ok.0 O
one-event b (harm cs hurt) ok O = one_told archive name_of b.ledger.rows cs b.ledger (λ r m. m) ok.1 O
one-event b (stop l) ok O = one-stop archive name_of b.ledger O
one-event b (crash q arrived torn l hurt) ok O =
    one-crashed archive name_of arrived torn (beginning archive b q) (one-beginning archive name_of adds-new-names b q ok.0.0 O)
one-event b (grow g) ok O = O

pub agreed_at : (b : Books archive) (e : Event archive) → OneOfAName archive name_of b.ledger → AgreedAtRequest b e
agreed_at b (ask q) O = one_agreed b O
agreed_at b (harm cs hurt) O = tt
agreed_at b (stop l) O = tt
agreed_at b (crash q arrived torn l hurt) O = tt
agreed_at b (grow g) O = tt

-- from a blank log on the bytes agree at every request
pub unhealed_agrees : (x : Extent) (es : List (Event archive)) → Along Unhealed (recount_event archive) (blank_books archive x) es
    → Along Agreeing (recount_event archive) (blank_books archive x) es
unhealed_agrees x es ok =
    along_gives (recount_event archive) (λ b. OneOfAName archive name_of b.ledger) Unhealed Agreeing
    (λ b e O u. (u.0, agreed_at b e O)) (λ b e O u. one-event b e u O) (blank_books archive x) es (one-empty archive name_of) ok

pub every_index_unhealed : EveryIndexUnhealed
every_index_unhealed x es ok = every_index x es (unhealed_agrees x (events_of es) ok)
