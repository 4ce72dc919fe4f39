-- Histories in which writing calls stand between events: "To the ledger a call is the list of its writes, up to and including the refused one, all with the
-- call's date".
use Rattle.std.specs.Prelude.{◌≡◌, true, cond, not, List, [], ◌∷◌, ◌++◌, map, ℕ, suc, ltb, eqb, length, replicate}
use Rattle.bedrock.specs.Choice.{on}
use Rattle.buffer.specs.Bytes.{Bytes}
use Rattle.digits.specs.Number.{small}
use Rattle.refusal.specs.declared.Refusal.{Refusal}
use Rattle.refusal.specs.declared.Refusal.TheVariants as why
use Rattle.refusal.specs.Number.{number_of}
use Rattle.kind.specs.Kind.{longest}
use Rattle.sector.specs.Sector.{is_date}
use Rattle.sector_log.specs.Parts.{Lent}
use Rattle.sector_log.specs.LookUp.{lent_allowed}
use Rattle.request.specs.Step.{reply_room}
use Rattle.request.specs.declared.Session.{Session}
use Rattle.request.specs.declared.Session.TheVariants.{Greeted}
use Rattle.ledger.specs.Trace.{Turn, trace, Along}
use Rattle.ledger.specs.History.{Item, Standing, overlaid, Books, recount, blank-log, blank_books}
use Rattle.ledger.specs.Events.{Shown, Event, ask, happen, recount_event, Possible, log-then, books_then}
use Rattle.demands.specs.Ledger.{Answer, Extent}
use Rattle.demands.specs.Instance.{extent_of, archive}
use Rattle.events.specs.Events.{Past}
use Rattle.trees.specs.Again.{waiting_of}
use Rattle.writer.specs.Blocks.{Typed, file_blocks}
use Rattle.writer.specs.Depth.{depth_of}
use Rattle.writer.specs.WriteFile.{end_number, WriteOutcome, buffers_allowed, write_file}
use Rattle.writer_laws.specs.Asking.{asked, requests, last_or}

-- what a writing call is given beside the log and its waiting part
pub record Call : Type 0 where
  pub date : Bytes
  pub slice : Bytes
  pub dsize : ℕ
  pub psize : ℕ
  pub entry : Bytes
  pub scores : Bytes

-- an event, or a writing call
pub data Happening : Type 0 where
  event : Event archive → Happening
  call : Call → Happening

-- what is seen of it: of a call its number, and the log with its waiting part
pub data Noted : Type 0 where
  happened : Shown Answer Session Lent → Noted
  wrote : ℕ → Lent → Noted

-- what the tests of a call decide by the lengths of the log and of its waiting part: a refusal, or the depth of the file
pub data Verdict : Type 0 where
  refused_by : Refusal → Verdict
  passes_at : ℕ → Verdict

-- "Tests 3, 24, 10, 16 .. all before the first block", after that of the lent buffers
unfoldable pub verdict : ℕ → ℕ → Call → Verdict
verdict m w c =
    cond (not (buffers_allowed (length c.entry) (length c.scores))) (refused_by why.Buffer)
    (cond (not (lent_allowed m w)) (refused_by why.LogLength)
    (cond (not (is_date c.date)) (refused_by why.Date)
    (cond (ltb longest (length c.slice)) (refused_by why.DataLength)
    (on (depth_of (length c.slice) c.dsize c.psize) (refused_by why.Entry) passes_at))))

abbrev pub blocks_dated : ℕ → Call → List Typed
blocks_dated depth c = file_blocks c.slice c.dsize c.psize depth

-- ---- as the archive answers

abbrev pub called : Lent → Call → WriteOutcome
called L c = write_file L.log (waiting_of L) c.date c.slice c.dsize c.psize c.entry c.scores

-- the sessions that its messages would leave, so that later messages count on from them: a hello's, and one for each block asked for
abbrev pub sessions_by : Verdict → Lent → Call → List Session
sessions_by (refused_by y) L c = []
sessions_by (passes_at depth) L c = replicate (suc (length (asked L c.date (blocks_dated depth c)))) Greeted

abbrev pub sessions_of : Lent → Call → List Session
sessions_of L c = sessions_by (verdict (length L.log) (length (waiting_of L)) c) L c

abbrev pub happen_or_write : Standing archive → Happening → Turn Noted (Standing archive)
happen_or_write s (event e) = let t = happen archive s e in record { shown = happened t.shown; state = t.state }
happen_or_write s (call c) =
    let o = called s.log c in
    record { shown = wrote (end_number o.end) o.lent; state = record { log = o.lent; past = s.past ++ sessions_of s.log c } }

-- ---- as the ledger does

-- requests up to and including the first that the ledger refuses
unfoldable pub up_to_refused : Books archive → List (Item archive) → List (Item archive)
up_to_refused b [] = []
up_to_refused b (q ∷ qs) = let t = recount archive b q in q ∷ cond (eqb t.shown.answer.number 0) (up_to_refused t.state qs) []

-- the messages of a call: a hello with a fresh session, then its blocks as writes with the session that it leaves, each with the call's date and the shortest reply
-- buffer that is allowed, all blank
abbrev pub messages_by : Books archive → Call → ℕ → List (Item archive)
messages_by b c depth = up_to_refused b (requests c.date (replicate reply_room 0) (length b.past) (blocks_dated depth c))

abbrev pub recount_writes : Books archive → List (Item archive) → Turn Noted (Books archive)
recount_writes b qs =
    let T = trace (recount archive) b qs in
    record { shown = wrote (last_or 0 (map (λ s. s.answer.number) T.seen)) (overlaid archive T.left.begin T.left.done); state = T.left }

abbrev pub recount_call : Verdict → Books archive → Call → Turn Noted (Books archive)
recount_call (refused_by y) b c = record { shown = wrote (number_of y) (overlaid archive b.begin b.done); state = b }
recount_call (passes_at depth) b c = recount_writes b (messages_by b c depth)

-- of the log the ledger is told its extent alone
abbrev pub verdict_in : Extent → Call → Verdict
verdict_in x c = verdict x.size (on x.waiting 0 (λ m. m)) c

abbrev pub recount_or_write : Books archive → Happening → Turn Noted (Books archive)
recount_or_write b (event e) = let t = recount_event archive b e in record { shown = happened t.shown; state = t.state }
recount_or_write b (call c) = recount_call (verdict_in (extent_of b.begin) c) b c

-- the premises: those of an event; the slice of a call is of bytes, and a waiting part is lent
abbrev pub May : Books archive → Happening → Type 0
May b (event e) = Possible archive b e
May b (call c) = (small c.slice ≡ true) × (archive.waits (extent_of b.begin) ≡ true)

-- from a blank log on, whatever happens, with writing calls at any place: after each of them what is seen is the ledger's
abbrev pub WritingAmongEvents : Type 0
WritingAmongEvents = (x : Extent) (hs : List Happening) → Along May recount_or_write (blank_books archive x) hs
    → (trace happen_or_write (blank-log archive x) hs).seen ≡ (trace recount_or_write (blank_books archive x) hs).seen

-- and so from any history of events on, such as one that ends with a copy (`CopyIsEvents`)
abbrev pub WritingFrom : Type 0
WritingFrom = (h : Past) (hs : List Happening) → Along May recount_or_write (books_then archive h) hs
    → (trace happen_or_write (log-then archive h) hs).seen ≡ (trace recount_or_write (books_then archive h) hs).seen

-- ---- and so whatever is said of a history of events holds where writing calls stand in it

-- the messages of a call as events; none where its tests refuse it
abbrev pub call_events : Verdict → Books archive → Call → List (Event archive)
call_events (refused_by y) b c = []
call_events (passes_at depth) b c = map ask (messages_by b c depth)

abbrev pub events_of : Books archive → Happening → List (Event archive)
events_of b (event e) = e ∷ []
events_of b (call c) = call_events (verdict_in (extent_of b.begin) c) b c

unfoldable pub expanded : Books archive → List Happening → List (Event archive)
expanded b [] = []
expanded b (h ∷ hs) = events_of b h ++ expanded (recount_or_write b h).state hs

-- the messages stand in the history in place of the calls, and log, sessions and ledger are the same
abbrev pub WrittenIsPast : Type 0
WrittenIsPast = (x : Extent) (hs : List Happening) → Along May recount_or_write (blank_books archive x) hs
    → (h : Past) × (h.size ≡ x) × (h.events ≡ expanded (blank_books archive x) hs)
    × (log-then archive h ≡ (trace happen_or_write (blank-log archive x) hs).left) × (books_then archive h ≡ (trace recount_or_write (blank_books archive x) hs).left)
