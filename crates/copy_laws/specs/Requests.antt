-- "blocks are appended to that log itself and count there as written and synced": to the second log's ledger a copy is the list of its writes.
use Rattle.std.specs.Prelude.{◌≡◌, true, List, [], ◌∷◌, ◌++◌, map, ◌⊎◌, ℕ, ◌≤◌, length, replicate}
use Rattle.std.proofs.Math.Option.{Option, none, some}
use Rattle.buffer.specs.Bytes.{Bytes}
use Rattle.sector.specs.Sector.{is_date}
use Rattle.sector_log.specs.LookUp.{log_allowed}
use Rattle.sector_log.specs.Parts.{alone}
use Rattle.message.specs.Message.{framed, data_of, request_of}
use Rattle.message.specs.declared.Request.TheVariants.{Write}
use Rattle.request.specs.declared.Session.{Session}
use Rattle.request.specs.declared.Session.TheVariants.{Greeted}
use Rattle.request.specs.Step.{reply_room, step}
use Rattle.visit.specs.Visit.{end_number}
use Rattle.walk.specs.Walk.{walk_of}
use Rattle.ledger.specs.Trace.{trace}
use Rattle.ledger.specs.History.{Item, AllOfBytes, answer}
use Rattle.ledger.specs.Events.{Event, ask, stop, log-then}
use Rattle.demands.specs.Instance.{relent, archive}
use Rattle.promises.specs.Histories.{afterwards}
use Rattle.events.specs.Events.{Past, log_then}
use Rattle.writer.specs.Blocks.{Typed}
use Rattle.writer_laws.specs.Asking.{asked, numbers, requests}
use Rattle.copying.specs.Copy.{copy_allowed, copy_of}
use Rattle.copying.specs.PostOrder.{type_of, Visit, post_order_of}
use Rattle.copying.specs.Promises.{HeldIn, wrote}

-- a message that asks for a block to be written, with the call's date and to a log "for which nothing waits", leaves of that log what the copy's write does
abbrev pub WritesAreRequests : Type 0
WritesAreRequests = (first date : Bytes) (v : Visit) (s m buffer : Bytes) → HeldIn first v → is_date date ≡ true → log_allowed (length s) ≡ true
    → framed m ≡ true → reply_room ≤ length buffer → request_of m ≡ Write (type_of v.role) → data_of m ≡ v.bytes
    → (step Greeted m (some date) (alone s) buffer).lent ≡ alone (wrote date v s)

-- the blocks that a copy stores, up to the first refused one: those of the walk, in post-order
abbrev pub typed : Visit → Typed
typed v = record { kind = type_of v.role; bytes = v.bytes }

abbrev pub copy_blocks : Bytes → Bytes → Bytes → ℕ → List Typed
copy_blocks log waiting score n = map typed (post_order_of log waiting score n).visits

-- their write messages, behind a hello, up to and including the refused one. Nothing waits for that log: each is written to the log itself
abbrev pub copy_requests : Bytes → Bytes → Bytes → Bytes → Bytes → ℕ → Bytes → List Session → List (Item archive)
copy_requests log waiting date score second n buffer past = requests date buffer (length past) (asked (alone second) date (copy_blocks log waiting score n))

-- the copy and these messages leave the same log. They are of bytes, so that all that is proved of histories speaks of it
abbrev pub CopyIsRequests : Type 0
CopyIsRequests = (log waiting date score second : Bytes) (n : ℕ) (buffer : Bytes) (past : List Session)
    → copy_allowed (length log) (length waiting) (length second) ≡ true → is_date date ≡ true → reply_room ≤ length buffer
    → let qs = copy_requests log waiting date score second n buffer past in
    AllOfBytes archive qs
    × (afterwards (alone second) past qs ≡ alone (copy_of log waiting date score second n).second)
    × (map (λ s. s.answer.number) (trace (answer archive) (record { log = alone second; past = past }) qs).seen
    ≡ 0 ∷ numbers (alone second) date (copy_blocks log waiting score n))

-- these numbers: 0 for each block where the copy answers as the walk does; else 0 for those before the refused one, and the copy's own number for that
abbrev pub NumbersAreItsOwn : Type 0
NumbersAreItsOwn = (log waiting date score second : Bytes) (n : ℕ) → copy_allowed (length log) (length waiting) (length second) ≡ true → is_date date ≡ true
    → let c = copy_of log waiting date score second n in
    let xs = copy_blocks log waiting score n in
    ((c.answer ≡ walk_of log waiting score n) × (numbers (alone second) date xs ≡ replicate (length xs) 0))
    ⊎ ((k : ℕ) × (numbers (alone second) date xs ≡ replicate k 0 ++ (end_number c.answer.end ∷ [])))

-- a copy as events: what is lent with the second log is put away, the messages, and a blank waiting part of any length is lent again, or none
abbrev pub copy_events : List (Item archive) → Option ℕ → List (Event archive)
copy_events qs lent = stop none ∷ (map ask qs ++ (stop lent ∷ []))

-- whatever happened to the second log, after a copy into it there is a history of events that leaves what the copy leaves: what is proved of events holds there
abbrev pub CopyIsEvents : Type 0
CopyIsEvents = (h : Past) (log waiting date score : Bytes) (n : ℕ) (buffer : Bytes) (lent : Option ℕ) → let second = (log_then h).log in
    copy_allowed (length log) (length waiting) (length second) ≡ true → is_date date ≡ true → reply_room ≤ length buffer
    → (h' : Past) × (h'.events ≡ h.events ++ copy_events (copy_requests log waiting date score second n buffer (log-then archive h).past) lent)
    × (h'.size ≡ h.size)
    × (log_then h' ≡ relent lent (alone (copy_of log waiting date score second n).second))
