-- Whatever happens to a log, in any order and as often as it likes: requests, damage, stops, stops inside a write, growth. What it means at each
-- moment, in plain terms; the words in quotes are the papers'.
use Rattle.std.specs.Prelude.{◌≡◌, true, false, ◌≢◌, ℕ, ◌+◌, ◌*◌, ◌%◌, ◌≤◌, ◌<◌, eqb, length}
use mathlib.Core.List.{List, Memᴰ}
use Rattle.std.proofs.Math.Option.{Option, some}
use Rattle.buffer.specs.Bytes.{Bytes, zeros}
use Rattle.digits.specs.Number.{small}
use Rattle.sha1_digest.specs.Sha1.{sha1_of}
use Rattle.refusal.specs.declared.Refusal.{Refusal}
use Rattle.refusal.specs.declared.Refusal.TheVariants.{NotKnown, OverCount, Clash}
use Rattle.message.specs.Message.{tag_of}
use Rattle.message.specs.Reply.{read_reply, write_reply}
use Rattle.kind.specs.Kind.{zero_score}
use Rattle.sector.specs.Sector.{sector_length}
use Rattle.block.specs.Block.{Row, parts}
use Rattle.block.specs.Log.{at, Alike, used, sound}
use Rattle.sector_log.specs.Parts.{Lent, one_log}
use Rattle.request.specs.Step.{step, granted, refused}
use Rattle.request.specs.declared.Session.{Session}
use Rattle.request.specs.declared.Session.TheVariants.{Greeted}
use Rattle.ledger.specs.Archive.{adds}
use Rattle.ledger.specs.Ledger.{Ledger, has, has_all, covers, intact, end, crashed, Doubtful}
use Rattle.ledger.specs.Reflects.{cell, Reflects}
use Rattle.ledger.specs.Aftermath as aftermath
use Rattle.ledger.specs.History.{Item, AllOfBytes, ruling}
use Rattle.ledger.specs.Events.{harm, crash, beginning, SomeOfBytes, Possible, EventHistory, log-then, books_then}
use Rattle.demands.specs.Ledger.{covered_by, any_uncovered, first_uncovered}
use Rattle.demands.specs.Instance.{relent, grown, archive}
use Rattle.promises.specs.Requests.{Writes, Reads}
use Rattle.promises.specs.Histories.{History, log_of, ledger_of, afterwards}

-- all that happened so far; the log and the ledger then
abbrev pub Past : Type 0
Past = EventHistory archive

abbrev pub log_then : Past → Lent
log_then h = (log-then archive h).log

abbrev pub ledger_then : Past → Ledger archive
ledger_then h = (books_then archive h).ledger

-- at every moment the log reflects the ledger: the one step from the invariant to histories
abbrev pub ReflectedThen : Type 0
ReflectedThen = (h : Past) → Reflects archive (log_then h) (ledger_then h)

-- "not known", with "the first uncovered one's" number
abbrev pub not_known_then : Past → Refusal
not_known_then h = NotKnown (record { 0 = first_uncovered (intact archive (ledger_then h)) (end archive (ledger_then h)) 0 })

-- the histories of demands 2 and 3 are among them
abbrev pub HistoriesAreAmong : Type 0
HistoriesAreAmong = (h : History) → (p : Past) × (log_then p ≡ log_of h) × (ledger_then p ≡ ledger_of h)

-- ---- "at each moment"

-- "a wholly unchanged copy" of the block of this type and score
pub record Unchanged (h : Past) (t : ℕ) (s : Bytes) (r : Row) : Type 0 where
  pub stored : Memᴰ r (ledger_then h).rows
  pub of_type : r.kind ≡ t
  pub of-score : r.score ≡ s
  pub wholly : (n : ℕ) → covers archive r n ≡ true → has n (ledger_then h).changed ≡ false

-- "a block with a wholly unchanged copy is answered (the first such copy, should two of one score and type differ)"
abbrev pub UnchangedIsAnswered : Type 0
UnchangedIsAnswered = (h : Past) (t count : ℕ) (s m : Bytes) (date : Option Bytes) (buffer : Bytes) (x : Row)
    → s ≢ zero_score → Unchanged h t s x → Reads m date buffer (log_then h) t count s
    → (r : Row) × Unchanged h t s r × ((y : Row) → Unchanged h t s y → r.first ≤ y.first)
    × (length r.bytes ≤ count → step Greeted m date (log_then h) buffer ≡ granted (read_reply (tag_of m) r.bytes) Greeted (log_then h) buffer)
    × (count < length r.bytes → step Greeted m date (log_then h) buffer ≡ refused OverCount (tag_of m) Greeted (log_then h) buffer)

-- so does a write meet it: the same bytes are a duplicate, which adds nothing, and others are 15
abbrev pub UnchangedIsMet : Type 0
UnchangedIsMet = (h : Past) (t : ℕ) (d m : Bytes) (date : Option Bytes) (buffer : Bytes) (x : Row)
    → sha1_of d ≢ zero_score → Unchanged h t (sha1_of d) x → Writes m date buffer (log_then h) t d
    → (r : Row) × Unchanged h t (sha1_of d) r × ((y : Row) → Unchanged h t (sha1_of d) y → r.first ≤ y.first)
    × (r.bytes ≡ d → step Greeted m date (log_then h) buffer ≡ granted (write_reply (tag_of m) (sha1_of d)) Greeted (log_then h) buffer)
    × (r.bytes ≢ d → step Greeted m date (log_then h) buffer ≡ refused Clash (tag_of m) Greeted (log_then h) buffer)

-- "and all others but the empty block are "not known" while any sector is changed"
abbrev pub OthersNotKnown : Type 0
OthersNotKnown = (h : Past) (t count : ℕ) (s m : Bytes) (date : Option Bytes) (buffer : Bytes) (k : ℕ) → s ≢ zero_score → has k (ledger_then h).changed ≡ true
    → ((r : Row) → Unchanged h t s r → ⊥) → Reads m date buffer (log_then h) t count s
    → step Greeted m date (log_then h) buffer ≡ refused (not_known_then h) (tag_of m) Greeted (log_then h) buffer

-- where no sector is changed but a blank one stays between rows, as when a sector was damaged, written behind and healed, it is "not known" too
abbrev pub GapNotKnown : Type 0
GapNotKnown = (h : Past) (t count : ℕ) (s m : Bytes) (date : Option Bytes) (buffer : Bytes) (k : ℕ) → s ≢ zero_score → has k (ledger_then h).changed ≡ false
    → k < end archive (ledger_then h) → covered_by (ledger_then h).rows k ≡ false → ((r : Row) → Unchanged h t s r → ⊥) → Reads m date buffer (log_then h) t count s
    → (zeros (at (one_log (log_then h)) k) ≡ true) × (step Greeted m date (log_then h) buffer ≡ refused (not_known_then h) (tag_of m) Greeted (log_then h) buffer)

-- "A doubtful sector is never written over": in any log, by any request
abbrev pub NeverWrittenOver : Type 0
NeverWrittenOver = (s : Session) (m : Bytes) (date : Option Bytes) (L : Lent) (buffer : Bytes) (k : ℕ)
    → small m ≡ true → Doubtful archive L k → at (one_log (step s m date L buffer).lent) k ≡ at (one_log L) k

-- a healed sector's rows are intact again: whatever was changed before, the rows of which damage told anew leaves every sector are sound blocks
abbrev pub HealedIsIntact : Type 0
HealedIsIntact = (h : Past) (cs : List ℕ) (hurt : Lent) (r : Row) → Possible archive (books_then archive h) (harm cs hurt)
    → Memᴰ r (ledger_then h).rows → ((n : ℕ) → covers archive r n ≡ true → has n cs ≡ false) → sound (one_log hurt) r.first ≡ some r

-- what is read is what a row holds none of whose sectors is changed
abbrev pub AnswersAreUnchanged : Type 0
AnswersAreUnchanged = (h : Past) (t count : ℕ) (s m : Bytes) (date : Option Bytes) (buffer : Bytes)
    → Reads m date buffer (log_then h) t count s → s ≢ zero_score → (step Greeted m date (log_then h) buffer).number ≡ 0
    → (r : Row) × Unchanged h t s r × (step Greeted m date (log_then h) buffer ≡ granted (read_reply (tag_of m) r.bytes) Greeted (log_then h) buffer)

-- what a write is answered for reads back after any further requests, and is not stored again: "as if nothing had happened"
abbrev pub StoredThenReadsBack : Type 0
StoredThenReadsBack = (h : Past) (t : ℕ) (d m : Bytes) (date : Option Bytes) (buffer : Bytes)
    → small m ≡ true → Writes m date buffer (log_then h) t d → (step Greeted m date (log_then h) buffer).number ≡ 0
    → (past : List Session) (qs : List (Item archive)) → AllOfBytes archive qs → let log = afterwards (step Greeted m date (log_then h) buffer).lent past qs in
    (count : ℕ) (m' : Bytes) (date' : Option Bytes) (buffer' : Bytes) → length d ≤ count → Reads m' date' buffer' log t count (sha1_of d)
    → step Greeted m' date' log buffer' ≡ granted (read_reply (tag_of m') d) Greeted log buffer'

abbrev pub DuplicateThenAddsNothing : Type 0
DuplicateThenAddsNothing = (h : Past) (t : ℕ) (d m : Bytes) (date : Option Bytes) (buffer : Bytes)
    → small m ≡ true → Writes m date buffer (log_then h) t d → (step Greeted m date (log_then h) buffer).number ≡ 0
    → (past : List Session) (qs : List (Item archive)) → AllOfBytes archive qs → let log = afterwards (step Greeted m date (log_then h) buffer).lent past qs in
    (m' : Bytes) (date' : Option Bytes) (buffer' : Bytes) → Writes m' date' buffer' log t d
    → step Greeted m' date' log buffer' ≡ granted (write_reply (tag_of m') (sha1_of d)) Greeted log buffer'

-- 12 is answered only while a sector is uncovered, and tells the first of them; 11 only while none is
abbrev pub TwelveThenTells : Type 0
TwelveThenTells = (h : Past) (s : Session) (m : Bytes) (date : Option Bytes) (buffer : Bytes) → (step s m date (log_then h) buffer).number ≡ 12
    → (any_uncovered (intact archive (ledger_then h)) (end archive (ledger_then h)) ≡ true)
    × (step s m date (log_then h) buffer ≡ refused (not_known_then h) (tag_of m) s (log_then h) buffer)

abbrev pub ElevenThenCovered : Type 0
ElevenThenCovered = (h : Past) (s : Session) (m : Bytes) (date : Option Bytes) (buffer : Bytes) → small m ≡ true → (step s m date (log_then h) buffer).number ≡ 11
    → any_uncovered (intact archive (ledger_then h)) (end archive (ledger_then h)) ≡ false

-- ---- a stop inside a write: the request that was never answered, if one was, the sectors that arrived, the torn ones, what is lent anew, and what the disk holds

-- a block on its way to the disk: it waits, or the request that was never answered adds it
abbrev pub OnItsWay : Past → Option (Item archive) → Row → Type 0
OnItsWay h q r = Memᴰ r (beginning archive (books_then archive h) q).rows × ((ledger_then h).start ≤ r.first)

-- the ledger after it
abbrev pub torn_ledger : Past → Option (Item archive) → List ℕ → List ℕ → Ledger archive
torn_ledger h q arrived torn = crashed archive arrived torn (beginning archive (books_then archive h) q)

module _ (h : Past) (q : Option (Item archive)) (arrived torn : List ℕ) (lend : Option ℕ) (hurt : Lent) where
  abbrev pub Torn : Type 0
  Torn = Possible archive (books_then archive h) (crash q arrived torn lend hurt)

-- what was settled, and is unchanged, is there as before
abbrev pub TornKeepsSettled : Type 0
TornKeepsSettled = (h : Past) (q : Option (Item archive)) (arrived torn : List ℕ) (lend : Option ℕ) (hurt : Lent) (t : ℕ) (s : Bytes) (r : Row)
    → Torn h q arrived torn lend hurt → Unchanged h t s r → r.first < (ledger_then h).start → sound (one_log hurt) r.first ≡ some r

-- a block that arrived whole is there
abbrev pub WholeIsThere : Type 0
WholeIsThere = (h : Past) (q : Option (Item archive)) (arrived torn : List ℕ) (lend : Option ℕ) (hurt : Lent) (r : Row)
    → Torn h q arrived torn lend hurt → OnItsWay h q r → has_all arrived r.first (parts r) ≡ true → sound (one_log hurt) r.first ≡ some r

-- each block on its way is the only one of its type and score: a write adds one only where none is unchanged, and damage falls where nothing waits
abbrev pub WaitingIsOnly : Type 0
WaitingIsOnly = (h : Past) (r : Row) → Memᴰ r (ledger_then h).rows → (ledger_then h).start ≤ r.first
    → Unchanged h r.kind r.score r × ((x : Row) → Unchanged h r.kind r.score x → x ≡ r)

-- the row of the request that was never answered is on its way
abbrev pub AddedIsOnItsWay : Type 0
AddedIsOnItsWay = (h : Past) (q : Item archive) (r : Row) → SomeOfBytes archive (some q) → (ruling archive (books_then archive h) q).effect ≡ adds r → OnItsWay h (some q) r

-- one that did not is "not known" while any of its sectors is in the used part
abbrev pub TornNotKnown : Type 0
TornNotKnown = (h : Past) (q : Option (Item archive)) (arrived torn : List ℕ) (lend : Option ℕ) (hurt : Lent) (r : Row) (count : ℕ)
    (m : Bytes) (date : Option Bytes) (buffer : Bytes)
    → Torn h q arrived torn lend hurt → OnItsWay h q r
    → has_all arrived r.first (parts r) ≡ false → r.first < used (one_log hurt) → Reads m date buffer hurt r.kind count r.score
    → let L = torn_ledger h q arrived torn in
    step Greeted m date hurt buffer ≡ refused (NotKnown (record { 0 = first_uncovered (intact archive L) (end archive L) 0 })) (tag_of m) Greeted hurt buffer

-- and as if never written if none is: each sector is as it was in the log alone
abbrev pub TornLeavesNothing : Type 0
TornLeavesNothing = (h : Past) (q : Option (Item archive)) (arrived torn : List ℕ) (lend : Option ℕ) (hurt : Lent)
    → Torn h q arrived torn lend hurt → used (one_log hurt) ≤ used (log_then h).log → Alike (one_log hurt) (log_then h).log

-- so is each block none of whose sectors is: the ledger has no row of it, and no sector of it is changed
abbrev pub TornLeavesNoRow : Type 0
TornLeavesNoRow = (h : Past) (q : Option (Item archive)) (arrived torn : List ℕ) (lend : Option ℕ) (hurt : Lent) → aftermath.AsIfNeverWritten archive h q arrived torn lend hurt

-- ---- what is settled

-- "after each request the waiting part holds their sectors and is blank beyond, while the log holds the rest": what the ledger's rows put there, but in changed sectors
abbrev pub PartsHold : Type 0
PartsHold = (h : Past) (n : ℕ) → let L = ledger_then h in
    (n < L.start → has n L.changed ≡ false → at (log_then h).log n ≡ cell archive L.rows n)
    × ((w : Bytes) → (log_then h).waiting ≡ some w → has (L.start + n) L.changed ≡ false → at w n ≡ cell archive L.rows (L.start + n))

-- what a sync was answered for is there for good: a block that is settled is a row, and settled, whatever happens after; UnchangedIsAnswered says that it is read
-- at every moment at which none of its sectors is changed
abbrev pub SettledIsForGood : Type 0
SettledIsForGood = aftermath.SettledForGood archive

-- ---- a stop between two requests

-- "its rows added since the last settling wait": a block that was settled is there after a stop, at its place; one that waited is not, and no trace of it
abbrev pub StopKeepsSettled : Type 0
StopKeepsSettled = (h : Past) (lend : Option ℕ) (t : ℕ) (s : Bytes) (r : Row) → Unchanged h t s r → r.first < (ledger_then h).start
    → sound (one_log (relent lend (log_then h))) r.first ≡ some r

abbrev pub StopDropsWaiting : Type 0
StopDropsWaiting = (h : Past) (lend : Option ℕ) → Alike (one_log (relent lend (log_then h))) (log_then h).log × (used (log_then h).log ≡ (ledger_then h).start)

-- ---- growth: whole sectors, all blank, behind those that are there

abbrev pub GrowthAddsBlanks : Type 0
GrowthAddsBlanks = (k : ℕ) (log : Bytes) → eqb (length log % sector_length) 0 ≡ true → (length (grown k log) ≡ length log + sector_length * k) × Alike (grown k log) log
