-- What the demands say in plain terms; the words in quotes are theirs. `step` is the archive's answer to one request. Each holds after every history;
-- those that speak of a log alone hold for any bytes.
use Rattle.std.specs.Prelude.{◌≡◌, true, false, ◌≢◌, ◌⊎◌, ℕ, ◌+◌, ◌≤◌, ◌<◌, length, replicate}
use mathlib.Core.List.{List, [], Memᴰ}
use Rattle.std.proofs.Math.Option.{Option, none, some}
use Rattle.buffer.specs.Bytes.{Bytes, zeros}
use Rattle.digits.specs.Number.{small}
use Rattle.sha1_digest.specs.Sha1.{sha1_of}
use Rattle.refusal.specs.declared.Refusal.{Refusal}
use Rattle.refusal.specs.declared.Refusal.TheVariants.{NotKnown, NoRoom}
use Rattle.message.specs.Message.{tag_of}
use Rattle.message.specs.Reply.{read_reply, write_reply, sync_reply}
use Rattle.message.specs.declared.Request.TheVariants.{Sync}
use Rattle.kind.specs.Kind.{zero_score}
use Rattle.block.specs.Block.{Row, parts, valid}
use Rattle.block.specs.Log.{sectors, at, used}
use Rattle.sector_log.specs.LookUp.{held, doubtful}
use Rattle.sector_log.specs.Parts.{Lent, beside, one_log, tape, room_for, append_row, can_settle, moved, settled}
use Rattle.sector_log.specs.Store.{parts_for}
use Rattle.request.specs.Step.{Outcome, date_of, step, granted, refused}
use Rattle.request.specs.declared.Session.{Session}
use Rattle.request.specs.declared.Session.TheVariants.{Greeted}
use Rattle.ledger.specs.Ledger.{has, covers, hit, intact, end}
use Rattle.ledger.specs.History.{Item, AllOfBytes}
use Rattle.demands.specs.Ledger.{room_from, covered_by, any_uncovered, first_uncovered}
use Rattle.demands.specs.Instance.{extent_of, archive}
use Rattle.promises.specs.Requests.{Asks, Writes, Reads}
use Rattle.promises.specs.Histories.{History, clean_log, at_damage, log_of, told_ledger, ledger_of, afterwards, NoneIntact, NoneStored}

-- ---- any log

-- "It answers, and appends at most one block": what is lent stays, and then 11 is answered only where nothing is doubtful; or it is answered with 0, and a
-- block stands right after the used part of both parts, or all that waited is in the log
pub data AtMostOne (L : Lent) (o : Outcome) : Type 0 where
  alike : o.lent ≡ L → (o.number ≡ 11 → doubtful (one_log L) ≡ 0) → AtMostOne L o
  adds : (r : Row) → o.lent ≡ append_row L r → o.number ≡ 0 → valid r ≡ true → r.first ≡ used (one_log L) → room_for L (parts r) ≡ true → AtMostOne L o
  settles : o.lent ≡ settled L → o.number ≡ 0 → can_settle L ≡ true → AtMostOne L o

abbrev pub AppendsAtMostOne : Type 0
AppendsAtMostOne = (s : Session) (m : Bytes) (date : Option Bytes) (L : Lent) (buffer : Bytes) → small m ≡ true → AtMostOne L (step s m date L buffer)

-- "Nothing stored changes": the log and the waiting part keep their lengths, every sector of the used part of both its bytes, and what is in the log stays there
abbrev pub NothingStoredChanges : Type 0
NothingStoredChanges = (s : Session) (m : Bytes) (date : Option Bytes) (L : Lent) (buffer : Bytes) → small m ≡ true
    → let after = (step s m date L buffer).lent in
    (extent_of after ≡ extent_of L) × ((k : ℕ) → k < used (one_log L) → at (one_log after) k ≡ at (one_log L) k)
    × ((k : ℕ) → k < used L.log → at after.log k ≡ at L.log k)

-- "A well-formed write ... fails only when room is lacking or other bytes already own its score": after a hello. The owner of the zero score is the empty block
abbrev pub WriteFailsOnlySo : Type 0
WriteFailsOnlySo = (t : ℕ) (d m : Bytes) (date : Option Bytes) (L : Lent) (buffer : Bytes) → Writes m date buffer L t d
    → let n = (step Greeted m date L buffer).number in
    (n ≡ 0)
    ⊎ (((n ≡ 14) × (room_for L (parts_for (date_of date) d) ≡ false))
    ⊎ ((n ≡ 15) × ((r : Row) × (held (one_log L) t (sha1_of d) ≡ some r) × (r.bytes ≢ d))))

-- "A block gets 14 exactly when the log has too few sectors beyond the used ones of both parts, or the waiting part has too few blank ones left": a block that
-- is not there already
abbrev pub FourteenExactly : Type 0
FourteenExactly = (t : ℕ) (d m : Bytes) (date : Option Bytes) (log w buffer : Bytes) → Writes m date buffer (beside log w) t d → held (tape log w) t (sha1_of d) ≡ none
    → let n = (step Greeted m date (beside log w) buffer).number in
    let lacks = (sectors (length log) < used log + used w + parts_for (date_of date) d) ⊎ (sectors (length w) < used w + parts_for (date_of date) d) in
    (n ≡ 14 → lacks) × (lacks → n ≡ 14)

-- "sync ... moves them in order into the log before it replies" and "leaves the waiting part all blank": the log then has every sector that both had
abbrev pub SyncSettles : Type 0
SyncSettles = (m : Bytes) (date : Option Bytes) (log w buffer : Bytes) → Asks m date buffer (beside log w) Sync → used log + used w ≤ sectors (length log)
    → (step Greeted m date (beside log w) buffer ≡ granted (sync_reply (tag_of m)) Greeted (beside (moved log w) (replicate (length w) 0)) buffer)
    × ((n : ℕ) → at (moved log w) n ≡ at (tape log w) n)

-- "or is 14 and moves nothing if its used sectors don't fit"
abbrev pub SyncLacksRoom : Type 0
SyncLacksRoom = (m : Bytes) (date : Option Bytes) (log w buffer : Bytes) → Asks m date buffer (beside log w) Sync → sectors (length log) < used log + used w
    → step Greeted m date (beside log w) buffer ≡ refused NoRoom (tag_of m) Greeted (beside log w) buffer

-- "the empty block stays known"
abbrev pub EmptyStaysKnown : Type 0
EmptyStaysKnown = (t count : ℕ) (m : Bytes) (date : Option Bytes) (L : Lent) (buffer : Bytes) → Reads m date buffer L t count zero_score
    → step Greeted m date L buffer ≡ granted (read_reply (tag_of m) []) Greeted L buffer

-- what a read hands out has the score that was asked for: "never zeros" in the place of lost bytes
abbrev pub AnswersHaveTheScore : Type 0
AnswersHaveTheScore = (t count : ℕ) (s m : Bytes) (date : Option Bytes) (L : Lent) (buffer : Bytes)
    → Reads m date buffer L t count s → (step Greeted m date L buffer).number ≡ 0
    → (d : Bytes) × (sha1_of d ≡ s) × (length d ≤ count) × (step Greeted m date L buffer ≡ granted (read_reply (tag_of m) d) Greeted L buffer)

-- ---- histories

-- the same of a write, in the ledger's words: after any history
abbrev pub WriteFailsByTheLedger : Type 0
WriteFailsByTheLedger = (h : History) (t : ℕ) (d m : Bytes) (date : Option Bytes) (buffer : Bytes) → Writes m date buffer (log_of h) t d
    → let n = (step Greeted m date (log_of h) buffer).number in
    (n ≡ 0)
    ⊎ (((n ≡ 14) × (room_from (extent_of (log_of h)) (ledger_of h).start (end archive (ledger_of h)) (parts_for (date_of date) d) ≡ false))
    ⊎ ((n ≡ 15) × (((sha1_of d ≡ zero_score) × (d ≢ []))
    ⊎ ((r : Row) × Memᴰ r (intact archive (ledger_of h)) × (r.kind ≡ t) × (r.score ≡ sha1_of d) × (r.bytes ≢ d)))))

-- "A block with no changed sector reads as before, byte for byte": whatever list follows the damage
abbrev pub IntactReadsAsBefore : Type 0
IntactReadsAsBefore = (h : History) (t count : ℕ) (s m : Bytes) (date : Option Bytes) (buffer : Bytes) (r : Row)
    → Reads m date buffer (clean_log h) t count s → held (one_log (clean_log h)) t s ≡ some r → hit archive h.changed r ≡ false
    → let o = step Greeted m date (clean_log h) buffer in
    step Greeted m date (log_of h) buffer ≡ record { number = o.number; session = o.session; lent = log_of h; reply = o.reply }

-- a duplicate of such a block "adds nothing"
abbrev pub IntactIsDuplicate : Type 0
IntactIsDuplicate = (h : History) (t : ℕ) (d m : Bytes) (date : Option Bytes) (buffer : Bytes) (r : Row)
    → held (one_log (clean_log h)) t (sha1_of d) ≡ some r → r.bytes ≡ d → hit archive h.changed r ≡ false → Writes m date buffer (log_of h) t d
    → step Greeted m date (log_of h) buffer ≡ granted (write_reply (tag_of m) (sha1_of d)) Greeted (log_of h) buffer

-- "Blocks stored afterwards read as if nothing had happened": what a write was answered for reads back after any further requests
abbrev pub StoredReadsBack : Type 0
StoredReadsBack = (h : History) (t : ℕ) (d m : Bytes) (date : Option Bytes) (buffer : Bytes) → small m ≡ true → Writes m date buffer (log_of h) t d
    → (step Greeted m date (log_of h) buffer).number ≡ 0
    → (past : List Session) (qs : List (Item archive)) → AllOfBytes archive qs → let L = afterwards (step Greeted m date (log_of h) buffer).lent past qs in
    (count : ℕ) (m' : Bytes) (date' : Option Bytes) (buffer' : Bytes) → length d ≤ count → Reads m' date' buffer' L t count (sha1_of d)
    → step Greeted m' date' L buffer' ≡ granted (read_reply (tag_of m') d) Greeted L buffer'

-- "a duplicate adds nothing": what a write was answered for is not stored again
abbrev pub DuplicateAddsNothing : Type 0
DuplicateAddsNothing = (h : History) (t : ℕ) (d m : Bytes) (date : Option Bytes) (buffer : Bytes) → small m ≡ true
    → Writes m date buffer (log_of h) t d → (step Greeted m date (log_of h) buffer).number ≡ 0
    → (past : List Session) (qs : List (Item archive)) → AllOfBytes archive qs → let L = afterwards (step Greeted m date (log_of h) buffer).lent past qs in
    (m' : Bytes) (date' : Option Bytes) (buffer' : Bytes) → Writes m' date' buffer' L t d
    → step Greeted m' date' L buffer' ≡ granted (write_reply (tag_of m') (sha1_of d)) Greeted L buffer'

-- what is read is what an intact row holds: "never zeros"
abbrev pub AnswersAreStored : Type 0
AnswersAreStored = (h : History) (t count : ℕ) (s m : Bytes) (date : Option Bytes) (buffer : Bytes)
    → Reads m date buffer (log_of h) t count s → s ≢ zero_score → (step Greeted m date (log_of h) buffer).number ≡ 0
    → (r : Row) × Memᴰ r (intact archive (ledger_of h)) × (r.kind ≡ t) × (r.score ≡ s)
    × (step Greeted m date (log_of h) buffer ≡ granted (read_reply (tag_of m) r.bytes) Greeted (log_of h) buffer)

-- "never 11 .. while a sector is changed"
abbrev pub NeverNotHeld : Type 0
NeverNotHeld = (h : History) (s : Session) (m : Bytes) (date : Option Bytes) (buffer : Bytes) (k : ℕ)
    → small m ≡ true → has k h.changed ≡ true → (step s m date (log_of h) buffer).number ≢ 11

-- nor while any is uncovered, changed or not
abbrev pub NeverNotHeldUncovered : Type 0
NeverNotHeldUncovered = (h : History) (s : Session) (m : Bytes) (date : Option Bytes) (buffer : Bytes) → small m ≡ true
    → any_uncovered (intact archive (ledger_of h)) (end archive (ledger_of h)) ≡ true → (step s m date (log_of h) buffer).number ≢ 11

-- "not known", with "the first uncovered one's" number
abbrev pub not_known_lem : History → Refusal
not_known_lem h = NotKnown (record { 0 = first_uncovered (intact archive (ledger_of h)) (end archive (ledger_of h)) 0 })

-- a block that lost a sector and has no other intact row, or was never stored, is "not known until a block of that score and type is stored": a refused
-- write does not end it
abbrev pub NotKnownUntilStored : Type 0
NotKnownUntilStored = (h : History) (t count : ℕ) (s m : Bytes) (date : Option Bytes) (buffer : Bytes) (k : ℕ) → s ≢ zero_score → has k h.changed ≡ true
    → NoneIntact t s (told_ledger h) → NoneStored t s (at_damage h) h.later → Reads m date buffer (log_of h) t count s
    → step Greeted m date (log_of h) buffer ≡ refused (not_known_lem h) (tag_of m) Greeted (log_of h) buffer

-- so is what look-up found before the damage, if that changed one of its sectors
abbrev pub DamagedNotKnown : Type 0
DamagedNotKnown = (h : History) (t count : ℕ) (s m : Bytes) (date : Option Bytes) (buffer : Bytes) (r : Row) → s ≢ zero_score
    → held (one_log (clean_log h)) t s ≡ some r → hit archive h.changed r ≡ true → NoneStored t s (at_damage h) h.later → Reads m date buffer (log_of h) t count s
    → step Greeted m date (log_of h) buffer ≡ refused (not_known_lem h) (tag_of m) Greeted (log_of h) buffer

-- and what no request of the history stored, while any sector is changed
abbrev pub NeverStoredNotKnown : Type 0
NeverStoredNotKnown = (h : History) (t count : ℕ) (s m : Bytes) (date : Option Bytes) (buffer : Bytes) (k : ℕ) → s ≢ zero_score → has k h.changed ≡ true
    → held (one_log (clean_log h)) t s ≡ none → NoneStored t s (at_damage h) h.later → Reads m date buffer (log_of h) t count s
    → step Greeted m date (log_of h) buffer ≡ refused (not_known_lem h) (tag_of m) Greeted (log_of h) buffer

-- "Say where the doubt is": while a sector is uncovered, the one told lies before the end and in no intact row, and is the first such. It is one of a row that
-- lost a sector, though not always the lost one; or no row has it: then it is changed, or blank, with something behind it
abbrev pub DoubtIsThere : Type 0
DoubtIsThere = (h : History) → let L = ledger_of h in let n = first_uncovered (intact archive L) (end archive L) 0 in
    any_uncovered (intact archive L) (end archive L) ≡ true
    → (n < end archive L) × (covered_by (intact archive L) n ≡ false) × ((i : ℕ) → covered_by (intact archive L) i ≡ false → n ≤ i)
    × (((r : Row) × Memᴰ r L.rows × (hit archive L.changed r ≡ true) × (covers archive r n ≡ true))
    ⊎ ((covered_by L.rows n ≡ false) × ((has n L.changed ≡ true) ⊎ (zeros (at (one_log (log_of h)) n) ≡ true))))

-- 12 is answered only while a sector is uncovered, and tells the first of them
abbrev pub TwelveTells : Type 0
TwelveTells = (h : History) (s : Session) (m : Bytes) (date : Option Bytes) (buffer : Bytes) → (step s m date (log_of h) buffer).number ≡ 12
    → (any_uncovered (intact archive (ledger_of h)) (end archive (ledger_of h)) ≡ true)
    × (step s m date (log_of h) buffer ≡ refused (not_known_lem h) (tag_of m) s (log_of h) buffer)
