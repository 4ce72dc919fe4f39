-- What is promised of a request that is lent an index.
use Rattle.std.specs.Prelude.{◌≡◌, true, ◌⊎◌, ◌≢◌, ℕ, ◌≤◌, ◌<◌, length, Ok}
use Rattle.std.proofs.Math.Option.{Option}
use Rattle.sector_number.specs.declared.SectorNumber.{SectorNumber}
use Rattle.buffer.specs.Bytes.{Bytes}
use Rattle.sha1_digest.specs.Sha1.{sha1_of}
use Rattle.message.specs.Message.{framed, tag_of, score_of, data_of, request_of}
use Rattle.message.specs.Reply.{answered, read_reply}
use Rattle.message.specs.declared.Request.TheVariants.{Read, Write}
use Rattle.kind.specs.Kind.{lawful, longest}
use Rattle.sector_log.specs.Parts.{Lent, one_log}
use Rattle.sector_log.specs.Store.{store}
use Rattle.sector_log.specs.declared.Stored.TheVariants.{New}
use Rattle.index.specs.Index.{entered, left_over}
use Rattle.hint.specs.Promises.{NoClash}
use Rattle.request.specs.Step.{reply_room, allowed, date_allowed, date_of, step}
use Rattle.request.specs.declared.Session.{Session}
use Rattle.request.specs.declared.Session.TheVariants.{Greeted}
use Rattle.indexed.specs.Indexed.{keeping, step_by}

-- "A read message by index gives the reply that the scan gives, for every index buffer and every log in which sound blocks of one score and type have the
-- same bytes": so does every request, and it leaves the log and what waits as without an index
abbrev pub ReadsAsScan : Type 0
ReadsAsScan = (s : Session) (m : Bytes) (date : Option Bytes) (index : Bytes) (L : Lent) (buffer : Bytes) → NoClash (one_log L)
    → (step_by s m date index L buffer).outcome ≡ step s m date L buffer

-- "A write message, which decides by the scan": on any log, whatever the index says; so does whatever is no read
abbrev pub OnlyReadsLook : Type 0
OnlyReadsLook = (s : Session) (m : Bytes) (date : Option Bytes) (index : Bytes) (L : Lent) (buffer : Bytes)
    → ((kind count : ℕ) → request_of m ≢ Read kind count) → (step_by s m date index L buffer).outcome ≡ step s m date L buffer

-- on any log, one where sound blocks clash too: the session and what is lent are as without an index, and a read that is answered 0 gives bytes that have the
-- SHA-1 it asked for
abbrev pub AnyLogByIndex : Type 0
AnyLogByIndex = (s : Session) (m : Bytes) (date : Option Bytes) (index : Bytes) (L : Lent) (buffer : Bytes)
    → let o = (step_by s m date index L buffer).outcome in
    (o.session ≡ (step s m date L buffer).session) × (o.lent ≡ (step s m date L buffer).lent)
    × ((kind count : ℕ) → request_of m ≡ Read kind count → o.number ≡ 0
    → (b : Bytes) × (sha1_of b ≡ score_of m) × (o.reply ≡ answered buffer (read_reply (tag_of m) b)))

-- an index too short for one place in each bucket is the scan, on any log, and stays as it is: "an empty index is the scan"
abbrev pub EmptyIsScan : Type 0
EmptyIsScan = (s : Session) (m : Bytes) (date : Option Bytes) (index : Bytes) (L : Lent) (buffer : Bytes) → length index < 6400
    → step_by s m date index L buffer ≡ keeping index (step s m date L buffer)

-- the request stores a block of this type at this sector
abbrev pub Stores : Bytes → Option Bytes → Lent → ℕ → SectorNumber → Type 0
Stores m date L kind at = (request_of m ≡ Write kind) × ((store L (date_of date) kind (data_of m)).receipt.stored ≡ Ok (New at))

-- a write that passes its tests "also enters the block it stores", by its score and type, at the sector where it starts
abbrev pub EntersWhatItStores : Type 0
EntersWhatItStores = (m : Bytes) (date : Option Bytes) (index : Bytes) (L : Lent) (buffer : Bytes) (kind : ℕ) (at : SectorNumber)
    → framed m ≡ true → reply_room ≤ length buffer → allowed L ≡ true → date_allowed date ≡ true → lawful kind ≡ true → length (data_of m) ≤ longest
    → Stores m date L kind at → (step_by Greeted m date index L buffer).index ≡ entered index (sha1_of (data_of m)) kind at.0

-- "A write message ... also enters the block it stores; nothing else changes the index", and "bytes left over at the end stay untouched": where the index
-- changes the session was greeted, the request is answered 0, and stored the block that is entered
abbrev pub OnlyAStoreEnters : Type 0
OnlyAStoreEnters = (s : Session) (m : Bytes) (date : Option Bytes) (index : Bytes) (L : Lent) (buffer : Bytes)
    → let after = step_by s m date index L buffer in
    (length after.index ≡ length index) × (left_over after.index ≡ left_over index)
    × ((after.index ≡ index)
    ⊎ ((s ≡ Greeted) × (after.outcome.number ≡ 0)
    × ((kind : ℕ) × (at : SectorNumber) × Stores m date L kind at × (after.index ≡ entered index (sha1_of (data_of m)) kind at.0))))
