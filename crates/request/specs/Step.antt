-- One request: session, message, date, log with its waiting part, and reply buffer -> number, session, both parts and reply buffer. "When the desk says no".
use Rattle.std.specs.Prelude.{Bool, true, cond, not, [], ◌∷◌, ℕ, ltb, length, Ok, Err, Result}
use Rattle.std.proofs.Math.Option.{Option, none, some}
use Rattle.bedrock.specs.Choice.{on}
use Rattle.buffer.specs.Bytes.{Bytes, same}
use Rattle.refusal.specs.Number.{number_of}
use Rattle.refusal.specs.declared.Refusal.{Refusal}
use Rattle.refusal.specs.declared.Refusal.TheVariants.{Frame, Buffer, LogLength, Closed, MessageType, Body, NoHello, Hello as BadHello, BlockType, DataLength, OverCount, NoRoom, Date}
use Rattle.message.specs.Message.{framed, tag_of, version_of, score_of, data_of, request_of}
use Rattle.message.specs.Reply.{answered, error_reply, ping_reply, hello_reply, read_reply, write_reply, sync_reply}
use Rattle.message.specs.declared.Request.{Request}
use Rattle.message.specs.declared.Request.TheVariants.{Ping, Hello, Goodbye, Read, Write, Sync, Unknown, Ill}
use Rattle.kind.specs.Kind.{lawful, longest}
use Rattle.sector.specs.Sector.{is_date}
use Rattle.block.specs.Block.{Row}
use Rattle.sector_log.specs.LookUp.{log_allowed, lent_allowed, held, absence}
use Rattle.sector_log.specs.Parts.{Lent, beside, one_log, can_settle, settled}
use Rattle.sector_log.specs.Store.{store}
use Rattle.sector_log.specs.declared.Stored.{Stored}
use Rattle.sector_log.specs.declared.Stored.TheVariants.{New, Duplicate}
use Rattle.request.specs.declared.Session.{Session}
use Rattle.request.specs.declared.Answer.{Answer}
use Rattle.request.specs.declared.Session.TheVariants.{Fresh, Greeted, Closed as Shut}

-- the whole outcome of a request
pub record Outcome : Type 0 where
  pub number : ℕ
  pub session : Session
  pub lent : Lent
  pub reply : Bytes

-- the answer of the call, with what the log, its waiting part and the reply buffer then hold
abbrev pub outcome_of : Answer → Bytes → Bytes → Bytes → Outcome
outcome_of a log waiting buffer = record { number = a.number; session = a.session; lent = beside log waiting; reply = buffer }

-- A: "no reply, session, log and buffer unchanged". "Where a refusal leaves the log unchanged, the waiting part stays too"
abbrev pub silent : Refusal → Session → Lent → Bytes → Outcome
silent w s L buffer = record { number = number_of w; session = s; lent = L; reply = buffer }

-- B: "an error reply whose text is why= and two decimal digits; session and log unchanged"
abbrev pub refused : Refusal → ℕ → Session → Lent → Bytes → Outcome
refused w tag s L buffer = record { number = number_of w; session = s; lent = L; reply = answered buffer (error_reply tag w) }

-- an answer, with the session and the log that it leaves
abbrev pub granted : Bytes → Session → Lent → Bytes → Outcome
granted r s L buffer = record { number = 0; session = s; lent = L; reply = answered buffer r }

-- "reply buffer under 57,348 bytes" is refused with 2
abbrev pub reply_room : ℕ
reply_room = 57348

-- the version "02"
abbrev pub version : Bytes
version = 48 ∷ 50 ∷ []

-- 3: "log not whole sectors, or over [most_sectors] of them"; the waiting part "must be whole sectors, at most 256, or it is 3"
abbrev pub allowed : Lent → Bool
allowed L = on L.waiting (log_allowed (length L.log)) (λ w. lent_allowed (length L.log) (length w))

-- what a read answers of the block that look-up found, or of none: 12 or 11; "13 is tested on the block found"
abbrev pub read_of : Option Row → ℕ → ℕ → Lent → Bytes → Outcome
read_of found count tag L buffer =
    on found (refused (absence (one_log L)) tag Greeted L buffer)
    (λ r. cond (ltb count (length r.bytes)) (refused OverCount tag Greeted L buffer) (granted (read_reply tag r.bytes) Greeted L buffer))

-- "a read takes look-up, then 13", after test 9
unfoldable pub read : ℕ → ℕ → ℕ → Bytes → Lent → Bytes → Outcome
read kind count tag score L buffer =
    cond (not (lawful kind)) (refused BlockType tag Greeted L buffer) (read_of (held (one_log L) kind score) count tag L buffer)

-- "A date that isn't eight decimal digits is refusal 24": the contrary. A request of the first edition comes with no date, and has no such test
abbrev pub date_allowed : Option Bytes → Bool
date_allowed none = true
date_allowed (some d) = is_date d

-- the date that a block gets: none in the first edition
abbrev pub date_of : Option Bytes → Bytes
date_of none = []
date_of (some d) = d

-- what a write answers of what the store did
abbrev pub written : Result Stored Refusal → ℕ → Bytes → Lent → Bytes → Outcome
written (Ok (New at)) tag score L buffer = granted (write_reply tag score) Greeted L buffer
written (Ok (Duplicate at)) tag score L buffer = granted (write_reply tag score) Greeted L buffer
written (Err w) tag score L buffer = refused w tag Greeted L buffer

-- "a write then takes empty data (nothing stored), a duplicate, 15, 14", after tests 9 and 10
unfoldable pub write : Bytes → ℕ → ℕ → Bytes → Lent → Bytes → Outcome
write date kind tag d L buffer =
    cond (not (lawful kind)) (refused BlockType tag Greeted L buffer)
    (cond (ltb longest (length d)) (refused DataLength tag Greeted L buffer)
    (let a = store L date kind d in written a.receipt.stored tag a.receipt.score a.lent buffer))

-- "sync, no longer answered at once, moves them in order into the log before it replies"; it "is 14 and moves nothing if its used sectors don't fit"
unfoldable pub sync : ℕ → Lent → Bytes → Outcome
sync tag L buffer = cond (can_settle L) (granted (sync_reply tag) Greeted (settled L) buffer) (refused NoRoom tag Greeted L buffer)

-- tests 5 to 8 in an open session, and what each request does
unfoldable pub fresh : Request → ℕ → Bytes → Lent → Bytes → Outcome
fresh Unknown tag m L buffer = refused MessageType tag Fresh L buffer
fresh Ill tag m L buffer = refused Body tag Fresh L buffer
fresh Goodbye tag m L buffer = record { number = 0; session = Shut; lent = L; reply = buffer }
fresh Hello tag m L buffer =
    cond (same (version_of m) version) (granted (hello_reply tag) Greeted L buffer) (refused BadHello tag Fresh L buffer)
fresh Ping tag m L buffer = refused NoHello tag Fresh L buffer
fresh Sync tag m L buffer = refused NoHello tag Fresh L buffer
fresh (Read kind count) tag m L buffer = refused NoHello tag Fresh L buffer
fresh (Write kind) tag m L buffer = refused NoHello tag Fresh L buffer

unfoldable pub greeted : Bytes → Request → ℕ → Bytes → Lent → Bytes → Outcome
greeted date Unknown tag m L buffer = refused MessageType tag Greeted L buffer
greeted date Ill tag m L buffer = refused Body tag Greeted L buffer
greeted date Goodbye tag m L buffer = record { number = 0; session = Shut; lent = L; reply = buffer }
greeted date Hello tag m L buffer = refused BadHello tag Greeted L buffer
greeted date Ping tag m L buffer = granted (ping_reply tag) Greeted L buffer
greeted date Sync tag m L buffer = sync tag L buffer
greeted date (Read kind count) tag m L buffer = read kind count tag (score_of m) L buffer
greeted date (Write kind) tag m L buffer = write date kind tag (data_of m) L buffer

-- tests 4 and 24: "after 4, outcome A"
unfoldable pub in_session : Session → Bytes → Option Bytes → Lent → Bytes → Outcome
in_session Shut m date L buffer = silent Closed Shut L buffer
in_session Fresh m date L buffer = cond (date_allowed date) (fresh (request_of m) (tag_of m) m L buffer) (silent Date Fresh L buffer)
in_session Greeted m date L buffer = cond (date_allowed date) (greeted (date_of date) (request_of m) (tag_of m) m L buffer) (silent Date Greeted L buffer)

-- "Tests go in the order 1 to 10", with 24 after 4
unfoldable pub step : Session → Bytes → Option Bytes → Lent → Bytes → Outcome
step s m date L buffer =
    cond (not (framed m)) (silent Frame s L buffer)
    (cond (ltb (length buffer) reply_room) (silent Buffer s L buffer)
    (cond (not (allowed L)) (silent LogLength s L buffer)
    (in_session s m date L buffer)))
