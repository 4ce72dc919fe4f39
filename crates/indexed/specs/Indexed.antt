-- One request that is lent an index beside the log: its outcome, and what the index then holds. For any bytes in the index.
use Rattle.std.specs.Prelude.{cond, not, ℕ, ltb, length, Ok, Err, Result}
use Rattle.std.proofs.Math.Option.{Option}
use Rattle.buffer.specs.Bytes.{Bytes}
use Rattle.refusal.specs.declared.Refusal.TheVariants.{Frame, Buffer, LogLength, BlockType, Date}
use Rattle.message.specs.Message.{framed, tag_of, score_of, data_of, request_of}
use Rattle.message.specs.declared.Request.{Request}
use Rattle.message.specs.declared.Request.TheVariants.{Ping, Hello, Goodbye, Read, Write, Sync, Unknown, Ill}
use Rattle.kind.specs.Kind.{lawful, longest}
use Rattle.sector_log.specs.Parts.{Lent, one_log}
use Rattle.sector_log.specs.Store.{store}
use Rattle.sector_log.specs.declared.Stored.{Stored}
use Rattle.sector_log.specs.declared.Stored.TheVariants.{New, Duplicate}
use Rattle.index.specs.Index.{entered}
use Rattle.hint.specs.Hint.{held_by}
use Rattle.request.specs.Step.{Outcome, outcome_of, silent, refused, reply_room, allowed, read_of, date_allowed, date_of, write, greeted, in_session}
use Rattle.request.specs.declared.Answer.{Answer}
use Rattle.request.specs.declared.Session.{Session}
use Rattle.request.specs.declared.Session.TheVariants.{Fresh, Greeted, Closed as Shut}
use Rattle.refusal.specs.declared.Refusal.{Refusal}

-- the whole outcome of a request that is lent an index
pub record Indexed : Type 0 where
  pub outcome : Outcome
  pub index : Bytes

-- the answer of the call, with what the log, its waiting part, the reply buffer and the index then hold
abbrev pub indexed_of : Answer → Bytes → Bytes → Bytes → Bytes → Indexed
indexed_of a log waiting buffer index = record { outcome = outcome_of a log waiting buffer; index = index }

-- "nothing else changes the index"
abbrev pub keeping : Bytes → Outcome → Indexed
keeping index o = record { outcome = o; index = index }

-- "A read message by index": as by the scan, of the block that look-up by index found
unfoldable pub read_by : ℕ → ℕ → ℕ → Bytes → Bytes → Lent → Bytes → Indexed
read_by kind count tag score index L buffer =
    keeping index (cond (not (lawful kind)) (refused BlockType tag Greeted L buffer) (read_of (held_by (one_log L) index kind score) count tag L buffer))

-- "also enters the block it stores": at the sector where the store put it. A duplicate stores nothing, nor does a refusal
abbrev pub entered_by : Result Stored Refusal → Bytes → ℕ → Bytes → Bytes
entered_by (Ok (New at)) score kind index = entered index score kind at.0
entered_by (Ok (Duplicate at)) score kind index = index
entered_by (Err w) score kind index = index

-- the index after a write: after tests 9 and 10, by what the store did
unfoldable pub index_after : Bytes → ℕ → Bytes → Bytes → Lent → Bytes
index_after date kind d index L =
    cond (not (lawful kind)) index
    (cond (ltb longest (length d)) index
    (let a = (store L date kind d).receipt in entered_by a.stored a.score kind index))

-- "A write message, which decides by the scan": its outcome is as without an index
unfoldable pub write_by : Bytes → ℕ → ℕ → Bytes → Bytes → Lent → Bytes → Indexed
write_by date kind tag d index L buffer = record { outcome = write date kind tag d L buffer; index = index_after date kind d index L }

-- only reads and writes of a greeted session look at the index
unfoldable pub greeted_by : Bytes → Request → ℕ → Bytes → Bytes → Lent → Bytes → Indexed
greeted_by date (Read kind count) tag m index L buffer = read_by kind count tag (score_of m) index L buffer
greeted_by date (Write kind) tag m index L buffer = write_by date kind tag (data_of m) index L buffer
greeted_by date Unknown tag m index L buffer = keeping index (greeted date Unknown tag m L buffer)
greeted_by date Ill tag m index L buffer = keeping index (greeted date Ill tag m L buffer)
greeted_by date Goodbye tag m index L buffer = keeping index (greeted date Goodbye tag m L buffer)
greeted_by date Hello tag m index L buffer = keeping index (greeted date Hello tag m L buffer)
greeted_by date Ping tag m index L buffer = keeping index (greeted date Ping tag m L buffer)
greeted_by date Sync tag m index L buffer = keeping index (greeted date Sync tag m L buffer)

unfoldable pub in_session_by : Session → Bytes → Option Bytes → Bytes → Lent → Bytes → Indexed
in_session_by Shut m date index L buffer = keeping index (in_session Shut m date L buffer)
in_session_by Fresh m date index L buffer = keeping index (in_session Fresh m date L buffer)
in_session_by Greeted m date index L buffer =
    cond (date_allowed date) (greeted_by (date_of date) (request_of m) (tag_of m) m index L buffer) (keeping index (silent Date Greeted L buffer))

-- tests 1 to 3 first, as without an index: "One request call takes it"; an index of any length is allowed
unfoldable pub step_by : Session → Bytes → Option Bytes → Bytes → Lent → Bytes → Indexed
step_by s m date index L buffer =
    cond (not (framed m)) (keeping index (silent Frame s L buffer))
    (cond (ltb (length buffer) reply_room) (keeping index (silent Buffer s L buffer))
    (cond (not (allowed L)) (keeping index (silent LogLength s L buffer))
    (in_session_by s m date index L buffer)))
