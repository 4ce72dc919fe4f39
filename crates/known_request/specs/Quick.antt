-- One request by what is known of the log, its waiting part and its index: its outcome, and what is known afterwards. For any bytes and anything that is said
-- to be known.
use Rattle.std.specs.Prelude.{cond, not, ℕ, ◌+◌, ltb, length, Option as Optional}
use Rattle.std.proofs.Math.Option.{Option, some}
use Rattle.bedrock.specs.Choice.{on}
use Rattle.buffer.specs.Bytes.{Bytes}
use Rattle.sha1_digest.specs.Sha1.{sha1_of}
use Rattle.refusal.specs.declared.Refusal.TheVariants.{Frame, Buffer, LogLength, BlockType, DataLength, OverCount, NoRoom, Date}
use Rattle.message.specs.Message.{framed, tag_of, score_of, data_of, request_of}
use Rattle.message.specs.Reply.{read_reply, sync_reply}
use Rattle.message.specs.declared.Request.{Request}
use Rattle.message.specs.declared.Request.TheVariants.{Ping, Hello, Goodbye, Read, Write, Sync, Unknown, Ill}
use Rattle.kind.specs.Kind.{lawful, longest}
use Rattle.sector.specs.Sector.{is_date}
use Rattle.block.specs.Block.{Row}
use Rattle.sector_log.specs.Parts.{Lent, beside}
use Rattle.sector_log.specs.Store.{AfterStore, parts_for}
use Rattle.known.specs.declared.Known.{Known}
use Rattle.known.specs.Known.{missing, learned, belongs, held_known, store_known, listed, known_after, can_settle_known, settled_known, after_sync}
use Rattle.request.specs.Step.{Outcome, silent, refused, granted, reply_room, allowed, written}
use Rattle.request.specs.declared.Session.{Session}
use Rattle.request.specs.declared.Session.TheVariants.{Fresh, Greeted, Closed as Shut}
use Rattle.known_request.specs.declared.Served.{Served}
use Rattle.indexed.specs.Indexed.{Indexed, indexed_of, keeping, entered_by, greeted_by, in_session_by}
use Rattle.sector_number.specs.declared.SectorNumber.{SectorNumber}

-- the whole outcome of a request by what is known, and what is known then
pub record Quick : Type 0 where
  pub indexed : Indexed
  pub known : Known

-- what the call hands back, with what the log, its waiting part, the reply buffer and the index then hold
abbrev pub quick_of : Served → Bytes → Bytes → Bytes → Bytes → Quick
quick_of r log waiting buffer index = record { indexed = indexed_of r.answer log waiting buffer index; known = r.known }

-- nothing new is known
abbrev pub knowing : Known → Indexed → Quick
knowing k x = record { indexed = x; known = k }

-- what a read answers of the block found, or of none: refused by the doubt that is known, nobody looks for it
abbrev pub read_found : Optional SectorNumber → Option Row → ℕ → ℕ → Lent → Bytes → Outcome
read_found doubt found count tag L buffer =
    on found (refused (missing doubt) tag Greeted L buffer)
    (λ r. cond (ltb count (length r.bytes)) (refused OverCount tag Greeted L buffer) (granted (read_reply tag r.bytes) Greeted L buffer))

-- a read: test 9, then the block that is found by what is known
unfoldable pub read_known : Known → ℕ → ℕ → ℕ → Bytes → Bytes → Bytes → Bytes → Bytes → Quick
read_known k kind count tag score index log waiting buffer =
    let L = beside log waiting in
    knowing k
    (keeping index
    (cond (not (lawful kind)) (refused BlockType tag Greeted L buffer)
    (read_found k.doubt (held_known k log waiting index kind score) count tag L buffer)))

-- what is answered of what a store did, the index with the block that it stored, and what is known of both
unfoldable pub stored_known : Known → Bytes → ℕ → ℕ → Bytes → Bytes → AfterStore → Bytes → Quick
stored_known k date kind tag d index a buffer =
    let stored = a.receipt.stored in
    let after = entered_by stored a.receipt.score kind index in
    record {
      indexed = record { outcome = written stored tag a.receipt.score a.lent buffer; index = after };
      known = known_after k stored (parts_for date d) (listed after (sha1_of d) kind (k.used.0 + k.waits.0));
    }

-- a write: tests 9 and 10, then the store by what is known
unfoldable pub write_known : Known → Bytes → ℕ → ℕ → Bytes → Bytes → Bytes → Bytes → Bytes → Quick
write_known k date kind tag d index log waiting buffer =
    let L = beside log waiting in
    cond (not (lawful kind)) (knowing k (keeping index (refused BlockType tag Greeted L buffer)))
    (cond (ltb longest (length d)) (knowing k (keeping index (refused DataLength tag Greeted L buffer)))
    (stored_known k date kind tag d index (store_known k log waiting index date kind d) buffer))

-- a sync: what waits is moved to the end that is known, or it is 14 and nothing is moved
unfoldable pub sync_known : Known → ℕ → Bytes → Bytes → Bytes → Bytes → Quick
sync_known k tag index log waiting buffer =
    cond (can_settle_known k (length log))
    (knowing (after_sync k) (keeping index (granted (sync_reply tag) Greeted (settled_known k log waiting) buffer)))
    (knowing k (keeping index (refused NoRoom tag Greeted (beside log waiting) buffer)))

-- "one that cannot belong to these lengths is learned anew"
abbrev pub renewed : Known → Bytes → Bytes → Bytes → Known
renewed k log waiting index = cond (belongs k (length log) (length waiting)) k (learned log waiting index)

-- only reads, writes and syncs of a greeted session go by what is known, and only writes and syncs change it
unfoldable pub greeted_known : Known → Bytes → Request → ℕ → Bytes → Bytes → Bytes → Bytes → Bytes → Quick
greeted_known k date (Read kind count) tag m index log w buffer = read_known (renewed k log w index) kind count tag (score_of m) index log w buffer
greeted_known k date (Write kind) tag m index log w buffer = write_known (renewed k log w index) date kind tag (data_of m) index log w buffer
greeted_known k date Sync tag m index log w buffer = sync_known (renewed k log w index) tag index log w buffer
greeted_known k date Unknown tag m index log w buffer = knowing k (greeted_by date Unknown tag m index (beside log w) buffer)
greeted_known k date Ill tag m index log w buffer = knowing k (greeted_by date Ill tag m index (beside log w) buffer)
greeted_known k date Goodbye tag m index log w buffer = knowing k (greeted_by date Goodbye tag m index (beside log w) buffer)
greeted_known k date Hello tag m index log w buffer = knowing k (greeted_by date Hello tag m index (beside log w) buffer)
greeted_known k date Ping tag m index log w buffer = knowing k (greeted_by date Ping tag m index (beside log w) buffer)

-- test 24 in a greeted session; every other session as with an index alone
unfoldable pub in_session_known : Known → Session → Bytes → Bytes → Bytes → Bytes → Bytes → Bytes → Quick
in_session_known k Shut m date index log w buffer = knowing k (in_session_by Shut m (some date) index (beside log w) buffer)
in_session_known k Fresh m date index log w buffer = knowing k (in_session_by Fresh m (some date) index (beside log w) buffer)
in_session_known k Greeted m date index log w buffer =
    cond (is_date date) (greeted_known k date (request_of m) (tag_of m) m index log w buffer)
    (knowing k (keeping index (silent Date Greeted (beside log w) buffer)))

-- tests 1 to 3 first, as without what is known
unfoldable pub step_known : Known → Session → Bytes → Bytes → Bytes → Bytes → Bytes → Bytes → Quick
step_known k s m date index log w buffer =
    let L = beside log w in
    cond (not (framed m)) (knowing k (keeping index (silent Frame s L buffer)))
    (cond (ltb (length buffer) reply_room) (knowing k (keeping index (silent Buffer s L buffer)))
    (cond (not (allowed L)) (knowing k (keeping index (silent LogLength s L buffer)))
    (in_session_known k s m date index log w buffer)))
