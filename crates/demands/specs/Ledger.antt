-- "The ledger of demands 2 and 3": how it answers a request from its rows, the changed sectors, and the lengths of the log and of its
-- waiting part. It decides nothing from log bytes. With the archive's step it shares how a message is taken apart and a reply put together, SHA-1, the
-- sectors of a row, the tests of what is lent, of a date and of a block type, and constants; each other decision is written here anew.
use Rattle.std.specs.Prelude.{Bool, true, false, cond, not, ◌&&◌, ◌||◌, List, [], ◌∷◌, ℕ, zero, suc, ◌+◌, ◌-◌, max, leb, eqb, length}
use Rattle.std.proofs.Math.Option.{Option, none, some}
use Rattle.bedrock.specs.Places.{within}
use Rattle.bedrock.specs.Choice.{on}
use Rattle.buffer.specs.Bytes.{Bytes, same}
use Rattle.sha1_digest.specs.Sha1.{sha1_of}
use Rattle.refusal.specs.Number.{number_of}
use Rattle.refusal.specs.declared.Refusal.{Refusal}
use Rattle.refusal.specs.declared.Refusal.TheVariants.{Frame, Buffer, LogLength, Closed, MessageType, Body, NoHello, Hello as BadHello}
use Rattle.refusal.specs.declared.Refusal.TheVariants.{BlockType, DataLength, NotHeld, NotKnown, OverCount, NoRoom, Clash, Date}
use Rattle.message.specs.Message.{framed, tag_of, version_of, score_of, data_of, request_of}
use Rattle.message.specs.Reply.{answered, error_reply, ping_reply, hello_reply, read_reply, write_reply, sync_reply}
use Rattle.message.specs.declared.Request.{Request}
use Rattle.message.specs.declared.Request.TheVariants.{Ping, Hello, Goodbye, Read, Write, Sync, Unknown, Ill}
use Rattle.kind.specs.Kind.{lawful, longest, zero_score}
use Rattle.block.specs.Block.{Row, parts}
use Rattle.sector_log.specs.Store.{parts_for}
use Rattle.block.specs.Log.{sectors}
use Rattle.sector_log.specs.LookUp.{log_allowed, lent_allowed}
use Rattle.request.specs.Step.{reply_room, version, date_allowed, date_of}
use Rattle.request.specs.declared.Session.{Session}
use Rattle.request.specs.declared.Session.TheVariants.{Fresh, Greeted, Closed as Shut}
use Rattle.ledger.specs.Archive.{Effect, stays, adds, settles, Ruling}
use Rattle.ledger.specs.Ledger.{intact_rows, rows_end, changed_end}

-- "a message, the reply buffer" lent with it; "The ledger is fed the date too": none with a request of the first edition
pub record Asked : Type 0 where
  pub message : Bytes
  pub buffer : Bytes
  pub date : Option Bytes

-- what the ledger is told of what is lent: "the log's length", and "the waiting part's length too" where one is lent
pub record Extent : Type 0 where
  pub size : ℕ
  pub waiting : Option ℕ

-- test 3
abbrev pub allowed : Extent → Bool
allowed x = on x.waiting (log_allowed x.size) (lent_allowed x.size)

-- room for k sectors from the end on: 14 is "if the log has too few sectors from the end on", "or the waiting part has too few blank ones
-- left": the rows wait that stand from `start` on
unfoldable pub room_from : Extent → ℕ → ℕ → ℕ → Bool
room_from x start end k =
    on x.waiting (leb (end + k) (sectors x.size)) (λ m. leb (end + k) (sectors x.size) && leb (end - start + k) (sectors m))

-- what is answered: the number, 0 for none, and the reply buffer to its last byte
pub record Answer : Type 0 where
  pub number : ℕ
  pub buffer : Bytes

-- "an uncovered sector is before it [the end] and in no intact row": whether there is one
unfoldable pub covered_by : List Row → ℕ → Bool
covered_by [] n = false
covered_by (r ∷ rows) n = within r.first (parts r) n || covered_by rows n

unfoldable pub any_uncovered : List Row → ℕ → Bool
any_uncovered rows zero = false
any_uncovered rows (suc e) = not (covered_by rows e) || any_uncovered rows e

-- "in the ledger the first uncovered one's": the first of k sectors from n on that is in no row, else the sector after them
unfoldable pub first_uncovered : List Row → ℕ → ℕ → ℕ
first_uncovered rows zero n = n
first_uncovered rows (suc k) n = cond (covered_by rows n) (first_uncovered rows k (suc n)) n

-- "12 if a sector is uncovered, else 11", with the first one
abbrev pub absent : List Row → ℕ → Refusal
absent rows end = cond (any_uncovered rows end) (NotKnown (record { 0 = first_uncovered rows end 0 })) NotHeld

-- "the first intact row of its type and score"
unfoldable pub first_row : ℕ → Bytes → List Row → Option Row
first_row t s [] = none
first_row t s (r ∷ rows) = cond (eqb r.kind t && same r.score s) (some r) (first_row t s rows)

-- what the ledger decides of a request: refused without a reply, refused with one, answered (with the session that it leaves and
-- what it does: a row is added, or nothing), or closed without a reply
pub data Decision : Type 0 where
  silence : Refusal → Decision
  refusal : Refusal → Decision
  reply : Bytes → Session → Effect Row → Decision
  close : Decision

-- "a refusal ... has its outcome from the table and adds no row"
abbrev pub ruling_of : Session → Bytes → Bytes → Decision → Ruling Answer Session Row
ruling_of s m buffer (silence w) = record { answer = record { number = number_of w; buffer = buffer }; session = s; effect = stays }
ruling_of s m buffer (refusal w) = record { answer = record { number = number_of w; buffer = answered buffer (error_reply (tag_of m) w) }; session = s; effect = stays }
ruling_of s m buffer (reply b s' a) = record { answer = record { number = 0; buffer = answered buffer b }; session = s'; effect = a }
ruling_of s m buffer close = record { answer = record { number = 0; buffer = buffer }; session = Shut; effect = stays }

-- by the session: "session closed", or open and whether a hello was accepted in it
abbrev pub by_session : Session → Decision → (Bool → Decision) → Decision
by_session Shut d f = d
by_session Fresh d f = f false
by_session Greeted d f = f true

-- intact: the intact rows; end: "one past the last sector covered or changed, else 0"; start: the rows wait that stand from there on; x: what is lent;
-- date: that of a block that is added, or none
module _ (intact : List Row) (end start : ℕ) (x : Extent) (date : Bytes) where
  -- "A read of the zero score gives no bytes. Another takes the first intact row of its type and score: 13 if longer than count, else
  -- its bytes; with none, 12 if a sector is uncovered, else 11"
  abbrev pub read_row : ℕ → ℕ → Bytes → ℕ → Decision
  read_row t count s tag =
      cond (same s zero_score) (reply (read_reply tag []) Greeted stays)
      (on (first_row t s intact) (refusal (absent intact end))
      (λ r. cond (leb (length r.bytes) count) (reply (read_reply tag r.bytes) Greeted stays) (refusal OverCount)))

  -- "if that row has other bytes or data has the zero score, it is 15"; 14 for want of room. "Else its row is added, starting at the end"; "a row keeps it [the
  -- date], and a dated row covers sectors by 389"
  abbrev pub new_row : ℕ → Bytes → ℕ → Decision
  new_row t d tag =
      cond (same (sha1_of d) zero_score) (refusal Clash)
      (cond (room_from x start end (parts_for date d))
      (reply (write_reply tag (sha1_of d)) Greeted (adds (record { kind = t; score = sha1_of d; bytes = d; first = end; date = date })))
      (refusal NoRoom))

  -- "A write of no bytes, or of those in the first intact row of its type and SHA-1, adds no row"
  abbrev pub write_row : ℕ → Bytes → ℕ → Decision
  write_row t d tag =
      cond (eqb (length d) 0) (reply (write_reply tag (sha1_of d)) Greeted stays)
      (on (first_row t (sha1_of d) intact) (new_row t d tag)
      (λ r. cond (same r.bytes d) (reply (write_reply tag (sha1_of d)) Greeted stays) (refusal Clash)))

  -- tests 5 to 10 in their order, in an open session, by whether a hello was accepted; what each request does
  abbrev pub decide : Bool → Request → Bytes → Decision
  decide greeted Unknown m = refusal MessageType
  decide greeted Ill m = refusal Body
  decide greeted Goodbye m = close
  decide false Hello m = cond (same (version_of m) version) (reply (hello_reply (tag_of m)) Greeted stays) (refusal BadHello)
  decide false Ping m = refusal NoHello
  decide false Sync m = refusal NoHello
  decide false (Read t c) m = refusal NoHello
  decide false (Write t) m = refusal NoHello
  decide true Hello m = refusal BadHello
  decide true Ping m = reply (ping_reply (tag_of m)) Greeted stays
  decide true Sync m = reply (sync_reply (tag_of m)) Greeted settles
  decide true (Read t c) m = cond (lawful t) (read_row t c (score_of m) (tag_of m)) (refusal BlockType)
  decide true (Write t) m =
      cond (lawful t) (cond (leb (length (data_of m)) longest) (write_row t (data_of m) (tag_of m)) (refusal DataLength)) (refusal BlockType)

-- "Tests 1 to 10 come first": 1 to 4, then 24
unfoldable pub decision : List Row → ℕ → ℕ → Extent → Session → Asked → Decision
decision intact end start x s q =
    cond (framed q.message)
    (cond (leb reply_room (length q.buffer))
    (cond (allowed x)
    (by_session s (silence Closed)
    (λ greeted. cond (date_allowed q.date)
    (decide intact end start x (date_of q.date) greeted (request_of q.message) q.message)
    (silence Date)))
    (silence LogLength))
    (silence Buffer))
    (silence Frame)

-- "It keeps ... the changed sectors ... and rows": one request by the ledger, told the rows, the changed sectors, from where
-- on its rows wait, and the lengths of what is lent
abbrev pub tell : List Row → List ℕ → ℕ → Extent → Session → Asked → Ruling Answer Session Row
tell rows changed start x s q =
    let intact = intact_rows (λ (r : Row). r.first) parts changed rows in
    let end = max (rows_end (λ (r : Row). r.first) parts rows) (changed_end changed) in
    ruling_of s q.message q.buffer (decision intact end start x s q)
