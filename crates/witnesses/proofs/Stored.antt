-- A hello and a write of two sectors, byte for byte: the ledger adds a row, which waits where a waiting part is lent. So there is a block of which
-- a sector can be zeroed, an append that can be torn, and a sync that can be.
use mathlib.Core.Path.{◌≡◌, refl, ap, ◌∙◌}
use mathlib.Core.Bool.{Bool, true, false, cond}
use mathlib.Core.List.{List, [], ◌∷◌, ◌++◌, Memᴰ}
use mathlib.Core.Option.{Option, none, some}
use Prim.Native.Nat.{ℕ, ◌≤◌, ◌<◌}
use native.Mathlib.Omega.{arith}
use lib.Dec.{lit<}
use lib.ListN.{length, replicate, length-replicate}
use borrow.Author.Tests.{le-leb, ne_eqb}
use Rattle.buffer.specs.Bytes.{Bytes, same}
use Rattle.digits.specs.Number.{digits, value_from, small}
use Rattle.sha1_block.specs.Block.{words_of, snoc_word, schedule_of, round_of, rounds_of, add_hash, compress_of}
use Rattle.sha1_digest.specs.Sha1.{hash_of, pad_of, padded_message, digest_of, sha1_of}
use Rattle.utf8.specs.Grammar.{follows}
use Rattle.field.specs.Field.{text_end, counted_end, bytes_end}
use Rattle.message.specs.Message.{framed, exactly, write_of, request_of, tag_of}
use Rattle.message.specs.Reply.{hello_reply, write_reply}
use Rattle.kind.specs.Kind.{lawful, zero_score}
use Rattle.block.specs.Block.{Row, parts_of}
use Rattle.sector_log.specs.Store.{parts_for}
use Rattle.sector_log.specs.LookUp.{log_allowed, waiting_allowed, lent_allowed}
use Rattle.request.specs.Step.{reply_room, allowed, date_allowed, date_of}
use Rattle.request.specs.declared.Session.{Session}
use Rattle.request.specs.declared.Session.TheVariants.{Fresh, Greeted}
use Rattle.ledger.specs.Archive.{Effect, stays, adds, Ruling}
use Rattle.ledger.specs.Ledger.{Ledger, has, empty, covers, enter, settle, note, next}
use Rattle.ledger.specs.History.{Item, plus, Books, ruling, blank_books}
use Rattle.ledger.specs.Events.{ask, books_then}
use Rattle.ledger.proofs.Covers.{covers_in}
use Rattle.ledger.proofs.Ends.{end_row}
use Rattle.ledger.proofs.Reflects.{used-end}
use Rattle.demands.specs.Ledger.{Extent, room_from, Answer, Decision, reply, ruling_of, first_row, decision}
use Rattle.demands.specs.Instance.{extent_of, void, archive}
use Rattle.promises.specs.Requests.{Writes}
use Rattle.witnesses.specs.CanBe as claims
use Rattle.events.specs.Events.{Past, log_then, ledger_then, OnItsWay}
use Rattle.demands.proofs.Lawful.{lawful as laws}
use Rattle.demands.proofs.TellAdds.{row_of}
use Rattle.demands.proofs.LentLaws.{extent-void, start_none}
use Rattle.promises.proofs.Known.{same-allowed, write-decision}
use Rattle.events.proofs.Events.{stands, mirrors}
use Rattle.witnesses.proofs.Hurts.{only}
use Rattle.witnesses.proofs.MayBe.{any_sector_may_be_zeroed, any_write_may_be_torn}
use Rattle.events.proofs.Torn.{added-is-on_its_way}

-- "hello 00 0b 04 00 00 02 30 32 00 00 00 00 00"; a write of 404 times `a` as a block of type t, tag 1
pub hello : Bytes
hello = 0x00 ∷ 0x0b ∷ 0x04 ∷ 0x00 ∷ 0x00 ∷ 0x02 ∷ 0x30 ∷ 0x32 ∷ 0x00 ∷ 0x00 ∷ 0x00 ∷ 0x00 ∷ 0x00 ∷ []

unfoldable pub letters : Bytes
letters = replicate 404 0x61

unfoldable pub put : ℕ → Bytes
put t = 0x01 ∷ 0x9a ∷ 0x0e ∷ 0x01 ∷ t ∷ 0x00 ∷ 0x00 ∷ 0x00 ∷ replicate 404 0x61

pub room : Bytes
room = replicate reply_room 0

enough : reply_room ≤ length room
unfolding room
enough = omega (arith, length-replicate {A = ℕ} reply_room 0)

pub other_score : same (sha1_of letters) zero_score ≡ false
unfolding letters digits value_from words_of snoc_word schedule_of round_of rounds_of add_hash compress_of hash_of pad_of padded_message digest_of sha1_of zero_score
other_score = refl

-- the row that the write adds to an empty ledger
abbrev pub stored : Row
stored = row_of [] 13 letters 0

long : length letters ≡ 404
unfolding letters
long = length-replicate {A = ℕ} 404 0x61

pub two-parts : parts_for [] letters ≡ 2
unfolding letters parts_of
two-parts = refl

unfoldable pub asked-hello : Item archive
asked-hello = record { request = record { message = hello; buffer = room; date = none }; left_by = none }

unfoldable pub asked-put : ℕ → Option Bytes → Item archive
asked-put t date = record { request = record { message = put t; buffer = room; date = date }; left_by = some 0 }

pub hello-small : small hello ≡ true
unfolding hello
hello-small = refl

pub put_small : small (put 13) ≡ true
unfolding put
put_small = refl

covered : (n : ℕ) → n < 2 → covers archive stored n ≡ true
covered n h = covers_in archive stored n (omega arith) (omega (arith, h, two-parts))

-- a row that is added is the last one
note-rows : (x : Extent) (L : Ledger archive) (r : Row) → (note archive x (adds r) L).rows ≡ L.rows ++ (r ∷ [])
note-rows x L r = go (archive.waits x)
  where
    go : (b : Bool) → (cond b (enter archive r L) (settle archive (enter archive r L))).rows ≡ L.rows ++ (r ∷ [])
    go true = refl
    go false = refl

-- a blank log of four sectors, with a waiting part or none, in which there is room for both
abbrev pub lengths : Option ℕ → Extent
lengths o = record { size = 2048; waiting = o }

module _ (o : Option ℕ) (ok : allowed (void (lengths o)) ≡ true) (fit : room_from (extent_of (void (lengths o))) 0 0 2 ≡ true) where
  abbrev pub start : Books archive
  start = blank_books archive (lengths o)

  abbrev pub size : Extent
  size = extent_of start.begin

  hello_decides : decision [] 0 0 size Fresh (record { message = hello; buffer = room; date = none }) ≡ reply (hello_reply 0) Greeted stays
  unfolding hello decision framed digits value_from follows text_end counted_end bytes_end exactly request_of
  hello_decides = rw (le-leb reply_room (length room) enough, same-allowed start.begin.log start.begin.waiting ok)

  pub well_formed_lem : (t : ℕ) (date : Option Bytes) → lawful t ≡ true → date_allowed date ≡ true → Writes (put t) date room start.begin t letters
  unfolding put letters framed digits value_from write_of request_of
  well_formed_lem t date l w = record {
    asks = record { frame = refl; buffer-room = enough; lent-allowed = ok; date-allowed = w; request = refl };
    content = refl;
    lawful_type = l;
    not-long = omega arith;
  }

  -- where no row has its type and score, and there is room
  pub put_decides : (t : ℕ) (date : Option Bytes) (rows : List Row) (e st : ℕ) → lawful t ≡ true → date_allowed date ≡ true
      → first_row t (sha1_of letters) rows ≡ none → parts_for (date_of date) letters ≡ 2 → room_from size st e 2 ≡ true
      → decision rows e st size Greeted (asked-put t date).request
      ≡ reply (write_reply (tag_of (put t)) (sha1_of letters)) Greeted (adds (row_of (date_of date) t letters e))
  unfolding asked-put
  put_decides t date rows e st l w f k room-so =
      write-decision t letters rows e st (put t) date room start.begin (well_formed_lem t date l w)
      ∙ rw (ne_eqb (length letters) 0 (λ z. omega (arith, z, long)), f, other_score, k, room-so)

  pub thirteen : lawful 13 ≡ true
  unfolding lawful
  thirteen = refl

  pub greeted-ruling : ruling archive start asked-hello ≡ ruling_of Fresh hello room (reply (hello_reply 0) Greeted stays)
  unfolding asked-hello
  greeted-ruling = ap (ruling_of Fresh hello room) hello_decides

  -- after the hello, and after the write
  one : Past
  unfolding asked-hello
  one = record { size = lengths o; events = ask asked-hello ∷ []; possible = (hello-small, tt) }

  unfoldable pub two : Past
  unfolding asked-hello asked-put
  two = record { size = lengths o; events = ask asked-hello ∷ ask (asked-put 13 none) ∷ []; possible = (hello-small, (put_small, tt)) }

  put-effect : (ruling archive (books_then archive one) (asked-put 13 none)).effect ≡ adds stored
  unfolding one asked-put first_row
  put-effect =
      ap (λ (u : Ruling Answer Session Row). (ruling archive (after u) (asked-put 13 none)).effect) greeted-ruling
      ∙ ap (λ (d : Decision). (ruling_of Greeted (put 13) room d).effect) (put_decides 13 none [] 0 0 thirteen refl refl two-parts fit)
    where
      after : Ruling Answer Session Row → Books archive
      after u = record { begin = start.begin; done = plus archive [] u; ledger = next archive size (empty archive) u; past = u.session ∷ [] }

  -- a property of the ledger after the write is one of the row added to an empty ledger
  pub ledger-two : ledger_then two ≡ note archive size (adds stored) (empty archive)
  unfolding one two
  ledger-two =
      ap (λ (a : Effect Row). note archive size a (ledger_then one)) put-effect
      ∙ ap (λ (u : Ruling Answer Session Row). note archive size (adds stored) (next archive size (empty archive) u)) greeted-ruling

  in_two : Memᴰ stored (ledger_then two).rows
  in_two = rw (ledger-two, note-rows size (empty archive) stored) (Memᴰ.head refl)

  size-two : extent_of (log_then two) ≡ lengths o
  unfolding two
  size-two = (stands two).size ∙ extent-void (lengths o)

-- without a waiting part, and with one of two sectors
pub alone-allowed : allowed (void (lengths none)) ≡ true
unfolding log_allowed
alone-allowed = refl

pub alone_fit : room_from (extent_of (void (lengths none))) 0 0 2 ≡ true
unfolding room_from
alone_fit = refl

beside-allowed : allowed (void (lengths (some 1024))) ≡ true
unfolding lent_allowed log_allowed waiting_allowed
beside-allowed = refl

beside_fit : room_from (extent_of (void (lengths (some 1024)))) 0 0 2 ≡ true
unfolding room_from
beside_fit = refl

pub zeroed_can_be : claims.ZeroedCanBe
zeroed_can_be =
    let h = two none alone-allowed alone_fit in
    let m = in_two none alone-allowed alone_fit in
    let rests = start_none (log_then h).log (log_then h).waiting (ap archive.waits (size-two none alone-allowed alone_fit)) in
    let u = used-end archive laws (log_then h) (ledger_then h) (mirrors h) in
    let z = any_sector_may_be_zeroed h 0 rests (omega (arith, u, two-parts, end_row archive (ledger_then h).rows stored m)) in
    (h, stored, 0, z.0, m, covered 0 (lit< tt), z.1, z.2)

-- the second sector arrived and the first is torn
apart : (n : ℕ) → has n (0 ∷ []) ≡ true → has n (1 ∷ []) ≡ false
apart n e = rw (only 0 n e)

pub torn_can_be : claims.TornCanBe
unfolding asked-put
torn_can_be =
    let h = one none alone-allowed alone_fit in
    let e = put-effect none alone-allowed alone_fit in
    let way = added-is-on_its_way h (asked-put 13 none) stored put_small e in
    let t = any_write_may_be_torn h (some (asked-put 13 none)) (1 ∷ []) (0 ∷ []) none put_small
    (λ n i. (stored, way, covered n (omega (arith, only 1 n i)))) (λ n i. (stored, way, covered n (omega (arith, only 0 n i)))) apart in
    (h, asked-put 13 none, stored, t.0, e, two-parts, t.1)

pub torn_sync_can_be : claims.TornSyncCanBe
torn_sync_can_be =
    let h = two (some 1024) beside-allowed beside_fit in
    let starts : (ledger_then h).start ≡ 0 = ap (λ (L : Ledger archive). L.start) (ledger-two (some 1024) beside-allowed beside_fit) in
    let way : OnItsWay h none stored = (in_two (some 1024) beside-allowed beside_fit, omega (arith, starts)) in
    let t = any_write_may_be_torn h none (1 ∷ []) (0 ∷ []) none tt
    (λ n i. (stored, way, covered n (omega (arith, only 1 n i)))) (λ n i. (stored, way, covered n (omega (arith, only 0 n i)))) apart in
    (h, stored, t.0, way, two-parts, t.1)
