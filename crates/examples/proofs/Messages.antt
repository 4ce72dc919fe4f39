-- The messages of the table, computed.
use mathlib.Core.Path.{◌≡◌, refl}
use mathlib.Core.Bool.{true}
use mathlib.Core.List.{[], ◌∷◌}
use mathlib.Core.Option.{Option}
use Prim.Native.Nat.{◌+◌, ◌≤◌}
use lib.ListN.{length, replicate}
use borrow.Author.Tests.{le-ltb}
use Rattle.bedrock.specs.Places.{found_from}
use Rattle.buffer.specs.Bytes.{Bytes}
use Rattle.digits.specs.Number.{digits, value_from}
use Rattle.hexadecimal.specs.Hex.{char_digit, read_bytes}
use Rattle.sha1_block.specs.Block.{words_of, snoc_word, schedule_of, round_of, rounds_of, add_hash, compress_of}
use Rattle.sha1_digest.specs.Sha1.{hash_of, pad_of, padded_message, digest_of, sha1_of}
use Rattle.kind.specs.Kind.{lawful, zero_score}
use Rattle.sector.specs.Sector.{is_date, is_dated, date_field, blank}
use Rattle.block.specs.Block.{parts_of, written}
use Rattle.block.specs.Log.{sectors, at, joined, used_of, used, sound_as, sound}
use Rattle.sector_log.specs.LookUp.{blocks, first_of, held, log_allowed, waiting_allowed, lent_allowed}
use Rattle.sector_log.specs.Parts.{written_from, beside, moved, room_for, append_row, settled}
use Rattle.sector_log.proofs.Room.{can_settle_lem}
use Rattle.sector_log.specs.Store.{store}
use Rattle.message.specs.Message.{framed, exactly, read_of, write_of, request_of}
use Rattle.message.specs.Reply.{reply}
use Rattle.request.specs.Step as steps
use Rattle.request.specs.declared.Session.TheVariants.{Greeted}
use Rattle.request.specs.Step.{reply_room, read, write, greeted, in_session, step}
use Rattle.examples.specs.Messages.{Messages}

synced : (date : Option Bytes) (log waiting buffer : Bytes) → steps.date_allowed date ≡ true → steps.allowed (beside log waiting) ≡ true → reply_room ≤ length buffer
    → used log + used waiting ≤ sectors (length log)
    → step Greeted (0x00 ∷ 0x02 ∷ 0x10 ∷ 0x02 ∷ []) date (beside log waiting) buffer
    ≡ steps.granted (0x00 ∷ 0x02 ∷ 0x11 ∷ 0x02 ∷ []) Greeted (beside (moved log waiting) (replicate (length waiting) 0)) buffer
unfolding digits value_from framed exactly request_of reply steps.sync greeted in_session step settled
synced date log waiting buffer d a h f = rw (le-ltb (length buffer) reply_room h, a, d, can_settle_lem log waiting f) refl

pub messages : Messages
unfolding digits value_from char_digit read_bytes words_of snoc_word schedule_of round_of rounds_of add_hash compress_of hash_of pad_of padded_message digest_of sha1_of lawful zero_score blank is_date is_dated date_field parts_of at used_of used sound_as sound found_from blocks first_of held log_allowed waiting_allowed lent_allowed joined written_from room_for append_row written store framed read_of write_of request_of reply read write greeted in_session step
messages = record {
  read-empty = λ date log buffer d a h. rw (le-ltb (length buffer) reply_room h, a, d) refl;
  write_abc = λ buffer h. rw (le-ltb (length buffer) reply_room h) refl;
  write_abc_undated = λ buffer h. rw (le-ltb (length buffer) reply_room h) refl;
  sync = synced;
  empty-write = λ buffer h. rw (le-ltb (length buffer) reply_room h) refl;
  one-byte-write = λ buffer h. rw (le-ltb (length buffer) reply_room h) refl;
  no_part_write = λ buffer h. rw (le-ltb (length buffer) reply_room h) refl;
}
