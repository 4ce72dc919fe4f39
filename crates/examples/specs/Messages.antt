-- A read and a write, byte for byte: what the archive's step answers. Beside the marked examples, which have a ping and a hello.
use Rattle.std.specs.Prelude.{◌≡◌, true, [], ◌∷◌, ◌+◌, ◌≤◌, length, replicate}
use Rattle.std.proofs.Math.Option.{Option, none, some}
use Rattle.buffer.specs.Bytes.{Bytes}
use Rattle.refusal.specs.declared.Refusal.TheVariants.{NoRoom}
use Rattle.sha1_digest.specs.Sha1.{sha1_of}
use Rattle.block.specs.Block.{Row, written}
use Rattle.block.specs.Log.{sectors, used}
use Rattle.sector_log.specs.Parts.{Lent, beside, moved}
use Rattle.request.specs.Step.{reply_room, granted, refused, step, allowed, date_allowed}
use Rattle.request.specs.declared.Session.TheVariants.{Greeted}

-- "write: type[1] pad[3] data": `abc` as a data block, tag 1; and the row that it makes in a blank log
abbrev pub write_of_abc : Bytes
write_of_abc = 0x00 ∷ 0x09 ∷ 0x0e ∷ 0x01 ∷ 0x0d ∷ 0x00 ∷ 0x00 ∷ 0x00 ∷ 0x61 ∷ 0x62 ∷ 0x63 ∷ []

abbrev pub abc_row : Bytes → Row
abc_row date = record { kind = 13; score = sha1_of (0x61 ∷ 0x62 ∷ 0x63 ∷ []); bytes = 0x61 ∷ 0x62 ∷ 0x63 ∷ []; first = 0; date = date }

-- the date 20261116
abbrev pub some_date : Bytes
some_date = 0x32 ∷ 0x30 ∷ 0x32 ∷ 0x36 ∷ 0x31 ∷ 0x31 ∷ 0x31 ∷ 0x36 ∷ []

pub record Messages : Type 0 where
  -- "read: score[20] type[1] pad[1] count[2]; reply data": the zero score under type 13, count 0, tag 7, has no bytes
  pub read-empty : (date : Option Bytes) (L : Lent) (buffer : Bytes) → date_allowed date ≡ true → allowed L ≡ true → reply_room ≤ length buffer
      → step Greeted
      (0x00 ∷ 0x1a ∷ 0x0c ∷ 0x07 ∷ 0xda ∷ 0x39 ∷ 0xa3 ∷ 0xee ∷ 0x5e ∷ 0x6b ∷ 0x4b ∷ 0x0d ∷ 0x32 ∷ 0x55 ∷ 0xbf ∷ 0xef ∷ 0x95 ∷ 0x60 ∷ 0x18 ∷ 0x90 ∷ 0xaf ∷ 0xd8 ∷ 0x07 ∷ 0x09 ∷ 0x0d ∷ 0x00 ∷ 0x00 ∷ 0x00 ∷ [])
      date L buffer
      ≡ granted (0x00 ∷ 0x02 ∷ 0x0d ∷ 0x07 ∷ []) Greeted L buffer
  -- "reply score[20]": a write of `abc` to a blank log of one sector with a waiting part of one: it waits there, and nothing else is written
  pub write_abc : (buffer : Bytes) → reply_room ≤ length buffer
      → step Greeted write_of_abc (some some_date) (beside (replicate 512 0) (replicate 512 0)) buffer
      ≡ granted
      (0x00 ∷ 0x16 ∷ 0x0f ∷ 0x01 ∷ 0xa9 ∷ 0x99 ∷ 0x3e ∷ 0x36 ∷ 0x47 ∷ 0x06 ∷ 0x81 ∷ 0x6a ∷ 0xba ∷ 0x3e ∷ 0x25 ∷ 0x71 ∷ 0x78 ∷ 0x50 ∷ 0xc2 ∷ 0x6c ∷ 0x9c ∷ 0xd0 ∷ 0xd8 ∷ 0x9d ∷ [])
      Greeted (beside (replicate 512 0) (written (replicate 512 0) (abc_row some_date))) buffer
  -- a request of the first edition, without a date
  pub write_abc_undated : (buffer : Bytes) → reply_room ≤ length buffer
      → step Greeted write_of_abc none (beside (replicate 512 0) (replicate 512 0)) buffer
      ≡ granted
      (0x00 ∷ 0x16 ∷ 0x0f ∷ 0x01 ∷ 0xa9 ∷ 0x99 ∷ 0x3e ∷ 0x36 ∷ 0x47 ∷ 0x06 ∷ 0x81 ∷ 0x6a ∷ 0xba ∷ 0x3e ∷ 0x25 ∷ 0x71 ∷ 0x78 ∷ 0x50 ∷ 0xc2 ∷ 0x6c ∷ 0x9c ∷ 0xd0 ∷ 0xd8 ∷ 0x9d ∷ [])
      Greeted (beside (replicate 512 0) (written (replicate 512 0) (abc_row []))) buffer
  -- "sync ... moves them in order into the log before it replies": tag 2, where they fit
  pub sync : (date : Option Bytes) (log waiting buffer : Bytes) → date_allowed date ≡ true → allowed (beside log waiting) ≡ true → reply_room ≤ length buffer
      → used log + used waiting ≤ sectors (length log)
      → step Greeted (0x00 ∷ 0x02 ∷ 0x10 ∷ 0x02 ∷ []) date (beside log waiting) buffer
      ≡ granted (0x00 ∷ 0x02 ∷ 0x11 ∷ 0x02 ∷ []) Greeted (beside (moved log waiting) (replicate (length waiting) 0)) buffer
  -- "A log of no sectors: empty write passes, a one-byte write is 14", whatever the waiting part has room for
  pub empty-write : (buffer : Bytes) → reply_room ≤ length buffer
      → step Greeted (0x00 ∷ 0x06 ∷ 0x0e ∷ 0x07 ∷ 0x0d ∷ 0x00 ∷ 0x00 ∷ 0x00 ∷ []) (some some_date) (beside [] (replicate 512 0)) buffer
      ≡ granted
      (0x00 ∷ 0x16 ∷ 0x0f ∷ 0x07 ∷ 0xda ∷ 0x39 ∷ 0xa3 ∷ 0xee ∷ 0x5e ∷ 0x6b ∷ 0x4b ∷ 0x0d ∷ 0x32 ∷ 0x55 ∷ 0xbf ∷ 0xef ∷ 0x95 ∷ 0x60 ∷ 0x18 ∷ 0x90 ∷ 0xaf ∷ 0xd8 ∷ 0x07 ∷ 0x09 ∷ [])
      Greeted (beside [] (replicate 512 0)) buffer
  pub one-byte-write : (buffer : Bytes) → reply_room ≤ length buffer
      → step Greeted (0x00 ∷ 0x07 ∷ 0x0e ∷ 0x07 ∷ 0x0d ∷ 0x00 ∷ 0x00 ∷ 0x00 ∷ 0x61 ∷ []) (some some_date) (beside [] (replicate 512 0)) buffer
      ≡ refused NoRoom 7 Greeted (beside [] (replicate 512 0)) buffer
  -- so it is where the waiting part has no sector, though the log has one
  pub no_part_write : (buffer : Bytes) → reply_room ≤ length buffer
      → step Greeted (0x00 ∷ 0x07 ∷ 0x0e ∷ 0x07 ∷ 0x0d ∷ 0x00 ∷ 0x00 ∷ 0x00 ∷ 0x61 ∷ []) (some some_date) (beside (replicate 512 0) []) buffer
      ≡ refused NoRoom 7 Greeted (beside (replicate 512 0) []) buffer
