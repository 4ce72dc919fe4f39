-- "Checked examples": those with *, in one table, of the definitions.
use Rattle.std.specs.Prelude.{◌≡◌, Ok, true, [], ◌∷◌, ◌++◌, map, ℕ, ◌≤◌, length, replicate}
use Rattle.std.proofs.Math.Option.{Option}
use Rattle.buffer.specs.Bytes.{Bytes}
use Rattle.refusal.specs.declared.Refusal.TheVariants.{NotHeld, NotKnown, DataLength}
use Rattle.kind.specs.Kind.{lawful}
use Rattle.block.specs.Counts.{Count, table, count_of}
use Rattle.sector_log.specs.LookUp.{lent_allowed}
use Rattle.message.specs.Message.{framed, tag_of, data_of, request_of}
use Rattle.message.specs.Reply.{error_reply}
use Rattle.message.specs.declared.Request.TheVariants.{Write}
use Rattle.sector_log.specs.Parts.{Lent}
use Rattle.request.specs.Step.{reply_room, granted, refused, step, allowed, date_allowed}
use Rattle.request.specs.declared.Session.TheVariants.{Fresh, Greeted}
use Rattle.cut.specs.Cut.{cut_of}
use Rattle.cut.specs.Examples.{hello}
use Rattle.entry.specs.declared.Entry.{Entry}
use Rattle.entry.specs.Entry.{entry_of, entry_allowed, pointers}
use Rattle.entry.specs.Examples.{entry_bytes}
use Rattle.leaf.specs.Leaf.{pointer_index}
use Rattle.file.specs.File.{page_allowed, located, answer_of}

-- an entry of psize 60, dsize 1,024, depth 2 and the greatest size there
abbrev pub deep : Entry
deep = entry_of (entry_bytes 60 1024 2 9216)

pub record Marked : Type 0 where
  -- "ping 00 02 02 07 gives 00 02 03 07, after a hello"
  pub ping : (date : Option Bytes) (L : Lent) (buffer : Bytes) → date_allowed date ≡ true → allowed L ≡ true → reply_room ≤ length buffer
      → step Greeted (0x00 ∷ 0x02 ∷ 0x02 ∷ 0x07 ∷ []) date L buffer ≡ granted (0x00 ∷ 0x02 ∷ 0x03 ∷ 0x07 ∷ []) Greeted L buffer
  -- "hello 00 0b 04 00 00 02 30 32 00 00 00 00 00 gives 00 06 05 00 00 00 00 00"
  pub greeting : (date : Option Bytes) (L : Lent) (buffer : Bytes) → date_allowed date ≡ true → allowed L ≡ true → reply_room ≤ length buffer
      → step Fresh (0x00 ∷ 0x0b ∷ 0x04 ∷ 0x00 ∷ 0x00 ∷ 0x02 ∷ 0x30 ∷ 0x32 ∷ 0x00 ∷ 0x00 ∷ 0x00 ∷ 0x00 ∷ 0x00 ∷ []) date L buffer
      ≡ granted (0x00 ∷ 0x06 ∷ 0x05 ∷ 0x00 ∷ 0x00 ∷ 0x00 ∷ 0x00 ∷ 0x00 ∷ []) Greeted L buffer
  -- "refusal 11, tag 9: 00 0a 01 09 00 06 77 68 79 3d 31 31"
  pub not-held : error_reply 9 NotHeld ≡ 0x00 ∷ 0x0a ∷ 0x01 ∷ 0x09 ∷ 0x00 ∷ 0x06 ∷ 0x77 ∷ 0x68 ∷ 0x79 ∷ 0x3d ∷ 0x31 ∷ 0x31 ∷ []
  -- "as in why=12 at=0000002a", tag 9
  pub not_known : error_reply 9 (NotKnown (record { 0 = 42 }))
      ≡ 0x00 ∷ 0x16 ∷ 0x01 ∷ 0x09 ∷ 0x00 ∷ 0x12 ∷ 0x77 ∷ 0x68 ∷ 0x79 ∷ 0x3d ∷ 0x31 ∷ 0x32 ∷ 0x20 ∷ 0x61 ∷ 0x74 ∷ 0x3d
      ∷ 0x30 ∷ 0x30 ∷ 0x30 ∷ 0x30 ∷ 0x30 ∷ 0x30 ∷ 0x32 ∷ 0x61 ∷ []
  -- "403 bytes take 1 sector, 404 take 2, 57,344 take 143 (of=008f, last payload 118)", and with a date 148, "the last with 161": `table` in block/specs/Counts.antt
  pub counts : map (λ (c : Count). count_of c.payload c.size) table ≡ table
  -- "57,345 is 10": a write of so many bytes, well-formed but for that
  pub ten : (t : ℕ) (m : Bytes) (date : Option Bytes) (L : Lent) (buffer : Bytes) → framed m ≡ true → reply_room ≤ length buffer → allowed L ≡ true → date_allowed date ≡ true → request_of m ≡ Write t
      → lawful t ≡ true → length (data_of m) ≡ 57345 → step Greeted m date L buffer ≡ refused DataLength (tag_of m) Greeted L buffer
  -- "`hello world` and 1,013 zeros cut to 11 bytes (document 000); all zeros to none"
  pub hello_world : cut_of 13 (hello ++ replicate 1013 0) ≡ Ok 11
  pub all-zeros : cut_of 13 (replicate 1024 0) ≡ Ok 0
  -- "p 3, dsize 1,024, depth 1: size 3,072 passes, 3,073 is 16", whatever the log, the waiting part, the page and the offset
  pub three : pointers deep ≡ 3
  pub passes : entry_allowed (entry_bytes 60 1024 1 3072) ≡ true
  pub sixteen : (log waiting page : Bytes) (offset : ℕ) → lent_allowed (length log) (length waiting) ≡ true → page_allowed page ≡ true
      → answer_of (located log waiting page (entry_bytes 60 1024 1 3073) offset) ≡ 16
  -- "Depth 2, offset 4,096: second pointer, then second", counted from 0
  pub second : pointer_index deep 4096 1 ≡ 1
  pub then-second : pointer_index deep 4096 0 ≡ 1
