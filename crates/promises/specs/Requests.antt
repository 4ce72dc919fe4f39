-- Well-formed reads and writes, in the words of the corollaries.
use Rattle.std.specs.Prelude.{◌≡◌, true, ℕ, ◌≤◌, length}
use Rattle.std.proofs.Math.Option.{Option}
use Rattle.buffer.specs.Bytes.{Bytes}
use Rattle.message.specs.Message.{framed, score_of, data_of, request_of}
use Rattle.message.specs.declared.Request.{Request}
use Rattle.message.specs.declared.Request.TheVariants.{Read, Write}
use Rattle.kind.specs.Kind.{lawful, longest}
use Rattle.sector_log.specs.Parts.{Lent}
use Rattle.request.specs.Step.{reply_room, allowed, date_allowed}

-- tests 1 to 3 and 24 pass, and the message makes this request: it "comes with a date of eight decimal digits", or none in the first edition
pub record Asks (m : Bytes) (date : Option Bytes) (buffer : Bytes) (L : Lent) (q : Request) : Type 0 where
  pub frame : framed m ≡ true
  pub buffer-room : reply_room ≤ length buffer
  pub lent-allowed : allowed L ≡ true
  pub date-allowed : date_allowed date ≡ true
  pub request : request_of m ≡ q

-- a well-formed write of data d, of a lawful type t and length
pub record Writes (m : Bytes) (date : Option Bytes) (buffer : Bytes) (L : Lent) (t : ℕ) (d : Bytes) : Type 0 where
  pub asks : Asks m date buffer L (Write t)
  pub content : data_of m ≡ d
  pub lawful_type : lawful t ≡ true
  pub not-long : length d ≤ longest

-- a well-formed read of the score s, of a lawful type t, for at most count bytes
pub record Reads (m : Bytes) (date : Option Bytes) (buffer : Bytes) (L : Lent) (t count : ℕ) (s : Bytes) : Type 0 where
  pub asks : Asks m date buffer L (Read t count)
  pub score : score_of m ≡ s
  pub lawful_type : lawful t ≡ true
