-- Storing a block in any log: at most one block is appended, right after the used part of the log and of what waits behind it.
use Rattle.std.specs.Prelude.{cond, ℕ, length, Ok, Err, Result}
use Rattle.bedrock.specs.Choice.{on}
use Rattle.buffer.specs.Bytes.{Bytes, same}
use Rattle.sha1_digest.specs.Sha1.{sha1_of}
use Rattle.refusal.specs.declared.Refusal.TheVariants.{NoRoom, Clash}
use Rattle.sector.specs.Sector.{label_length, payload_of}
use Rattle.block.specs.Block.{Row, parts_of}
use Rattle.block.specs.Log.{used}
use Rattle.sector_log.specs.Parts.{Lent, one_log, room_for, append_row}
use Rattle.sector_log.specs.LookUp.{held}
use Rattle.sector_log.specs.declared.Stored.{Stored}
use Rattle.sector_log.specs.declared.Stored.TheVariants.{New, Duplicate}
use Rattle.sector_log.specs.declared.Receipt.{Receipt}
use Rattle.refusal.specs.declared.Refusal.{Refusal}

-- what a store gives: the receipt, and what was lent, afterwards
pub record AfterStore : Type 0 where
  pub receipt : Receipt
  pub lent : Lent

abbrev pub after_store : Receipt → Lent → AfterStore
after_store r L = record { receipt = r; lent = L }

abbrev pub receipt : Bytes → Result Stored Refusal → Receipt
receipt score s = record { score = score; stored = s }

-- the row that a write of this date, type and data adds: "right after the used part", of both parts. "New blocks are written in this edition", with the date
-- that came with the write; without one, in the first
abbrev pub new_row : Lent → Bytes → ℕ → Bytes → Row
new_row L date t d = record { kind = t; score = sha1_of d; bytes = d; first = used (one_log L); date = date }

-- how many sectors data takes that is written with a date, or without
abbrev pub parts_for : Bytes → Bytes → ℕ
parts_for date d = parts_of (payload_of (label_length date)) (length d)

-- a block that look-up did not find: appended, or 14
abbrev pub appended : Lent → Bytes → ℕ → Bytes → AfterStore
appended L date t d =
    cond (room_for L (parts_for date d))
    (after_store (receipt (sha1_of d) (Ok (New (record { 0 = used (one_log L) })))) (append_row L (new_row L date t d)))
    (after_store (receipt (sha1_of d) (Err NoRoom)) L)

-- one that it found: "a duplicate (look-up finds these very bytes; nothing stored)", else 15
abbrev pub compared : Lent → Bytes → ℕ → Bytes → AfterStore
compared L bytes first d =
    cond (same bytes d)
    (after_store (receipt (sha1_of d) (Ok (Duplicate (record { 0 = first })))) L)
    (after_store (receipt (sha1_of d) (Err Clash)) L)

-- what look-up finds for the zero score is the empty block. "The date is no part of a block's identity: a duplicate keeps the old one"
unfoldable pub store : Lent → Bytes → ℕ → Bytes → AfterStore
store L date t d = on (held (one_log L) t (sha1_of d)) (appended L date t d) (λ r. compared L r.bytes r.first d)
