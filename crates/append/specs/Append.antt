-- The row that a call appends.
use Rattle.std.specs.Prelude.{ℕ, ◌+◌, length}
use Rattle.buffer.specs.Bytes.{Bytes}
use Rattle.sector.specs.Sector.{payload_of, lines_length}
use Rattle.block.specs.Block.{Row, parts_of}

-- a row of the ledger from its fields: "type, score, bytes, first sector", and its date
abbrev pub row_of : ℕ → Bytes → Bytes → ℕ → Bytes → Row
row_of kind score bytes first date = record { kind = kind; score = score; bytes = bytes; first = first; date = date }

-- how many sectors data takes behind labels that have a line before their six
abbrev pub parts_behind : Bytes → Bytes → ℕ
parts_behind front d = parts_of (payload_of (length front + lines_length)) (length d)
