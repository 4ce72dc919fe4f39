-- A block at its place in the log, and the sectors that a write of it makes.
use Rattle.std.specs.Prelude.{Bool, ◌&&◌, [], ◌++◌, ℕ, zero, suc, ◌+◌, ◌-◌, ◌*◌, ◌/◌, ◌^◌, ◌≤◌, ◌<◌, leb, length, take, drop}
use Rattle.buffer.specs.Bytes.{Bytes, same}
use Rattle.digits.specs.Number.{small}
use Rattle.kind.specs.Kind.{sha1_of}
use Rattle.kind.specs.Kind.{lawful, longest}
use Rattle.sector.specs.Sector.{dated_label, encode, is_date_or_none, label_length, payload_of, sector_length, body_length}
use Rattle.sector.specs.declared.Label.{Label}
use Rattle.block.specs.declared.Block.{Block}

-- a row of the ledger, a sound block of the log: "type, score, bytes, first sector", and the date of its writing, none in the first edition
pub record Row : Type 0 where
  pub kind : ℕ
  pub score : Bytes
  pub bytes : Bytes
  pub first : ℕ
  pub date : Bytes

-- "of is size over 403 rounded up"; behind a date's line the payload is 389: over the payload's length p
unfoldable pub parts_of : ℕ → ℕ → ℕ
parts_of p size = (size + (p - 1)) / p

-- how many bytes of a row a sector holds, and how many sectors it takes
abbrev pub payload : Row → ℕ
payload r = payload_of (label_length r.date)

abbrev pub parts : Row → ℕ
parts r = parts_of (payload r) (length r.bytes)

-- where a row stands
abbrev pub place_of : Row → Block
place_of r = record { first = record { 0 = r.first }; size = length r.bytes; label = label_length r.date }

-- how many sectors the block at a place takes
abbrev pub parts_in : Block → ℕ
parts_in b = parts_of (payload_of b.label) b.size

-- a place among n sectors, whose labels leave room for a payload
abbrev pub Inside : ℕ → Block → Type 0
Inside n b = (b.first.0 + parts_in b ≤ n) × (b.label < body_length)

-- the label of part k of a block of `of` parts, beside the score
abbrev pub label_at : ℕ → ℕ → ℕ → ℕ → ℕ → Label
label_at of first k kind size = record { first = record { 0 = first }; part = k; of = of; kind = kind; size = size }

-- the label's bytes of part k of a row
abbrev pub row_label : Row → ℕ → Bytes
row_label r k = dated_label r.date (label_at (parts r) r.first k r.kind (length r.bytes)) r.score

-- the image of a row: the sector that a write of it makes of part k, with the bytes of that part as payload
unfoldable pub image : Row → ℕ → Bytes
image r k = encode (row_label r k) (drop (payload r * k) r.bytes)

-- the images of k parts from part i on, laid end to end
unfoldable pub images : Row → ℕ → ℕ → Bytes
images r zero i = []
images r (suc k) i = image r i ++ images r k (suc i)

-- "changes no other byte": a log with a row written at its place
unfoldable pub written : Bytes → Row → Bytes
written log r = take (sector_length * r.first) log ++ (images r (parts r) 0 ++ drop (sector_length * (r.first + parts r)) log)

-- what the eight hexadecimal digits of a place can name: so many sectors
abbrev pub places : ℕ
places = 16 ^ 8

-- a row that can be written: one of the ten types, a size in bounds, of bytes, the score of the bytes, a place that eight digits name, a date of eight
-- digits or none
unfoldable pub valid : Row → Bool
valid r =
    lawful r.kind && (leb 1 (length r.bytes) && (leb (length r.bytes) longest && (small r.bytes && (same r.score (sha1_of r.bytes)
    && (leb (r.first + parts r) places && is_date_or_none r.date)))))
