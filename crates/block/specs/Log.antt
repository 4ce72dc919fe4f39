-- The log, for any bytes: its sectors, the used part, and the sound block at a sector, test by test.
use Rattle.std.specs.Prelude.{◌≡◌, Bool, true, cond, ◌&&◌, List, [], ◌∷◌, ◌++◌, ℕ, zero, suc, ◌+◌, ◌*◌, ◌/◌, ◌^◌, leb, ltb, length, take, drop}
use Rattle.std.proofs.Math.Option.{Option, none, some}
use Rattle.buffer.specs.Bytes.{Bytes, same, zeros}
use Rattle.digits.specs.Number.{small}
use Rattle.kind.specs.Kind.{sha1_of}
use Rattle.sector.specs.Sector.{dated_label, label_length, payload_of, date_field, behind, fits, blank, kind_field, size_field, score_field, sector_length}
use Rattle.kind.specs.Kind.{lawful, longest}
use Rattle.block.specs.Block.{Row, parts_of, parts_in, label_at, places}
use Rattle.block.specs.declared.Block.{Block}

-- "The log is sectors of 512 bytes": how many whole ones a log of m bytes has
abbrev pub sectors : ℕ → ℕ
sectors m = m / sector_length

-- so many sectors are 2 ^ 64 bytes: each byte in them has a place that is a number of 64 bits
abbrev pub addressable : ℕ
addressable = 2 ^ 55

-- sector n; past the end a blank one
unfoldable pub at : Bytes → ℕ → Bytes
at log n = cond (ltb n (sectors (length log))) (take sector_length (drop (sector_length * n) log)) blank

-- two logs with the same sectors
abbrev pub Alike : Bytes → Bytes → Type 0
Alike a b = (n : ℕ) → at a n ≡ at b n

-- two runs of sectors read as one: the first u sectors of the log, and then those of a second run
unfoldable pub joined : ℕ → Bytes → Bytes → Bytes
joined u log second = take (sector_length * u) log ++ second

-- "The used part ends with the last sector that isn't blank": of the first n sectors, and of all
unfoldable pub used_of : Bytes → ℕ → ℕ
used_of log zero = 0
used_of log (suc n) = cond (zeros (at log n)) (used_of log n) (suc n)

unfoldable pub used : Bytes → ℕ
used log = used_of log (sectors (length log))

-- the payloads of k sectors from n on, behind labels of one length, laid end to end
unfoldable pub payloads : ℕ → Bytes → ℕ → ℕ → Bytes
payloads label log zero n = []
payloads label log (suc k) n = take (payload_of label) (drop label (at log n)) ++ payloads label log k (suc n)

-- the bytes of the block at a place
abbrev pub bytes_of : Bytes → Block → Bytes
bytes_of log b = take b.size (payloads b.label log (parts_in b) b.first.0)

-- "every check fits", of k sectors from n on
unfoldable pub checked : Bytes → ℕ → ℕ → Bool
checked log zero n = true
checked log (suc k) n = fits (at log n) && checked log k (suc n)

-- "parts count 0, 1, 2 up to of less 1, labels otherwise agree", the date too: k sectors have the labels of the parts from i on of the block of `of` parts
-- that starts at first
unfoldable pub labelled : Bytes → Bytes → ℕ → ℕ → ℕ → ℕ → Bytes → ℕ → ℕ → Bool
labelled log date of first kind size score zero i = true
labelled log date of first kind size score (suc k) i =
    same (take (label_length date) (at log (first + i))) (dated_label date (label_at of first i kind size) score)
    && labelled log date of first kind size score k (suc i)

-- every test passes
abbrev pub all : List Bool → Bool
all [] = true
all (t ∷ ts) = t && all ts

-- the block that starts at sector n, if it is sound and has this type and score. The label of sector n gives the date, or none, and the size, of which "of"
-- follows: "told apart by the first line, never within one block"
unfoldable pub sound_as : Bytes → ℕ → ℕ → Bytes → Option Row
sound_as log n kind score =
    let s = at log n in
    let date = date_field s in
    let size = size_field (behind s) in
    let p = payload_of (label_length date) in
    let k = parts_of p size in
    let payload = payloads (label_length date) log k n in
    cond
    (all
    (leb 1 size
    ∷ leb size longest
    ∷ lawful kind
    ∷ leb (n + k) (sectors (length log))
    ∷ leb (n + k) places
    ∷ labelled log date k n kind size score k 0
    ∷ checked log k n
    ∷ zeros (drop size payload)
    ∷ small (take size payload)
    ∷ same (sha1_of (take size payload)) score
    ∷ []))
    (some (record { kind = kind; score = score; bytes = take size payload; first = n; date = date }))
    none

-- "A sound block is a run of sectors at its rec place": the type and score are those that the label of sector n gives
unfoldable pub sound : Bytes → ℕ → Option Row
sound log n = sound_as log n (kind_field (behind (at log n))) (score_field (behind (at log n)))
