-- The index: a lent buffer of any length, in buckets of places for entries. Assumes nothing: these are definitions.
use Rattle.std.specs.Prelude.{Bool, cond, [], ◌∷◌, ◌++◌, ℕ, zero, suc, ◌+◌, ◌-◌, ◌*◌, ◌/◌, ltb, length, get_or, take, drop, replicate}
use Rattle.digits.specs.Number.{be_bytes, be_number}
use Rattle.buffer.specs.Bytes.{Bytes, zeros, put}
use Rattle.index.specs.declared.Bucket.{Bucket}

-- "256 equal buckets by the first byte of the score, each of as many entries as fit": the places of each bucket in a buffer of m bytes.
-- Places are numbered through all buckets
abbrev pub places : ℕ → ℕ
places m = m / 6400

-- the places of a score's bucket: from the first of them up to the one after the last
unfoldable pub bucket_of : Bytes → Bytes → Bucket
bucket_of index score =
    let k = places (length index) in
    record { from = k * get_or score 0 0; to = k * get_or score 0 0 + k }

-- the 25 bytes of place p
unfoldable pub place_at : Bytes → ℕ → Bytes
place_at index p = take 25 (drop (25 * p) index)

-- what an entry says of a block: "score[20] type[1]", and where it starts, "sector[4]"
abbrev pub named : Bytes → ℕ → Bytes
named score kind = score ++ (kind ∷ [])

abbrev pub entry_bytes : Bytes → ℕ → ℕ → Bytes
entry_bytes score kind first = named score kind ++ be_bytes 4 first

-- the sector that the entry at place p names
unfoldable pub sector_at : Bytes → ℕ → ℕ
sector_at index p = be_number (drop 21 (place_at index p))

-- "25 zero bytes are a free place"
abbrev pub free : Bytes → ℕ → Bool
free index p = zeros (place_at index p)

-- the first free one of k places from p on, else the place after them
unfoldable pub first_free : Bytes → ℕ → ℕ → ℕ
first_free index zero p = p
first_free index (suc k) p = cond (free index p) p (first_free index k (suc p))

-- the first free place of a score's bucket, else the place after the bucket
abbrev pub free_place : Bytes → Bytes → ℕ
free_place index score = let b = bucket_of index score in first_free index (b.to - b.from) b.from

-- the bucket of a score has a free place
abbrev pub has_free : Bytes → Bytes → Bool
has_free index score = ltb (free_place index score) (bucket_of index score).to

-- "An entry takes the first free place of its bucket, and without room is left out"
unfoldable pub entered : Bytes → Bytes → ℕ → ℕ → Bytes
entered index score kind first = cond (has_free index score) (put index (25 * free_place index score) (entry_bytes score kind first)) index

-- the bytes behind the buckets: "bytes left over at the end stay untouched"
abbrev pub left_over : Bytes → Bytes
left_over index = drop (6400 * places (length index)) index

-- "clears the buckets"
unfoldable pub cleared : Bytes → Bytes
cleared index = replicate (6400 * places (length index)) 0 ++ left_over index
