-- What is promised of entering and clearing, for any buffer.
use Rattle.std.specs.Prelude.{◌≡◌, true, false, ◌≢◌, ℕ, ◌*◌, ◌<◌, length, get_or, replicate}
use Rattle.buffer.specs.Bytes.{Bytes}
use Rattle.index.specs.Index.{places, place_at, entry_bytes, free, free_place, has_free, entered, left_over, cleared}

-- entering changes at most the bytes of one place, the first free one of the bucket: no entry is replaced, and "bytes left over at the end stay untouched"
abbrev pub EnteredKeeps : Type 0
EnteredKeeps = (index score : Bytes) (kind first : ℕ) → length score ≡ 20 → get_or score 0 0 < 256
    → let after = entered index score kind first in
    (length after ≡ length index)
    × (left_over after ≡ left_over index)
    × ((q : ℕ) → q ≢ free_place index score → place_at after q ≡ place_at index q)
    × ((q : ℕ) → free index q ≡ false → place_at after q ≡ place_at index q)

-- where the bucket has a free place the entry is there; "without room" it "is left out"
abbrev pub EnteredThere : Type 0
EnteredThere = (index score : Bytes) (kind first : ℕ) → length score ≡ 20 → get_or score 0 0 < 256
    → (has_free index score ≡ true → place_at (entered index score kind first) (free_place index score) ≡ entry_bytes score kind first)
    × (has_free index score ≡ false → entered index score kind first ≡ index)

-- clearing makes every place free, and the bytes left over stay
abbrev pub ClearedKeeps : Type 0
ClearedKeeps = (index : Bytes) → (length (cleared index) ≡ length index)
    × (left_over (cleared index) ≡ left_over index)
    × ((q : ℕ) → q < 256 * places (length index) → place_at (cleared index) q ≡ replicate 25 0)
