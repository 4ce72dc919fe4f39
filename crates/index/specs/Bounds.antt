-- "256 equal buckets by the first byte of the score, each of as many entries as fit", "bytes left over at the end": their bounds by examples, and
-- what the definitions say of a buffer of zeros.
use Rattle.std.specs.Prelude.{◌≡◌, List, [], ◌∷◌, map, ℕ, ◌*◌, length, replicate}
use Rattle.index.specs.Index.{bucket_of, left_over}

-- a buffer's length, the first byte of a score, where its bucket begins and ends, and how many bytes are left over
pub record Bounds : Type 0 where
  pub long : ℕ
  pub byte : ℕ
  pub from : ℕ
  pub to : ℕ
  pub over : ℕ

abbrev pub bounds : ℕ → ℕ → ℕ → ℕ → ℕ → Bounds
bounds long byte from to over = record { long = long; byte = byte; from = from; to = to; over = over }

abbrev pub table : List Bounds
table =
    bounds 0 0 0 0 0
    ∷ bounds 6399 255 0 0 6399
    ∷ bounds 6400 0 0 25 0
    ∷ bounds 6400 255 6375 6400 0
    ∷ bounds 12807 1 50 100 7
    ∷ bounds 12807 255 12750 12800 7
    ∷ []

abbrev pub bounds_of : ℕ → ℕ → Bounds
bounds_of long byte =
    let b = bucket_of (replicate long 0) (byte ∷ []) in
    bounds long byte (25 * b.from) (25 * b.to) (length (left_over (replicate long 0)))

-- the definitions give the table
abbrev pub BoundsHold : Type 0
BoundsHold = map (λ (b : Bounds). bounds_of b.long b.byte) table ≡ table
