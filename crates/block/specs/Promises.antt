-- What is promised of sound blocks and of appending, for any bytes.
use Rattle.std.specs.Prelude.{◌≡◌, true, cond, ◌&&◌, ℕ, ◌+◌, ◌-◌, ◌≤◌, ◌<◌, leb, ltb, length}
use Rattle.std.proofs.Math.Option.{none, some}
use Rattle.buffer.specs.Bytes.{Bytes}
use Rattle.block.specs.Block.{Row, parts, image, valid, written}
use Rattle.block.specs.Log.{sectors, at, sound}

-- a block is sound at a sector only if its sectors are the image there of a row that can be written,
abbrev pub SoundReads : Type 0
SoundReads = (log : Bytes) (n : ℕ) (r : Row) → sound log n ≡ some r
    → (valid r ≡ true) × (r.first ≡ n) × (n + parts r ≤ sectors (length log)) × ((k : ℕ) → k < parts r → at log (n + k) ≡ image r k)

-- and it is sound wherever they are
abbrev pub SoundFinds : Type 0
SoundFinds = (log : Bytes) (r : Row) → valid r ≡ true → r.first + parts r ≤ sectors (length log)
    → ((k : ℕ) → k < parts r → at log (r.first + k) ≡ image r k) → sound log r.first ≡ some r

-- sound blocks share no sector: none starts inside another
abbrev pub NoneInside : Type 0
NoneInside = (log : Bytes) (n j : ℕ) (r : Row) → sound log n ≡ some r → 0 < j → j < parts r → sound log (n + j) ≡ none

-- "changes no other byte": the log keeps its length, the row's sectors are its image, and every other sector is as it was
abbrev pub WritesItsSectors : Type 0
WritesItsSectors = (log : Bytes) (r : Row) → valid r ≡ true → r.first + parts r ≤ sectors (length log)
    → (length (written log r) ≡ length log)
    × ((n : ℕ) → at (written log r) n ≡ cond (leb r.first n && ltb n (r.first + parts r)) (image r (n - r.first)) (at log n))
