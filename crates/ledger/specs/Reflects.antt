-- The invariant between a log and a ledger. It holds after all that may happen; the corollaries speak of logs that have it.
use Rattle.std.specs.Prelude.{◌≡◌, true, false, cond, ◌⊎◌, ℕ, ◌+◌, ◌-◌, ◌≤◌, ◌<◌}
use mathlib.Core.List.{List, [], ◌∷◌, Memᴰ}
use Rattle.ledger.specs.Archive.{Archive}
use Rattle.ledger.specs.Ledger.{has, Ledger, covers, end, Doubtful}

module _ (A : Archive) where
  open A use {Log, Sector, extent, sectors, at, blank, used, start, Row, first, parts, image, valid, owned}

  -- each row starts where the one before it has ended or later, the first at lo or later
  abbrev pub Apart : ℕ → List Row → Type 0
  Apart lo [] = Unit {0}
  Apart lo (r ∷ rows) = (lo ≤ first r) × Apart (first r + parts r) rows

  -- what the rows alone put in a sector: a part of the row that covers it, or a blank
  abbrev pub cell : List Row → ℕ → Sector
  cell [] n = blank
  cell (r ∷ rows) n = cond (covers A r n) (image r (n - first r)) (cell rows n)

  -- a log as a ledger has it: the rows stand one behind the other and inside; a sector not changed holds what the rows put there,
  -- a changed one is doubtful: something at or behind it is not blank, and no sound block has it
  pub record Reflects (log : Log) (L : Ledger A) : Type 0 where
    pub valids : (r : Row) → Memᴰ r L.rows → valid r ≡ true
    pub owneds : (r : Row) → Memᴰ r L.rows → owned r ≡ true
    pub apart : Apart 0 L.rows
    pub room : end A L ≤ sectors (extent log)
    pub plain : (n : ℕ) → has n L.changed ≡ false → at log n ≡ cell L.rows n
    pub doubt : (n : ℕ) → has n L.changed ≡ true → Doubtful A log n

  -- the waiting part starts where the ledger has it start, at the end or before
  pub record Waits (log : Log) (L : Ledger A) : Type 0 where
    pub starts : start log ≡ L.start
    pub before : L.start ≤ end A L
    -- a row waits as a whole, and no changed sector does: each is used in whatever holds the sectors before the waiting part
    pub split : (r : Row) → Memᴰ r L.rows → (first r + parts r ≤ L.start) ⊎ (L.start ≤ first r)
    pub firm : (n : ℕ) → has n L.changed ≡ true → (other : Log) → ((m : ℕ) → m < L.start → at other m ≡ at log m) → n < used other
