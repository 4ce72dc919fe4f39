-- What is promised of what is known: where it is what was learned, look-up, store and sync answer as they do without it, and what is known afterwards is
-- what would be learned then.
use Rattle.std.specs.Prelude.{◌≡◌, true, ◌&&◌, ℕ, ◌+◌, ◌≤◌, ◌<◌, length, replicate, Some}
use Rattle.std.proofs.Math.Option.{none}
use Rattle.buffer.specs.Bytes.{Bytes}
use Rattle.sector_number.specs.declared.SectorNumber.{SectorNumber}
use Rattle.sha1_digest.specs.Sha1.{sha1_of}
use Rattle.block.specs.Block.{Row, valid, written}
use Rattle.block.specs.Log.{sectors, used}
use Rattle.sector_log.specs.LookUp.{blocks, first_of, held, absence}
use Rattle.sector_log.specs.Parts.{tape, beside, written_from, moved, room_for, can_settle, settled}
use Rattle.sector_log.specs.Store.{store, new_row, parts_for}
use Rattle.hint.specs.Hint.{held_by}
use Rattle.hint.specs.Rebuilt.{entered_row}
use Rattle.hint.specs.Promises.{Exact, Appends}
use Rattle.known.specs.declared.Known.{Known}
use Rattle.known.specs.Known.{doubt_of, missing, exactly, learned, belongs, held_known, owner, store_known, listed, after_new, can_settle_known, settled_known, after_sync}

-- the test is right: it passes exactly if the index leads to where the scan finds each block
abbrev pub ExactlyExact : Type 0
ExactlyExact = (log index : Bytes) → (exactly log index ≡ true → Exact log index) × (Exact log index → exactly log index ≡ true)

-- a block appended and entered: the index has every block if it had every block before and has this one
abbrev pub ExactlyWritten : Type 0
ExactlyWritten = (log index : Bytes) (r : Row) → Appends log r → first_of r.kind r.score (blocks log) ≡ none
    → exactly (written log r) (entered_row index r) ≡ (exactly log index && listed (entered_row index r) r.score r.kind r.first)

-- and what was doubtful is doubtful still, and nothing else
abbrev pub DoubtWritten : Type 0
DoubtWritten = (log : Bytes) (r : Row) → Appends log r → doubt_of (written log r) ≡ doubt_of log

-- what was learned belongs
abbrev pub LearnedBelongs : Type 0
LearnedBelongs = (log waiting index : Bytes) → belongs (learned log waiting index) (length log) (length waiting) ≡ true

-- and what belongs has its ends within these lengths, and no doubt behind them
abbrev pub BelongsWithin : Type 0
BelongsWithin = (k : Known) (m w : ℕ) → belongs k m w ≡ true
    → (k.used.0 ≤ sectors m) × (k.waits.0 ≤ sectors w) × ((n : SectorNumber) → k.doubt ≡ Some n → n.0 < k.used.0 + k.waits.0)

-- a block that is missing is refused alike
abbrev pub MissingIsAbsence : Type 0
MissingIsAbsence = (log : Bytes) → missing (doubt_of log) ≡ absence log

-- look-up by what was learned finds what look-up by index finds, and a write's owner is the one that the scan finds
abbrev pub LearnedFinds : Type 0
LearnedFinds = (log waiting index : Bytes) (t : ℕ) (s : Bytes) → let k = learned log waiting index in
    (held_known k log waiting index t s ≡ held_by (tape log waiting) index t s) × (owner k log waiting index t s ≡ held (tape log waiting) t s)

-- so a store by what was learned is a store
abbrev pub LearnedStores : Type 0
LearnedStores = (log waiting index date : Bytes) (t : ℕ) (d : Bytes)
    → store_known (learned log waiting index) log waiting index date t d ≡ store (beside log waiting) date t d

-- and sync is sync
abbrev pub LearnedSettles : Type 0
LearnedSettles = (log waiting index : Bytes) → let k = learned log waiting index in
    (can_settle_known k (length log) ≡ can_settle (beside log waiting)) × (settled_known k log waiting ≡ settled (beside log waiting))

-- "the new `Known` is again what `learn` would say": after a block was stored and entered,
abbrev pub KnownAfterNew : Type 0
KnownAfterNew = (log waiting index date : Bytes) (t : ℕ) (d : Bytes) → let r = new_row (beside log waiting) date t d in
    valid r ≡ true → room_for (beside log waiting) (parts_for date d) ≡ true → first_of t (sha1_of d) (blocks (tape log waiting)) ≡ none
    → learned log (written_from (used log) waiting r) (entered_row index r)
    ≡ after_new (learned log waiting index) (parts_for date d) (listed (entered_row index r) (sha1_of d) t r.first)

-- and after a sync
abbrev pub KnownAfterSync : Type 0
KnownAfterSync = (log waiting index : Bytes) → can_settle (beside log waiting) ≡ true
    → learned (moved log waiting) (replicate (length waiting) 0) index ≡ after_sync (learned log waiting index)
