-- What is promised of look-up by index and of rebuilding.
use Rattle.std.specs.Prelude.{◌≡◌, true, cond, List, [], ◌∷◌, ◌⊎◌, ◌≢◌, ℕ, ◌+◌, ◌*◌, ◌≤◌, ◌<◌, eqb, length, get_or}
use Rattle.std.proofs.Math.Option.{Option, none, some}
use Rattle.buffer.specs.Bytes.{Bytes}
use Rattle.kind.specs.Kind.{zero_score}
use Rattle.block.specs.Block.{Row, parts, valid, written}
use Rattle.block.specs.Log.{sectors, Alike, used, sound}
use Rattle.sector_log.specs.LookUp.{blocks, first_of, empty_row, held, look_up, look_up_asked, look_number, look_sector}
use Rattle.index.specs.Index.{places, place_at, has_free, left_over}
use Rattle.hint.specs.Hint.{hint, held_by, look_up_by, look_up_by_asked}
use Rattle.hint.specs.Rebuilt.{entered_row, rebuilt}

-- "sound blocks of one score and type have the same bytes"
abbrev pub NoClash : Bytes → Type 0
NoClash log = (a b : Row) → sound log a.first ≡ some a → sound log b.first ≡ some b → a.kind ≡ b.kind → a.score ≡ b.score
    → a.bytes ≡ b.bytes

abbrev pub bytes_of : Option Row → Option Bytes
bytes_of none = none
bytes_of (some r) = some r.bytes

-- "A read message by index gives the reply that the scan gives, for every index buffer and every log in which sound blocks of one score and
-- type have the same bytes": the bytes found by index are those that the scan finds, or neither finds any
abbrev pub HintIsScan : Type 0
HintIsScan = (log index : Bytes) → NoClash log → (t : ℕ) (s : Bytes) → bytes_of (held_by log index t s) ≡ bytes_of (held log t s)

-- in any log, of a score and type of which no more than one block is sound, the two find the same one or none: whatever clashes elsewhere
abbrev pub OneBlockIsTheScans : Type 0
OneBlockIsTheScans = (log index : Bytes) (t : ℕ) (s : Bytes)
    → ((a b : Row) → sound log a.first ≡ some a → sound log b.first ≡ some b → (a.kind ≡ t) × (a.score ≡ s) → (b.kind ≡ t) × (b.score ≡ s) → a.first ≡ b.first)
    → held_by log index t s ≡ held log t s

-- and on any log at all the two refuse alike: the number is the same, and so is the sector that 12 tells
abbrev pub RefusesAlike : Type 0
RefusesAlike = (log index : Bytes) (t : ℕ) (s : Bytes)
    → (look_number (look_up_by log index t s) ≡ look_number (look_up log t s)) × (look_sector (look_up_by log index t s) ≡ look_sector (look_up log t s))

-- an entry is a hint, checked: what look-up by index finds is sound where it says, with this score and type, or is the empty block
abbrev pub HintHolds : Type 0
HintHolds = (log index : Bytes) (t : ℕ) (s : Bytes) (r : Row) → held_by log index t s ≡ some r
    → ((s ≡ zero_score) × (r ≡ empty_row t)) ⊎ ((sound log r.first ≡ some r) × (r.kind ≡ t) × (r.score ≡ s))

-- the index leads to where the scan finds each block: look-up by it is then the scan's, the place too
abbrev pub Exact : Bytes → Bytes → Type 0
Exact log index = (t : ℕ) (s : Bytes) → hint log index t s ≡ first_of t s (blocks log)

abbrev pub ExactIsScan : Type 0
ExactIsScan = (log index : Bytes) → Exact log index → (t : ℕ) (s : Bytes) → look_up_by log index t s ≡ look_up log t s

-- two logs with the same sectors give the same answers by any index: so entries made while a block waits hold when it is settled
abbrev pub AlikeByIndex : Type 0
AlikeByIndex = (a b : Bytes) → Alike a b → (index : Bytes) (t : ℕ) (s : Bytes) → look_up_by a index t s ≡ look_up_by b index t s

-- an index too short for one place in each bucket, on any log: "an empty index is the scan"
abbrev pub EmptyIsScan : Type 0
EmptyIsScan = (log waiting index : Bytes) (t : ℕ) (s : Bytes) → length index < 6400 → look_up_by_asked log waiting index t s ≡ look_up_asked log waiting t s

-- the rows whose score begins with byte b
unfoldable pub of_bucket : ℕ → List Row → List Row
of_bucket b [] = []
of_bucket b (r ∷ rows) = cond (eqb (get_or r.score 0 0) b) (r ∷ of_bucket b rows) (of_bucket b rows)

-- no bucket of an index of m bytes has fewer places than the log has sound blocks for it
abbrev pub RoomForAll : Bytes → ℕ → Type 0
RoomForAll log m = (b : ℕ) → b < 256 → length (of_bucket b (blocks log)) ≤ places m

-- then a rebuilt index leads to every block, the first of each score and type
abbrev pub RebuiltHits : Type 0
RebuiltHits = (log index : Bytes) → RoomForAll log (length index) → Exact log (rebuilt log index)

-- rebuilding leaves the length and the bytes left over at the end
abbrev pub RebuiltKeeps : Type 0
RebuiltKeeps = (log index : Bytes) → (length (rebuilt log index) ≡ length index) × (left_over (rebuilt log index) ≡ left_over index)

-- "Rebuilding it from the log alone": what the places held before makes no difference
abbrev pub RebuiltFromLog : Type 0
RebuiltFromLog = (log a b : Bytes) → length a ≡ length b → (q : ℕ) → q < 256 * places (length a)
    → place_at (rebuilt log a) q ≡ place_at (rebuilt log b) q

-- every sound block's score and type are found by the index, without the scan
abbrev pub Complete : Bytes → Bytes → Type 0
Complete log index = (r : Row) → sound log r.first ≡ some r → hint log index r.kind r.score ≢ none

-- a row that a store appends: one that can be written, right after the used part, where there is room for it
abbrev pub Appends : Bytes → Row → Type 0
Appends log r = (valid r ≡ true) × (r.first ≡ used log) × (r.first + parts r ≤ sectors (length log))

-- entered where its bucket has a free place, a block that is stored is found by the index, whatever else is there: "the first entry of its bucket that holds
-- true", so that one which no longer does hides none
abbrev pub EnteredFound : Type 0
EnteredFound = (log index : Bytes) (r : Row) → Appends log r → has_free index r.score ≡ true → hint (written log r) (entered_row index r) r.kind r.score ≢ none

-- it keeps the index complete,
abbrev pub EnteredHits : Type 0
EnteredHits = (log index : Bytes) (r : Row) → Appends log r → has_free index r.score ≡ true → Complete log index → Complete (written log r) (entered_row index r)

-- and exact, where the log has no block of its score and type
abbrev pub EnteredExact : Type 0
EnteredExact = (log index : Bytes) (r : Row) → Appends log r → has_free index r.score ≡ true → first_of r.kind r.score (blocks log) ≡ none
    → Exact log index → Exact (written log r) (entered_row index r)

-- with room or without: what the index led to it leads to still, but that the block that is stored may come before one of its score and type
abbrev pub HintStays : Type 0
HintStays = (log index : Bytes) (r : Row) → Appends log r → (t : ℕ) (s : Bytes) (x : Row) → hint log index t s ≡ some x
    → (hint (written log r) (entered_row index r) t s ≡ some x) ⊎ (hint (written log r) (entered_row index r) t s ≡ some r)

-- an index that is kept by entering each block that is stored is the one that rebuilding makes,
abbrev pub RebuiltAppends : Type 0
RebuiltAppends = (log index : Bytes) (r : Row) → Appends log r → rebuilt (written log r) index ≡ entered_row (rebuilt log index) r

-- which the log's sectors decide
abbrev pub RebuiltAlike : Type 0
RebuiltAlike = (a b : Bytes) → Alike a b → (index : Bytes) → rebuilt a index ≡ rebuilt b index
