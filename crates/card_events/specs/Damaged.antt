-- "a card of which a block is damaged or missing is refused by its number and never yes, no or not known": of blocks, at each moment of whatever happened.
use Rattle.std.specs.Prelude.{◌≡◌, true, false, ◌≢◌, ℕ, ◌≤◌, ◌<◌, length, Ok, Err}
use Rattle.std.proofs.Math.Option.{none}
use Rattle.buffer.specs.Bytes.{Bytes}
use Rattle.refusal.specs.declared.Refusal.TheVariants.{NotHeld}
use Rattle.kind.specs.Kind.{zero_score}
use Rattle.block.specs.Block.{Row}
use Rattle.sector_log.specs.LookUp.{held, lent_allowed}
use Rattle.sector_log.specs.Parts.{tape, one_log}
use Rattle.ledger.specs.Ledger.{has, intact, end}
use Rattle.demands.specs.Ledger.{any_uncovered}
use Rattle.demands.specs.Instance.{archive}
use Rattle.events.specs.Events.{Past, log_then, ledger_then, not_known_then, Unchanged}
use Rattle.entry.specs.Entry.{entry_of, score_of}
use Rattle.tree.specs.Tree.{type_at}
use Rattle.file.specs.File.{page_allowed, entry_readable, located}
use Rattle.file_laws.specs.Path.{Answers, Lacks}
use Rattle.trees.specs.Again.{waiting_of}
use Rattle.kleene.specs.declared.Value.{Value}
use Rattle.search.specs.Search.{longest_card, search_of}

-- a block of which no wholly unchanged copy is there, and which isn't the empty block, is missing
abbrev pub NoCopyNotHeld : Type 0
NoCopyNotHeld = (h : Past) (t : ℕ) (s : Bytes) → s ≢ zero_score → ((r : Row) → Unchanged h t s r → ⊥) → held (one_log (log_then h)) t s ≡ none

-- while any sector is changed, a card that lacks a block at its first refused offset is 12, with the first uncovered sector, whatever is asked
abbrev pub DamagedCardIsTwelve : Type 0
DamagedCardIsTwelve = (h : Past) (page entry query : Bytes) (o k : ℕ)
    → let log = (log_then h).log in
    let w = waiting_of (log_then h) in
    lent_allowed (length log) (length w) ≡ true → page_allowed page ≡ true → entry_readable entry ≡ true → (entry_of entry).size ≤ longest_card → o < (entry_of entry).size
    → ((p : ℕ) → p < o → Answers (located log w page entry p)) → has k (ledger_then h).changed ≡ true
    → Lacks (tape log w) (entry_of entry) o (entry_of entry).depth (score_of entry) → search_of log w page entry query ≡ Err (not_known_then h)

-- so is a card of one leaf of which no wholly unchanged copy is there
abbrev pub DamagedLeafIsTwelve : Type 0
DamagedLeafIsTwelve = (h : Past) (page entry query : Bytes) (k : ℕ)
    → let log = (log_then h).log in
    let w = waiting_of (log_then h) in
    lent_allowed (length log) (length w) ≡ true → page_allowed page ≡ true → entry_readable entry ≡ true → (entry_of entry).size ≤ longest_card → 0 < (entry_of entry).size
    → (entry_of entry).depth ≡ 0 → score_of entry ≢ zero_score → has k (ledger_then h).changed ≡ true
    → ((r : Row) → Unchanged h (type_at (entry_of entry) 0) (score_of entry) r → ⊥) → search_of log w page entry query ≡ Err (not_known_then h)

-- and where no sector is uncovered it is 11
abbrev pub MissingCardIsEleven : Type 0
MissingCardIsEleven = (h : Past) (page entry query : Bytes)
    → let log = (log_then h).log in
    let w = waiting_of (log_then h) in
    lent_allowed (length log) (length w) ≡ true → page_allowed page ≡ true → entry_readable entry ≡ true → (entry_of entry).size ≤ longest_card → 0 < (entry_of entry).size
    → (entry_of entry).depth ≡ 0 → score_of entry ≢ zero_score → any_uncovered (intact archive (ledger_then h)) (end archive (ledger_then h)) ≡ false
    → ((r : Row) → Unchanged h (type_at (entry_of entry) 0) (score_of entry) r → ⊥) → search_of log w page entry query ≡ Err NotHeld

-- in neither case is it yes, no or not known, whatever page and query are lent
abbrev pub NoCopyNoValue : Type 0
NoCopyNoValue = (h : Past) (page entry query : Bytes) (v : Value) → 0 < (entry_of entry).size → (entry_of entry).depth ≡ 0 → score_of entry ≢ zero_score
    → ((r : Row) → Unchanged h (type_at (entry_of entry) 0) (score_of entry) r → ⊥) → search_of (log_then h).log (waiting_of (log_then h)) page entry query ≢ Ok v
