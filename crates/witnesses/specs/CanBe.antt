-- "There is something to speak of": histories, damage, stops inside a write and dates of which the promises speak can be.
use Rattle.std.specs.Prelude.{◌≡◌, true, false, ◌≢◌, ℕ, ◌<◌, suc, length}
use mathlib.Core.List.{List, [], Memᴰ, ◌∷◌, ◌++◌, map}
use Rattle.std.proofs.Math.Option.{Option, none, some}
use Rattle.buffer.specs.Bytes.{zeros}
use Rattle.kind.specs.Kind.{zero_score}
use Rattle.block.specs.Block.{Row, parts}
use Rattle.block.specs.Log.{sectors, at, used}
use Rattle.sector_log.specs.LookUp.{held}
use Rattle.sector_log.specs.Parts.{Lent, one_log}
use Rattle.ledger.specs.Ledger.{has, covers}
use Rattle.ledger.specs.History.{Item, AllOfBytes, first-log, first_books, Damage, ruling, blank_books}
use Rattle.demands.specs.Ledger.{Extent}
use Rattle.demands.specs.Instance.{archive}
use Rattle.promises.specs.Histories.{History, log_of, ledger_of, NothingWaits}
use Rattle.sector.specs.Sector.{is_date}
use Rattle.events.specs.Events.{Past, log_then, ledger_then, OnItsWay, Torn}
use Rattle.ledger.specs.Archive.{adds}
use Rattle.ledger.specs.Trace.{Along}
use Rattle.ledger.specs.Events.{ask, harm, recount_event, SomeOfBytes, Possible, Damaging, books_then}

-- ---- histories of demands 2 and 3

-- a history whose damage changed a sector
abbrev pub DamageCanBe : Type 0
DamageCanBe = (h : History) × (k : ℕ) × (has k h.changed ≡ true)

-- demand 2's histories are among them: any list of requests on a blank log, and no damage
abbrev pub DamageMayBeNone : Type 0
DamageMayBeNone = (x : Extent) (qs : List (Item archive)) → AllOfBytes archive qs
    → (h : History) × (h.changed ≡ []) × (log_of h ≡ (first-log archive x qs).log) × ((ledger_of h).rows ≡ (first_books archive x qs).ledger.rows)

-- ---- dates

-- "a log may hold both": after some history look-up finds a block of the first edition, undated and not the empty one, and one with a date
abbrev pub BothEditionsCanBe : Type 0
BothEditionsCanBe = (h : Past) × (r x : Row) × (held (one_log (log_then h)) r.kind r.score ≡ some r) × (r.date ≡ []) × (r.score ≢ zero_score)
    × (held (one_log (log_then h)) x.kind x.score ≡ some x) × (is_date x.date ≡ true)

-- ---- at any moment of any history

-- any sector may be damaged, besides those that are, and any of the used part but its last may be left all zeros, while nothing waits
abbrev pub AnySectorMayBeHurt : Type 0
AnySectorMayBeHurt = (h : Past) (n : ℕ) → NothingWaits (log_then h) → n < sectors (length (log_then h).log)
    → (hurt : Lent) × (zeros (at (one_log hurt) n) ≡ false) × Possible archive (books_then archive h) (harm (n ∷ (ledger_then h).changed) hurt)

abbrev pub AnySectorMayBeZeroed : Type 0
AnySectorMayBeZeroed = (h : Past) (n : ℕ) → NothingWaits (log_then h) → suc n < used (one_log (log_then h))
    → (hurt : Lent) × (zeros (at (one_log hurt) n) ≡ true) × Possible archive (books_then archive h) (harm (n ∷ (ledger_then h).changed) hurt)

-- a write or a sync may be torn: any sectors of the blocks on their way arrived, any others are torn
abbrev pub AnyWriteMayBeTorn : Type 0
AnyWriteMayBeTorn = (h : Past) (q : Option (Item archive)) (arrived torn : List ℕ) (lend : Option ℕ) → SomeOfBytes archive q
    → ((n : ℕ) → has n arrived ≡ true → (r : Row) × OnItsWay h q r × (covers archive r n ≡ true))
    → ((n : ℕ) → has n torn ≡ true → (r : Row) × OnItsWay h q r × (covers archive r n ≡ true))
    → ((n : ℕ) → has n torn ≡ true → has n arrived ≡ false)
    → (hurt : Lent) × Torn h q arrived torn lend hurt

-- requests, damage of a sector, requests, all healed, requests, damage of another sector: with the premises of "Damage that comes again". No waiting part is lent
abbrev pub DamageComesAgain : Type 0
DamageComesAgain = (size i j : ℕ) (before between later : List (Item archive)) → AllOfBytes archive before → AllOfBytes archive between → AllOfBytes archive later
    → i < sectors size → j < sectors size
    → (hurt healed again : Lent)
    × Along (Damaging archive (Damage archive)) (recount_event archive) (blank_books archive (record { size = size; waiting = none }))
    (map ask before ++ (harm (i ∷ []) hurt ∷ (map ask between ++ (harm [] healed ∷ (map ask later ++ (harm (j ∷ []) again ∷ []))))))

-- one of each: a stored block of which a sector is zeroed; an append of two sectors, and a sync of a block of two, of which the second arrived and the first is torn
abbrev pub ZeroedCanBe : Type 0
ZeroedCanBe = (h : Past) × (r : Row) × (n : ℕ) × (hurt : Lent) × Memᴰ r (ledger_then h).rows × (covers archive r n ≡ true) × (zeros (at (one_log hurt) n) ≡ true)
    × Possible archive (books_then archive h) (harm (n ∷ (ledger_then h).changed) hurt)

abbrev pub TornCanBe : Type 0
TornCanBe = (h : Past) × (q : Item archive) × (r : Row) × (hurt : Lent) × ((ruling archive (books_then archive h) q).effect ≡ adds r) × (parts r ≡ 2)
    × Torn h (some q) (suc r.first ∷ []) (r.first ∷ []) none hurt

abbrev pub TornSyncCanBe : Type 0
TornSyncCanBe = (h : Past) × (r : Row) × (hurt : Lent) × OnItsWay h none r × (parts r ≡ 2) × Torn h none (suc r.first ∷ []) (r.first ∷ []) none hurt
