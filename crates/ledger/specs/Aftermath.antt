-- What the events do to each block, in plain words, after any history of them.
use Rattle.std.specs.Prelude.{◌≡◌, true, false, ℕ, ◌≤◌, ◌<◌}
use mathlib.Core.List.{List, ◌++◌, Memᴰ}
use Rattle.std.proofs.Math.Option.{Option, some}
use Rattle.ledger.specs.Archive.{adds, Archive}
use Rattle.ledger.specs.Ledger.{has, has_all, Ledger, covers, intact, end, NoneWaits, told, at_settling, crashed, blocks, Doubtful}
use Rattle.ledger.specs.History.{Item, ruling, recount}
use Rattle.ledger.specs.Trace.{trace, Along}
use Rattle.ledger.specs.Events.{Event, harm, crash, recount_event, beginning, Possible, EventHistory, log-then, books_then}

module _ (A : Archive) where
  open A use {Log, extent, sectors, at, blank, fits, used, waits, start, Loan, Row, first, parts, sound, OfBytes}

  abbrev pub ledger-then : EventHistory A → Ledger A
  ledger-then h = (books_then A h).ledger

  -- ---- at every moment

  -- the sound blocks of the log are the intact rows, in order, and its used part ends at the end
  abbrev pub BlocksAreRows : Type 0
  BlocksAreRows = (h : EventHistory A) → (blocks A (log-then A h).log ≡ intact A (ledger-then h)) × (used (log-then A h).log ≡ end A (ledger-then h))

  -- each changed sector is doubtful
  abbrev pub ChangedIsDoubtful : Type 0
  ChangedIsDoubtful = (h : EventHistory A) (n : ℕ) → has n (ledger-then h).changed ≡ true → Doubtful A (log-then A h).log n

  -- wherever log and ledger agree on blocks and end, each sector told as changed is doubtful: no weaker premise on damage would do
  abbrev pub DoubtfulNeeded : Type 0
  DoubtfulNeeded = (log : Log) (L : Ledger A) → blocks A log ≡ intact A L → used log ≡ end A L → (n : ℕ) → has n L.changed ≡ true → Doubtful A log n

  -- ---- damage

  -- damage in plain words, on whatever the log holds by now, parts of torn blocks too: the sectors `hits` no longer fit their checks (blank
  -- ones do not), the others are as they were, and each that was or is changed is in the used part that is left. Nothing waits
  pub record Hits (log : Log) (L : Ledger A) (hits : List ℕ) (hurt : Log) : Type 0 where
    pub size : extent hurt ≡ extent log
    pub inside : (n : ℕ) → has n hits ≡ true → n < sectors (extent log)
    pub others : (n : ℕ) → has n hits ≡ false → at hurt n ≡ at log n
    pub unfit : (n : ℕ) → has n hits ≡ true → fits (at hurt n) ≡ false
    pub within-used : (n : ℕ) → has n (hits ++ L.changed) ≡ true → n < used hurt
    pub none-waits : start hurt ≡ used hurt

  -- it may happen at any moment where nothing waits: the sectors that it hits are changed besides those that were
  abbrev pub HitsMayHappen : Type 0
  HitsMayHappen = (h : EventHistory A) (hits : List ℕ) (hurt : Log) → NoneWaits A (ledger-then h) → Hits (log-then A h).log (ledger-then h) hits hurt
      → Possible A (books_then A h) (harm (hits ++ (ledger-then h).changed) hurt)

  -- the premise on zeroed sectors, said by the end: the used part that is left ends where the ledger's end is
  abbrev pub ZeroingByTheEnd : Type 0
  ZeroingByTheEnd = (L : Ledger A) (cs : List ℕ) (hurt : Log) → used hurt ≡ end A (told A cs L) → (n : ℕ) → has n cs ≡ true → n < used hurt

  -- ---- a stop between two requests: "the ledger at the last settling"

  -- where nothing waits it is the ledger as it stands: so right after an accepted sync, after damage and after a stop
  abbrev pub SettledIsKept : Type 0
  SettledIsKept = (h : EventHistory A) → NoneWaits A (ledger-then h) → at_settling A (ledger-then h) ≡ ledger-then h

  -- so where no waiting part is lent
  abbrev pub UnlentIsSettled : Type 0
  UnlentIsSettled = (h : EventHistory A) → waits (extent (log-then A h).log) ≡ false → NoneWaits A (ledger-then h)

  -- and a row that is added with one lent changes nothing of it: it waits
  abbrev pub WaitingIsDropped : Type 0
  WaitingIsDropped = (h : EventHistory A) (q : Item A) (r : Row) → OfBytes q.request → waits (extent (log-then A h).log) ≡ true
      → (ruling A (books_then A h) q).effect ≡ adds r → at_settling A (recount A (books_then A h) q).state.ledger ≡ at_settling A (ledger-then h)

  -- ---- a row that does not wait is a row for good, whatever happens after, and never waits again

  abbrev pub SettledForGood : Type 0
  SettledForGood = (h : EventHistory A) (r : Row) → Memᴰ r (ledger-then h).rows → first r < (ledger-then h).start
      → (es : List (Event A)) → Along (Possible A) (recount_event A) (books_then A h) es
      → let L = (trace (recount_event A) (books_then A h) es).left.ledger in Memᴰ r L.rows × (first r < L.start)

  -- ---- a stop inside a write, after a history

  module _ (h : EventHistory A) (q : Option (Item A)) (arrived torn : List ℕ) (l : Loan) (hurt : Log) where
    abbrev pub Stopped : Type 0
    Stopped = Possible A (books_then A h) (crash q arrived torn l hurt)

    -- the rows on their way among those of the ledger
    abbrev pub OnItsWay : Row → Type 0
    OnItsWay r = Memᴰ r (beginning A (books_then A h) q).rows × ((ledger-then h).start ≤ first r)

    -- settled blocks are there as before
    abbrev pub SettledStays : Type 0
    SettledStays = Stopped → (r : Row) → sound (log-then A h).log (first r) ≡ some r → first r < (ledger-then h).start → sound hurt (first r) ≡ some r

    -- a block that arrived whole is there
    abbrev pub WholeIsThere : Type 0
    WholeIsThere = Stopped → (r : Row) → OnItsWay r → has_all arrived (first r) (parts r) ≡ true → sound hurt (first r) ≡ some r

    -- of one that did not each sector that is in the used part is doubtful: what is not found is "not known" while there is one
    abbrev pub TornIsDoubtful : Type 0
    TornIsDoubtful = Stopped → (r : Row) → OnItsWay r → has_all arrived (first r) (parts r) ≡ false
        → (n : ℕ) → covers A r n ≡ true → n < used hurt → Doubtful A hurt n

    -- one none of whose sectors is in the used part is as if never written: the ledger has no row of it, and no sector of it is changed
    abbrev pub AsIfNeverWritten : Type 0
    AsIfNeverWritten = Stopped → (r : Row) → OnItsWay r → used hurt ≤ first r
        → let L = crashed A arrived torn (beginning A (books_then A h) q) in
        (Memᴰ r L.rows → ⊥) × ((n : ℕ) → covers A r n ≡ true → has n L.changed ≡ false)

    -- behind all that arrived each sector is blank
    abbrev pub NothingBehind : Type 0
    NothingBehind = Stopped → (n : ℕ) → used hurt ≤ n → at hurt n ≡ blank
