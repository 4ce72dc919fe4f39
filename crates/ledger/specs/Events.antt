-- All that may happen to a log, in any order: requests, damage, stops, stops inside a write, growth. As the archive answers, and as the ledger does.
use Rattle.std.specs.Prelude.{◌≡◌, true, false, ℕ, ◌-◌, ◌≤◌, ◌<◌}
use mathlib.Core.List.{List, [], Memᴰ}
use Rattle.std.proofs.Math.Option.{Option, none, some}
use Rattle.ledger.specs.Archive.{Effect, stays, adds, settles, Seen, Archive}
use Rattle.ledger.specs.Ledger.{has, Ledger, told, covers, NoneWaits, enter, at_settling, crashed}
use Rattle.ledger.specs.Trace.{Turn, trace, Along}
use Rattle.ledger.specs.History.{Item, AllOfBytes, Standing, answer, overlaid, Books, ruling, recount, blank-log, blank_books, Damage, Zeroing, Harm}
use Rattle.ledger.specs.Reflects.{cell}

-- what is seen of an event: of a request what is seen of that; after anything else the log
pub data Shown (Answer Session Log : Type 0) : Type 0 where
  answered : Seen Answer Session Log → Shown Answer Session Log
  stands : Log → Shown Answer Session Log

module _ (A : Archive) where
  open A use {Log, Extent, Sector, extent, at, blank, is_blank, fits, used, start, Loan, alone, lent, Growth, grown, growable, Row, first, image, Answer, Session, OfBytes}

  -- a request; damage, with the sectors that it leaves changed and the log from there on; a stop between two requests, with what is lent anew;
  -- a stop inside a write, with the request that was never answered, if one was, the sectors that arrived, the torn ones, what is lent anew,
  -- and the log from there on; growth
  pub data Event : Type 0 where
    ask : Item A → Event
    harm : List ℕ → Log → Event
    stop : Loan → Event
    crash : Option (Item A) → List ℕ → List ℕ → Loan → Log → Event
    grow : Growth → Event

  -- one event for the archive
  abbrev pub left_with : Log → Standing A → Turn (Shown Answer Session Log) (Standing A)
  left_with log s = record { shown = stands log; state = record { log = log; past = s.past } }

  abbrev pub happen : Standing A → Event → Turn (Shown Answer Session Log) (Standing A)
  happen s (ask q) = let t = answer A s q in record { shown = answered t.shown; state = t.state }
  happen s (harm cs hurt) = left_with hurt s
  happen s (stop l) = left_with (alone l s.log) s
  happen s (crash q arrived torn l hurt) = left_with hurt s
  happen s (grow g) = left_with (grown g s.log) s

  -- what a request that was never answered had begun: to write the row that it adds, which was on its way. A sync adds none, it writes the rows that wait
  abbrev pub begun : Effect Row → Ledger A → Ledger A
  begun stays L = L
  begun (adds r) L = enter A r L
  begun settles L = L

  abbrev pub beginning : Books A → Option (Item A) → Ledger A
  beginning b none = b.ledger
  beginning b (some q) = begun (ruling A b q).effect b.ledger

  -- one event for the ledger: `begin` is the log that the last damage, stop or growth left, `done` what was done since
  abbrev pub goes_on_with : Log → Ledger A → Books A → Turn (Shown Answer Session Log) (Books A)
  goes_on_with log L b = record { shown = stands log; state = record { begin = log; done = []; ledger = L; past = b.past } }

  abbrev pub recount_event : Books A → Event → Turn (Shown Answer Session Log) (Books A)
  recount_event b (ask q) = let t = recount A b q in record { shown = answered t.shown; state = t.state }
  recount_event b (harm cs hurt) = goes_on_with hurt (told A cs b.ledger) b
  recount_event b (stop l) = goes_on_with (alone l (overlaid A b.begin b.done)) (at_settling A b.ledger) b
  recount_event b (crash q arrived torn l hurt) = goes_on_with hurt (crashed A arrived torn (beginning b q)) b
  recount_event b (grow g) = goes_on_with (grown g (overlaid A b.begin b.done)) b.ledger b

  -- sector n was being written: it is the row's, and the row waits
  abbrev pub Writing : Ledger A → Row → ℕ → Type 0
  Writing L r n = Memᴰ r L.rows × (L.start ≤ first r) × (covers A r n ≡ true)

  -- the machine stops while the sectors of the waiting rows are on their way to the disk, in any order. log is the log before, hurt what the
  -- disk then holds, read as a log with nothing waiting
  pub record Crash (log : Log) (L : Ledger A) (arrived torn : List ℕ) (l : Loan) (hurt : Log) : Type 0 where
    pub size : extent hurt ≡ lent l (extent log)
    -- what was settled is as it was
    pub settled : (n : ℕ) → n < L.start → at hurt n ≡ at log n
    -- a sector that arrived was being written, and holds what was written
    pub arrived_whole : (n : ℕ) → has n arrived ≡ true → (r : Row) × Writing L r n × (at hurt n ≡ image r (n - first r))
    -- a torn sector was being written, does not fit its check and is not blank
    pub broken : (n : ℕ) → has n torn ≡ true → (r : Row) × Writing L r n × (fits (at hurt n) ≡ false) × (is_blank (at hurt n) ≡ false)
    -- every other sector is still blank
    pub still : (n : ℕ) → L.start ≤ n → has n arrived ≡ false → has n torn ≡ false → at hurt n ≡ blank
    pub none-waits : start hurt ≡ used hurt

  abbrev pub SomeOfBytes : Option (Item A) → Type 0
  SomeOfBytes none = Unit {0}
  SomeOfBytes (some q) = OfBytes q.request

  -- the premises: a request is of bytes; damage falls where nothing waits and leaves each changed sector doubtful; a stop has none; a stop
  -- inside a write leaves each sector being written as it was to be, blank, or unfit, and no other changed; the log can grow
  abbrev pub Possible : Books A → Event → Type 0
  Possible b (ask q) = OfBytes q.request
  Possible b (harm cs hurt) = NoneWaits A b.ledger × Harm A (cell A b.ledger.rows) (extent b.begin) cs hurt
  Possible b (stop l) = Unit {0}
  Possible b (crash q arrived torn l hurt) = SomeOfBytes q × Crash (overlaid A b.begin b.done) (beginning b q) arrived torn l hurt
  Possible b (grow g) = growable (extent b.begin) ≡ true

  -- from a blank log on, what is seen of such events is the ledger's
  abbrev pub AllSuch : (Books A → Event → Type 0) → Type 0
  AllSuch Such = (x : Extent) (es : List Event) → Along Such recount_event (blank_books A x) es
      → (trace happen (blank-log A x) es).seen ≡ (trace recount_event (blank_books A x) es).seen

  -- the claim: from a blank log on, whatever happens
  abbrev pub AllThatHappens : Type 0
  AllThatHappens = AllSuch Possible

  -- "damage may fall before or between any requests, as often as you like, on a log with nothing waiting, and each time the ledger is told the
  -- changed sectors anew": requests, and damage of a kind. "A sector counts as changed when it differs from what the archive last wrote there, or
  -- from blank where it never wrote": what the rows put there
  abbrev pub Damaging : ((ℕ → Sector) → Extent → List ℕ → Log → Type 0) → Books A → Event → Type 0
  Damaging Kind b (ask q) = OfBytes q.request
  Damaging Kind b (harm cs hurt) = NoneWaits A b.ledger × Kind (cell A b.ledger.rows) (extent b.begin) cs hurt
  Damaging Kind b (stop l) = Unit {0}
  Damaging Kind b (crash q arrived torn l hurt) = ⊥
  Damaging Kind b (grow g) = growable (extent b.begin) ≡ true

  -- "at each moment every changed sector must meet demand 3's premises against that"
  abbrev pub AnyDamage : Type 0
  AnyDamage = AllSuch (Damaging (Damage A))

  -- the same of zeroed sectors
  abbrev pub AnyZeroing : Type 0
  AnyZeroing = AllSuch (Damaging (Zeroing A))

  -- all that happened so far, from a blank log on; the archive and the ledger then
  pub record EventHistory : Type 0 where
    pub size : Extent
    pub events : List Event
    pub possible : Along Possible recount_event (blank_books A size) events

  abbrev pub log-then : EventHistory → Standing A
  log-then h = (trace happen (blank-log A h.size) h.events).left

  abbrev pub books_then : EventHistory → Books A
  books_then h = (trace recount_event (blank_books A h.size) h.events).left

  -- "After a stop between two requests, the log alone answers as the ledger at the last settling ..., told the sectors that are changed at the stop":
  -- every list of requests that follows
  abbrev pub StopAnswers : Type 0
  StopAnswers = (h : EventHistory) (l : Loan) (qs : List (Item A)) → AllOfBytes A qs
      → (trace (answer A) (record { log = alone l (log-then h).log; past = (log-then h).past }) qs).seen
      ≡ (trace (recount A) (record { begin = alone l (log-then h).log; done = []; ledger = at_settling A (books_then h).ledger; past = (books_then h).past }) qs).seen
