-- Lists of requests, and damage: as the archive answers them, and as the ledger does. Demands 2 and 3, of any archive.
-- The words in quotes are the paper's, "The ledger of demands 2 and 3".
use Rattle.std.specs.Prelude.{◌≡◌, true, false, List, [], ◌∷◌, ◌++◌, ◌≢◌, ◌⊎◌, ℕ, ◌<◌, get_or}
use Rattle.std.proofs.Math.Option.{Option}
use Rattle.bedrock.specs.Choice.{on}
use Rattle.ledger.specs.Archive.{Effect, Seen, Ruling, Archive}
use Rattle.ledger.specs.Ledger.{has, Ledger, empty, told, Doubtful, act, next}
use Rattle.ledger.specs.Trace.{Turn, trace, All}

module _ (A : Archive) where
  open A use {Log, Extent, Sector, extent, sectors, void, at, is_blank, fits, Near, used, start, Row, Request, Answer, Session, OfBytes, fresh, serve, tell}

  -- a message with the session that it comes with: a fresh one, or the one that message i left, counted from the first of all
  pub record Item : Type 0 where
    pub request : Request
    pub left_by : Option ℕ

  abbrev pub AllOfBytes : List Item → Type 0
  AllOfBytes = All (λ q. OfBytes q.request)

  -- past: the sessions that the messages so far left, in order. A message that is not there yet leaves a fresh one
  abbrev pub given : List Session → Item → Session
  given past q = on q.left_by fresh (λ i. get_or past i fresh)

  -- the archive between two requests: the log, and the sessions so far
  pub record Standing : Type 0 where
    pub log : Log
    pub past : List Session

  -- "Each message gets the log the last one left, and a fresh session or one that any earlier message left"
  abbrev pub answer : Standing → Item → Turn (Seen Answer Session Log) Standing
  answer s q =
      let o = serve s.log (given s.past q) q.request in
      record { shown = o; state = record { log = o.log; past = s.past ++ (o.session ∷ []) } }

  -- "its log is the one the list started on, with the sectors of each row added since written", and settled where a sync was accepted
  abbrev pub overlaid : Log → List (Effect Row) → Log
  overlaid log [] = log
  overlaid log (e ∷ es) = overlaid (act A e log) es

  abbrev pub plus : List (Effect Row) → Ruling Answer Session Row → List (Effect Row)
  plus done o = done ++ (o.effect ∷ [])

  -- the ledger between two requests: the log that the list started on, what was done since, the ledger itself, and the sessions so far
  pub record Books : Type 0 where
    pub begin : Log
    pub done : List (Effect Row)
    pub ledger : Ledger A
    pub past : List Session

  -- what the ledger says of a request
  abbrev pub ruling : Books → Item → Ruling Answer Session Row
  ruling b q = tell b.ledger.rows b.ledger.changed b.ledger.start (extent b.begin) (given b.past q) q.request

  -- the same request by the ledger: nothing is decided from the log that the list started on but its extent
  abbrev pub recount : Books → Item → Turn (Seen Answer Session Log) Books
  recount b q =
      let o = ruling b q in
      record {
        shown = record { answer = o.answer; session = o.session; log = overlaid b.begin (plus b.done o) };
        state = record { begin = b.begin; done = plus b.done o; ledger = next A (extent b.begin) b.ledger o; past = b.past ++ (o.session ∷ []) };
      }

  -- "The first starts on a log of any length, all zeros, with a fresh session", and the ledger with no row
  abbrev pub blank-log : Extent → Standing
  blank-log x = record { log = void x; past = [] }

  abbrev pub blank_books : Extent → Books
  blank_books x = record { begin = void x; done = []; ledger = empty A; past = [] }

  -- "the second on the damaged log": a message of it may go on from a session of the first list
  abbrev pub harmed : Log → Standing → Standing
  harmed hurt s = record { log = hurt; past = s.past }

  -- "Damage tells the ledger the changed sectors, nothing else"
  abbrev pub harmed_books : List ℕ → Log → Books → Books
  harmed_books cs hurt b = record { begin = hurt; done = []; ledger = told A cs b.ledger; past = b.past }

  -- allowed damage to a log of extent x that had the sectors `clean`: in place; cs are the sectors that differ afterwards; none of them
  -- is left all zeros, and each does not fit its check or differs only within four neighbouring bytes. Nothing waits
  pub record Damage (clean : ℕ → Sector) (x : Extent) (cs : List ℕ) (hurt : Log) : Type 0 where
    pub size : extent hurt ≡ x
    pub inside : (n : ℕ) → has n cs ≡ true → n < sectors x
    pub others : (n : ℕ) → has n cs ≡ false → at hurt n ≡ clean n
    pub differs : (n : ℕ) → has n cs ≡ true → at hurt n ≢ clean n
    pub shows : (n : ℕ) → has n cs ≡ true → (fits (at hurt n) ≡ false) ⊎ Near (clean n) (at hurt n)
    pub marked : (n : ℕ) → has n cs ≡ true → is_blank (at hurt n) ≡ false
    pub none-waits : start hurt ≡ used hurt

  -- the same damage, but a sector may be left all zeros where something behind it is not: each is in the used part that the damage
  -- leaves. So the used part still ends where the ledger's end is
  pub record Zeroing (clean : ℕ → Sector) (x : Extent) (cs : List ℕ) (hurt : Log) : Type 0 where
    pub size : extent hurt ≡ x
    pub inside : (m : ℕ) → has m cs ≡ true → m < sectors x
    pub others : (m : ℕ) → has m cs ≡ false → at hurt m ≡ clean m
    pub differs : (m : ℕ) → has m cs ≡ true → at hurt m ≢ clean m
    pub shows : (m : ℕ) → has m cs ≡ true → (fits (at hurt m) ≡ false) ⊎ Near (clean m) (at hurt m)
    pub within-used : (m : ℕ) → has m cs ≡ true → m < used hurt
    pub none-waits : start hurt ≡ used hurt

  -- any damage whatever, in place, after which each sector that differs is doubtful. cs may hold other doubtful sectors too. Nothing waits
  pub record Harm (clean : ℕ → Sector) (x : Extent) (cs : List ℕ) (hurt : Log) : Type 0 where
    pub size : extent hurt ≡ x
    pub inside : (n : ℕ) → has n cs ≡ true → n < sectors x
    pub others : (n : ℕ) → has n cs ≡ false → at hurt n ≡ clean n
    pub doubtful : (n : ℕ) → has n cs ≡ true → Doubtful A hurt n
    pub none-waits : start hurt ≡ used hurt

  -- the archive and the ledger after a list on a blank log; after damage and a second list
  abbrev pub first-log : Extent → List Item → Standing
  first-log x before = (trace answer (blank-log x) before).left

  abbrev pub first_books : Extent → List Item → Books
  first_books x before = (trace recount (blank_books x) before).left

  abbrev pub second-log : Extent → List Item → Log → List Item → Standing
  second-log x before hurt later = (trace answer (harmed hurt (first-log x before)) later).left

  abbrev pub second_books : Extent → List Item → List ℕ → Log → List Item → Books
  second_books x before cs hurt later = (trace recount (harmed_books cs hurt (first_books x before)) later).left

  -- demand 2: "From a blank log that only it writes, every sequence of requests is answered as a plain ledger would"
  abbrev pub Demand2 : Type 0
  Demand2 = (x : Extent) (qs : List Item) → AllOfBytes qs → (trace answer (blank-log x) qs).seen ≡ (trace recount (blank_books x) qs).seen

  -- demand 3, of damage of a kind
  abbrev pub Demand3With : ((ℕ → Sector) → Extent → List ℕ → Log → Type 0) → Type 0
  Demand3With Kind =
      -- a log "of any length"; two lists of messages "of every kind"
      (x : Extent) (before later : List Item) → AllOfBytes before → AllOfBytes later
      -- "Demand 3's damage falls on a log with nothing waiting"
      → start (first-log x before).log ≡ used (first-log x before).log
      -- the damaged log, and the sectors that changed: nothing else is said of it to the ledger
      → (cs : List ℕ) (hurt : Log) → Kind (at (first-log x before).log) x cs hurt
      -- "After each, number, reply buffer to its last byte, session and log equal the ledger's"
      → ((trace answer (blank-log x) before).seen ≡ (trace recount (blank_books x) before).seen)
      × ((trace answer (harmed hurt (first-log x before)) later).seen ≡ (trace recount (harmed_books cs hurt (first_books x before)) later).seen)

  -- demand 3: "A list of requests, then damage to sectors, then another list: answers, session and log are the ledger's, told only
  -- which sectors changed." One claim about both lists and the damage
  abbrev pub Demand3 : Type 0
  Demand3 = Demand3With Damage

  -- the same of zeroed sectors
  abbrev pub Demand3Zeroed : Type 0
  Demand3Zeroed = Demand3With Zeroing
