-- The ledger of demands 2 and 3, over the rows of any archive: which rows are intact, where the end is, which rows wait; what requests, damage and stops do to it.
use Rattle.std.specs.Prelude.{◌≡◌, Bool, true, false, cond, ◌&&◌, ◌||◌, List, [], ◌∷◌, ◌++◌, ℕ, zero, suc, ◌+◌, ◌<◌, max, eqb, ltb}
use Rattle.std.proofs.Math.Option.{some}
use Rattle.bedrock.specs.Places.{found_from, within}
use Rattle.ledger.specs.Archive.{Effect, stays, adds, settles, Ruling, Seen, Archive}

-- n is one of the numbers
abbrev pub has : ℕ → List ℕ → Bool
has n [] = false
has n (c ∷ cs) = eqb n c || has n cs

-- each of the k numbers from n on is one of the numbers
abbrev pub has_all : List ℕ → ℕ → ℕ → Bool
has_all cs n zero = true
has_all cs n (suc k) = has n cs && has_all cs (suc n) k

-- rows of any kind, by their first sectors and how many they cover
module _ {Row : Type 0} (first parts : Row → ℕ) where
  -- "A row covers sectors from there on, its byte count over 403 rounded up"; "a dated row covers sectors by 389"
  abbrev pub row_covers : Row → ℕ → Bool
  row_covers r n = within (first r) (parts r) n

  -- one of the sectors cs is the row's
  abbrev pub row_hit : List ℕ → Row → Bool
  row_hit [] r = false
  row_hit (c ∷ cs) r = row_covers r c || row_hit cs r

  -- "and is intact while none of them is changed": the intact rows, in order
  abbrev pub intact_rows : List ℕ → List Row → List Row
  intact_rows cs [] = []
  intact_rows cs (r ∷ rows) = cond (row_hit cs r) (intact_rows cs rows) (r ∷ intact_rows cs rows)

  -- "The end is one past the last sector covered or changed, else 0"
  abbrev pub rows_end : List Row → ℕ
  rows_end [] = 0
  rows_end (r ∷ rows) = max (first r + parts r) (rows_end rows)

abbrev pub changed_end : List ℕ → ℕ
changed_end [] = 0
changed_end (c ∷ cs) = max (suc c) (changed_end cs)

module _ (A : Archive) where
  open A use {Log, Extent, used, waits, settled, Row, first, parts, sound, written, Answer, Session}

  -- "It keeps ... the changed sectors, none at first, and rows"; "its rows added since the last settling wait": those from sector `start` on
  pub record Ledger : Type 0 where
    pub rows : List Row
    pub changed : List ℕ
    pub start : ℕ

  abbrev pub empty : Ledger
  empty = record { rows = []; changed = []; start = 0 }

  abbrev pub covers : Row → ℕ → Bool
  covers = row_covers first parts

  abbrev pub hit : List ℕ → Row → Bool
  hit = row_hit first parts

  abbrev pub intact_of : List ℕ → List Row → List Row
  intact_of = intact_rows first parts

  abbrev pub intact : Ledger → List Row
  intact L = intact_of L.changed L.rows

  abbrev pub end_rows : List Row → ℕ
  end_rows = rows_end first parts

  abbrev pub end_changed : List ℕ → ℕ
  end_changed = changed_end

  abbrev pub end : Ledger → ℕ
  end L = max (end_rows L.rows) (end_changed L.changed)

  -- "nothing waiting"
  abbrev pub NoneWaits : Ledger → Type 0
  NoneWaits L = L.start ≡ end L

  -- "Else its row is added"
  abbrev pub enter : Row → Ledger → Ledger
  enter r L = record { rows = L.rows ++ (r ∷ []); changed = L.changed; start = L.start }

  -- all that waits is settled
  abbrev pub settle : Ledger → Ledger
  settle L = record { rows = L.rows; changed = L.changed; start = end L }

  -- "Damage tells the ledger the changed sectors, nothing else": anew, those told before are forgotten. It falls where nothing waits
  abbrev pub told : List ℕ → Ledger → Ledger
  told cs L = record { rows = L.rows; changed = cs; start = max (end_rows L.rows) (end_changed cs) }

  -- the rows that pass a test, in order; whether one of them covers a sector; of the sectors ns, those that none of them covers
  abbrev pub keep_rows : (Row → Bool) → List Row → List Row
  keep_rows test [] = []
  keep_rows test (r ∷ rows) = cond (test r) (r ∷ keep_rows test rows) (keep_rows test rows)

  abbrev pub covered : List Row → ℕ → Bool
  covered [] n = false
  covered (r ∷ rows) n = covers r n || covered rows n

  abbrev pub loose : List Row → List ℕ → List ℕ
  loose rows [] = []
  loose rows (n ∷ ns) = cond (covered rows n) (loose rows ns) (n ∷ loose rows ns)

  -- "the ledger at the last settling ..., told the sectors that are changed at the stop": the rows that do not wait
  abbrev pub at_settling : Ledger → Ledger
  at_settling L = told L.changed (record { rows = keep_rows (λ r. ltb (first r) L.start) L.rows; changed = L.changed; start = L.start })

  -- after a stop inside a write a row is there if it did not wait, or if each of its sectors arrived
  abbrev pub there : ℕ → List ℕ → Row → Bool
  there e arrived r = ltb (first r) e || has_all arrived (first r) (parts r)

  abbrev pub there_rows : List ℕ → Ledger → List Row
  there_rows arrived L = keep_rows (there L.start arrived) L.rows

  -- a stop inside a write tells the ledger the sectors that arrived and those that were torn, nothing else. The rows that are there
  -- are all its rows, and changed are, besides those that were, the torn sectors and those that arrived of a row that is not there
  abbrev pub crashed : List ℕ → List ℕ → Ledger → Ledger
  crashed arrived torn L =
      told (L.changed ++ (torn ++ loose (there_rows arrived L) arrived)) (record { rows = there_rows arrived L; changed = L.changed; start = L.start })

  -- the sound blocks of a log, in its order: each starts in the used part
  unfoldable pub blocks : Log → List Row
  blocks log = found_from (sound log) (used log) 0

  -- "A doubtful sector is in the used part and in no sound block"
  abbrev pub Doubtful : Log → ℕ → Type 0
  Doubtful log n = (n < used log) × ((m : ℕ) (r : Row) → sound log m ≡ some r → covers r n ≡ false)

  -- what a request does to a log
  abbrev pub act : Effect Row → Log → Log
  act stays log = log
  act (adds r) log = written log r
  act settles log = settled log

  -- and to a ledger: a row added with a waiting part lent waits; one added without is settled at once
  abbrev pub note : Extent → Effect Row → Ledger → Ledger
  note x stays L = L
  note x (adds r) L = cond (waits x) (enter r L) (settle (enter r L))
  note x settles L = settle L

  -- the ledger's outcome as it is seen on a log
  abbrev pub shown : Log → Ruling Answer Session Row → Seen Answer Session Log
  shown log o = record { answer = o.answer; session = o.session; log = act o.effect log }

  abbrev pub next : Extent → Ledger → Ruling Answer Session Row → Ledger
  next x L o = note x o.effect L
