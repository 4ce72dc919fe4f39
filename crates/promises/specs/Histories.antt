-- Whole histories of demand 3: a blank log, a list of requests, damage, another list. One of demand 2 is one whose damage changed no sector.
use Rattle.std.specs.Prelude.{◌≡◌, true, ◌≢◌, ℕ}
use mathlib.Core.List.{List, [], ◌∷◌, Memᴰ}
use Rattle.std.proofs.Math.Option.{some}
use Rattle.buffer.specs.Bytes.{Bytes}
use Rattle.sha1_digest.specs.Sha1.{sha1_of}
use Rattle.message.specs.Message.{data_of, request_of}
use Rattle.message.specs.declared.Request.TheVariants.{Write}
use Rattle.block.specs.Block.{Row}
use Rattle.block.specs.Log.{at, used}
use Rattle.sector_log.specs.Parts.{Lent, one_log}
use Rattle.sector_log.specs.LookUp.{held}
use Rattle.request.specs.declared.Session.{Session}
use Rattle.ledger.specs.Ledger.{Ledger, told, hit}
use Rattle.ledger.specs.Reflects.{Reflects}
use Rattle.ledger.specs.Trace.{trace}
use Rattle.ledger.specs.History.{Item, AllOfBytes, Damage, Standing, answer, harmed, first-log, first_books, second-log, second_books}
use Rattle.demands.specs.Ledger.{Extent}
use Rattle.demands.specs.Instance.{extent_of, archive}

-- what is used of the log and its waiting part is the log's
abbrev pub NothingWaits : Lent → Type 0
NothingWaits L = used L.log ≡ used (one_log L)

pub record History : Type 0 where
  -- the lengths of the blank log and of its waiting part, if one is lent, and the list of requests on it
  pub size : Extent
  pub before : List (Item archive)
  pub before-of-bytes : AllOfBytes archive before
  -- "Demand 3's damage falls on a log with nothing waiting"
  pub rests : NothingWaits (first-log archive size before).log
  -- the sectors that the damage changed, and the log that it left
  pub changed : List ℕ
  pub hurt : Lent
  pub damage : Damage archive (at (one_log (first-log archive size before).log)) size changed hurt
  -- the list of requests after it
  pub later : List (Item archive)
  pub later-of-bytes : AllOfBytes archive later

module _ (h : History) where
  -- the log that the damage fell on, the archive right after it, and the log when the history ends
  abbrev pub clean_log : Lent
  clean_log = (first-log archive h.size h.before).log

  abbrev pub at_damage : Standing archive
  at_damage = harmed archive h.hurt (first-log archive h.size h.before)

  abbrev pub log_of : Lent
  log_of = (second-log archive h.size h.before h.hurt h.later).log

  -- the ledger when it has been told of the damage, and when the history ends
  abbrev pub told_ledger : Ledger archive
  told_ledger = told archive h.changed (first_books archive h.size h.before).ledger

  abbrev pub ledger_of : Ledger archive
  ledger_of = (second_books archive h.size h.before h.changed h.hurt h.later).ledger

-- after every history the log reflects the ledger: the one step from the invariant to whole histories
abbrev pub Reflected : Type 0
Reflected = (h : History) → Reflects archive (log_of h) (ledger_of h)

-- the log after further requests, which may go on from sessions `past`
abbrev pub afterwards : Lent → List Session → List (Item archive) → Lent
afterwards log past qs = (trace (answer archive) (record { log = log; past = past }) qs).left.log

-- a later log is as long, as is its waiting part, and both together hold all that look-up found, at the same place
abbrev pub Keeps : Lent → Lent → Type 0
Keeps L later = (extent_of later ≡ extent_of L) × ((t : ℕ) (s : Bytes) (r : Row) → held (one_log L) t s ≡ some r → held (one_log later) t s ≡ some r)

-- each row of type t and score s has a changed sector: a block that lost one and has no other intact row, or one that was never stored
abbrev pub NoneIntact : ℕ → Bytes → Ledger archive → Type 0
NoneIntact t s L = (r : Row) → Memᴰ r L.rows → r.kind ≡ t → r.score ≡ s → hit archive L.changed r ≡ true

-- no request of the list stores a block of that type and score: a write of it may be tried, and is refused
abbrev pub NoneStored : ℕ → Bytes → Standing archive → List (Item archive) → Type 0
NoneStored t s S [] = Unit {0}
NoneStored t s S (q ∷ qs) =
    let o = answer archive S q in
    (request_of q.request.message ≡ Write t → sha1_of (data_of q.request.message) ≡ s → o.shown.answer.number ≢ 0) × NoneStored t s o.state qs
