-- An archive, as far as the ledger's theorem looks at one: how its log is cut into sectors, what a block looks like there,
-- how the archive answers a request from the log, and how the ledger answers it from its rows. The log is the settled sectors and,
-- where a waiting part is lent, its sectors behind them, as one log.
use Rattle.std.specs.Prelude.{Bool, List, ℕ}
use Rattle.std.proofs.Math.Option.{Option}

-- what is seen of a request: its answer, the session and the log after it
pub record Seen (Answer Session Log : Type 0) : Type 0 where
  pub answer : Answer
  pub session : Session
  pub log : Log

-- what a request does: nothing, a row is added, or all that waits is settled
pub data Effect (Row : Type 0) : Type 0 where
  stays : Effect Row
  adds : Row → Effect Row
  settles : Effect Row

-- what the ledger says of a request: the answer, the session after it, and what it does
pub record Ruling (Answer Session Row : Type 0) : Type 0 where
  pub answer : Answer
  pub session : Session
  pub effect : Effect Row

pub record Archive : Type 1 where
  -- the log: what the ledger is told of it, the number of its sectors, a log all blank, a sector (past the end a blank one)
  pub Log : Type 0
  pub Extent : Type 0
  pub Sector : Type 0
  pub extent : Log → Extent
  pub sectors : Extent → ℕ
  pub void : Extent → Log
  pub at : Log → ℕ → Sector
  pub blank : Sector
  pub is_blank : Sector → Bool
  pub fits : Sector → Bool
  -- the second sector differs from the first only within four neighbouring bytes
  pub Near : Sector → Sector → Type 0
  -- the used part: one past the last sector that is not blank
  pub used : Log → ℕ
  -- whether a waiting part is lent; the sector where it starts, else the end of the used part; the log with all settled
  pub waits : Extent → Bool
  pub start : Log → ℕ
  pub settled : Log → Log
  -- what a stop leaves: the log alone, and a blank waiting part lent anew, of any length, or none
  pub Loan : Type 0
  pub alone : Loan → Log → Log
  pub lent : Loan → Extent → Extent
  -- the log lent on with more blank sectors behind it, where that can be
  pub Growth : Type 0
  pub grown : Growth → Log → Log
  pub wider : Growth → Extent → Extent
  pub growable : Extent → Bool
  -- a row, a block at its place: its first sector, their number, each of them, whether it can be written
  pub Row : Type 0
  pub first : Row → ℕ
  pub parts : Row → ℕ
  pub image : Row → ℕ → Sector
  pub valid : Row → Bool
  -- whether a log of this extent, whose waiting part starts there, has room for it
  pub has_room : Extent → ℕ → Row → Bool
  -- whether the ledger can have added it
  pub owned : Row → Bool
  -- the sound block that starts at a sector of a log; a log with a row written
  pub sound : Log → ℕ → Option Row
  pub written : Log → Row → Log
  -- a request, of bytes; what it is answered; a session, and a fresh one
  pub Request : Type 0
  pub Answer : Type 0
  pub Session : Type 0
  pub OfBytes : Request → Type 0
  pub fresh : Session
  -- one request as the archive answers it, from the bytes of the log
  pub serve : Log → Session → Request → Seen Answer Session Log
  -- one request as the ledger answers it, from its rows, the changed sectors, the sector from which on its rows wait, and the log's extent
  pub tell : List Row → List ℕ → ℕ → Extent → Session → Request → Ruling Answer Session Row
