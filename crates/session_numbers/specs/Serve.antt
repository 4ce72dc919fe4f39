-- A request's outcome in numbers and byte strings.
use Rattle.std.specs.Prelude.{cond, ℕ, ◌+◌, ◌*◌, eqb}
use Rattle.buffer.specs.Bytes.{Bytes}
use Rattle.sector_log.specs.Parts.{Lent, beside}
use Rattle.indexed.specs.Indexed.{Indexed}
use Rattle.request.specs.declared.Session.{Session}
use Rattle.request.specs.declared.Session.TheVariants.{Fresh, Greeted, Closed}

-- a session as a number: 0 is fresh, 1 greeted, and anything else closed
unfoldable pub session_of : ℕ → Session
session_of n = cond (eqb n 0) Fresh (cond (eqb n 1) Greeted Closed)

abbrev pub session_number : Session → ℕ
session_number Fresh = 0
session_number Greeted = 1
session_number Closed = 2

-- what the call gives: its result, and what the log, its waiting part, the reply buffer and the index then hold
pub record Served : Type 0 where
  pub result : ℕ
  pub lent : Lent
  pub reply : Bytes
  pub index : Bytes

abbrev pub served : ℕ → Bytes → Bytes → Bytes → Bytes → Served
served r log waiting reply index = record { result = r; lent = beside log waiting; reply = reply; index = index }

-- the same of the archive's step: the number, and 256 times the session
abbrev pub served_of : Indexed → Served
served_of x = let o = x.outcome in record { result = o.number + 256 * session_number o.session; lent = o.lent; reply = o.reply; index = x.index }
