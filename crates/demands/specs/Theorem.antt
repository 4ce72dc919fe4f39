-- Demands 2 and 3 of our archive, and whatever else may happen to it: the claims of ledger/specs/History.antt and Events.antt, over the archive of
-- Instance.antt. There a log is any bytes, blank is all zeros, "of any length" is in bytes, whole sectors or not, over the limit or not; an answer is the
-- number and the reply buffer to its last byte. Each request of a list has its own date, or none, in any order. So "a history of demand 2 may write the first
-- edition, undated, up to some request and this one from there on": that is among the lists, and "demand 3 covers logs with both editions".
use Rattle.ledger.specs.History.{Demand2, Demand3}
use Rattle.ledger.specs.Events.{AllThatHappens, AnyDamage, AnyZeroing, StopAnswers}
use Rattle.demands.specs.Instance.{archive}

-- "A list of requests, then damage to sectors, then another list: answers, session and log are the ledger's, told only which sectors changed"
abbrev pub Demand : Type 0
Demand = Demand3 archive

-- "From a blank log that only it writes, every sequence of requests is answered as a plain ledger would"
abbrev pub Blank : Type 0
Blank = Demand2 archive

-- ---- the claims of ledger/specs/Events.antt, of our archive

-- from a blank log on, whatever happens: after each event what is answered, the session and the log are the ledger's
abbrev pub Whatever : Type 0
Whatever = AllThatHappens archive

-- "damage may fall before or between any requests, as often as you like ..., and each time the ledger is told the changed sectors anew"
abbrev pub DamageAgain : Type 0
DamageAgain = AnyDamage archive

-- the same of zeroed sectors that are still in the used part
abbrev pub ZeroedAgain : Type 0
ZeroedAgain = AnyZeroing archive

abbrev pub AfterAStop : Type 0
AfterAStop = StopAnswers archive
