-- Two runs of sectors that are read as one: the first sectors of a log, and those that wait behind them.
use Rattle.std.specs.Prelude.{ℕ, ◌+◌, ◌≤◌, length}
use Rattle.buffer.specs.Bytes.{Bytes}
use Rattle.block.specs.Log.{sectors, joined}
use Rattle.two_runs.specs.declared.Runs.{Runs}

-- the log that both make
abbrev pub read_as_one : Runs → Bytes
read_as_one r = joined r.end.0 r.log.now r.waiting.now

-- how many sectors it has
abbrev pub sectors_of_both : Runs → ℕ
sectors_of_both r = r.end.0 + sectors (length r.waiting.now)

-- the log has the sectors that are read of it
abbrev pub EndsWithin : Runs → Type 0
EndsWithin r = r.end.0 ≤ sectors (length r.log.now)
