-- How much a comparison may count and spend.
use Rattle.std.specs.Prelude.{ℕ, ◌+◌, ◌*◌, ◌/◌, ◌≤◌}
use Rattle.buffer.specs.Bytes.{Bytes}
use Rattle.kind.specs.Kind.{longest}
use Rattle.entry.specs.Entry.{entry_length}
use Rattle.comparison.specs.Differences.{differences_of}

-- the entries of the longest directory block: 1,433
abbrev pub most_entries : ℕ
most_entries = longest / entry_length

-- no more units than the allowance, and at most as many differences for each of them, or one
-- where the two given entries differ without being opened
abbrev pub Bounded : Type 0
Bounded = (log waiting x y : Bytes) (allowance : ℕ)
    → ((differences_of log waiting x y allowance).units ≤ allowance)
    × ((differences_of log waiting x y allowance).count ≤ most_entries * (differences_of log waiting x y allowance).units + 1)
