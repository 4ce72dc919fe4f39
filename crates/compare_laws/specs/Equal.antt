-- A tree beside itself.
use Rattle.std.specs.Prelude.{◌≡◌, true, ℕ, ◌≤◌, length}
use Rattle.buffer.specs.Bytes.{Bytes}
use Rattle.sector_log.specs.LookUp.{lent_allowed}
use Rattle.walk.specs.Walk.{most_allowance}
use Rattle.comparison.specs.Compared.{none}
use Rattle.comparison.specs.Differences.{directory_allowed, differences_of}

-- "Equal entries .. are skipped unread": after the tests nothing is counted, spent or refused, whatever the log holds, with any allowance
abbrev pub EqualIsNone : Type 0
EqualIsNone = (log waiting x : Bytes) (allowance : ℕ) → lent_allowed (length log) (length waiting) ≡ true → allowance ≤ most_allowance
    → directory_allowed x ≡ true → differences_of log waiting x x allowance ≡ none
