-- A copy that stopped is resumed by copying again.
use Rattle.std.specs.Prelude.{◌≡◌, true, ℕ, ◌≤◌, length}
use Rattle.buffer.specs.Bytes.{Bytes}
use Rattle.walk.specs.Walk.{most_allowance}
use Rattle.demands.specs.Instance.{grown}
use Rattle.copying.specs.Copy.{copy_allowed, copy_of}

-- "If it stops, whatever has been copied stays": copying again into what a copy left, with k more blank sectors behind it, answers and leaves to the last byte what
-- one copy into the longer log would have
abbrev pub CopyResumes : Type 0
CopyResumes = (log waiting date score second : Bytes) (n k : ℕ) → copy_allowed (length log) (length waiting) (length (grown k second)) ≡ true
    → copy_of log waiting date score (grown k (copy_of log waiting date score second n).second) n ≡ copy_of log waiting date score (grown k second) n

-- and so after a copy with a smaller allowance: a copy in rounds is one copy
abbrev pub CopyInRounds : Type 0
CopyInRounds = (log waiting date score second : Bytes) (m n k : ℕ) → m ≤ n → n ≤ most_allowance → copy_allowed (length log) (length waiting) (length (grown k second)) ≡ true
    → copy_of log waiting date score (grown k (copy_of log waiting date score second m).second) n ≡ copy_of log waiting date score (grown k second) n
