-- The second call: its tests, and the two given entries.
use Rattle.std.specs.Prelude.{Bool, cond, ◌&&◌, ℕ, ◌+◌, ltb, length}
use Rattle.buffer.specs.Bytes.{Bytes}
use Rattle.refusal.specs.declared.Refusal.TheVariants.{LogLength, Entry as EntryRefused, Allowance}
use Rattle.sector_log.specs.LookUp.{lent_allowed}
use Rattle.sector_log.specs.Parts.{tape}
use Rattle.entry.specs.Entry.{entry_of}
use Rattle.file.specs.File.{entry_readable}
use Rattle.walk.specs.Walk.{most_allowance}
use Rattle.comparison.specs.declared.Compared.{Compared}
use Rattle.comparison.specs.Compared.{refused}
use Rattle.comparison.specs.Compare.{compare_entries}

-- "two well-formed active directory entries (else 16)"
unfoldable pub directory_allowed : Bytes → Bool
directory_allowed x = entry_readable x && (entry_of x).directory

-- "Tests are 3, 23, 16", in one log of bytes, where `lent` is what test 3 gave
unfoldable pub differences_in : Bool → Bytes → Bytes → Bytes → ℕ → Compared
differences_in lent log x y allowance =
    cond lent
    (cond (ltb most_allowance allowance) (refused Allowance)
    (cond (directory_allowed x && directory_allowed y) (compare_entries (allowance + 1) log 0 x y allowance) (refused EntryRefused)))
    (refused LogLength)

-- the same in "the log's used part and then the waiting part as one log"
abbrev pub differences_of : Bytes → Bytes → Bytes → Bytes → ℕ → Compared
differences_of log waiting x y allowance = differences_in (lent_allowed (length log) (length waiting)) (tape log waiting) x y allowance
