-- What was compared once.
use Rattle.std.specs.Prelude.{◌≡◌, ℕ, length, Ok}
use Rattle.std.proofs.Math.Option.{some}
use Rattle.buffer.specs.Bytes.{Bytes}
use Rattle.block.specs.Block.{Row}
use Rattle.sector_log.specs.LookUp.{held, lent_allowed}
use Rattle.sector_log.specs.Parts.{tape}
use Rattle.comparison.specs.Differences.{differences_of}

-- on a log and a waiting part that hold what the earlier ones held, and perhaps more, a comparison that ended with number 0 ends the same
abbrev pub ComparedAgain : Type 0
ComparedAgain = (log waiting log' waiting' x y : Bytes) (allowance : ℕ)
    → lent_allowed (length log') (length waiting') ≡ lent_allowed (length log) (length waiting)
    → ((t : ℕ) (s : Bytes) (r : Row) → held (tape log waiting) t s ≡ some r → held (tape log' waiting') t s ≡ some r)
    → (differences_of log waiting x y allowance).end ≡ Ok tt
    → differences_of log' waiting' x y allowance ≡ differences_of log waiting x y allowance
