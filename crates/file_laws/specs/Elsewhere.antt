-- A file read in another log that holds its blocks: a file depends on a log by its blocks' bytes alone, and not by where they lie.
use Rattle.std.specs.Prelude.{◌≡◌, true, ℕ, length}
use Rattle.std.proofs.Math.Option.{some}
use Rattle.buffer.specs.Bytes.{Bytes}
use Rattle.block.specs.Block.{Row}
use Rattle.sector_log.specs.LookUp.{held, lent_allowed}
use Rattle.sector_log.specs.Parts.{tape}
use Rattle.file.specs.File.{located}
use Rattle.file_laws.specs.Path.{Answers}
use Rattle.file_laws.specs.Bytes.{file_byte}

-- each block that the first log holds is held by the second with the same bytes, wherever it lies there
abbrev pub BlocksHeldBy : Bytes → Bytes → Type 0
BlocksHeldBy log other = (t : ℕ) (s : Bytes) (r : Row) → held log t s ≡ some r → (r' : Row) × (held other t s ≡ some r') × (r'.bytes ≡ r.bytes)

-- an offset that reads in the first log reads in the second, and its byte is the same
abbrev pub ReadsElsewhere : Type 0
ReadsElsewhere = (log waiting log' waiting' page entry : Bytes) (offset : ℕ)
    → lent_allowed (length log') (length waiting') ≡ true → BlocksHeldBy (tape log waiting) (tape log' waiting') → Answers (located log waiting page entry offset)
    → Answers (located log' waiting' page entry offset) × (file_byte (tape log' waiting') entry offset ≡ file_byte (tape log waiting) entry offset)
