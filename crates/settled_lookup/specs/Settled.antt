-- A block that look-up by index finds and that stands among the log's own sectors.
use Rattle.std.specs.Prelude.{◌≡◌, [], ℕ, length, Ok}
use Rattle.buffer.specs.Bytes.{Bytes}
use Rattle.block.specs.declared.Block.{Block}
use Rattle.block.specs.Log.{sectors, joined, bytes_of}
use Rattle.sector_log.specs.Parts.{tape}
use Rattle.hint.specs.Hint.{look_up_by}

-- whatever waits behind the log's used part, look-up by index finds this block, and its bytes are the log's own
abbrev pub FoundSettled : Bytes → Bytes → ℕ → Bytes → Block → Type 0
FoundSettled log index t s b = (waiting : Bytes)
    → (look_up_by (tape log waiting) index t s ≡ Ok b) × (bytes_of (tape log waiting) b ≡ bytes_of (joined (sectors (length log)) log []) b)
