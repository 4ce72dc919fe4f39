-- A read of a block that stands among the log's own sectors.
use Rattle.std.specs.Prelude.{cond, [], ℕ, ltb, length}
use Rattle.buffer.specs.Bytes.{Bytes}
use Rattle.refusal.specs.declared.Refusal.TheVariants.{OverCount}
use Rattle.block.specs.declared.Block.{Block}
use Rattle.block.specs.Log.{sectors, joined, bytes_of}
use Rattle.sector_log.specs.Parts.{Lent}
use Rattle.message.specs.Reply.{read_reply}
use Rattle.request.specs.Step.{Outcome, refused, granted}
use Rattle.request.specs.declared.Session.TheVariants.{Greeted}

-- "13 is tested on the block found", and then its bytes are the reply
abbrev pub settled_read : Bytes → Block → ℕ → ℕ → Lent → Bytes → Outcome
settled_read log b count tag L buffer =
    cond (ltb count b.size) (refused OverCount tag Greeted L buffer) (granted (read_reply tag (bytes_of (joined (sectors (length log)) log []) b)) Greeted L buffer)
