-- What is looked at for one sector of a log: whether the index leads to the sound block that starts there.
use Rattle.std.specs.Prelude.{Bool, true, false, ℕ, leb}
use Rattle.std.proofs.Math.Option.{Option}
use Rattle.bedrock.specs.Choice.{on}
use Rattle.buffer.specs.Bytes.{Bytes}
use Rattle.block.specs.Block.{Row}
use Rattle.known.specs.Known.{leads}

-- a block was found, at sector n or before it
abbrev pub found_by : Option Row → ℕ → Bool
found_by o n = on o false (λ h. leb h.first n)

-- the index leads to the block that was found, if any was
abbrev pub leads_found : Bytes → Bytes → Option Row → Bool
leads_found log index o = on o true (leads log index)
