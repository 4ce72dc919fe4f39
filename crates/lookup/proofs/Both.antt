-- A log read to its end, with nothing behind it.
use mathlib.Core.Path.{◌≡◌}
use mathlib.Core.List.{[]}
use Prim.Native.Nat.{ℕ}
use lib.ListN.{length}
use Rattle.buffer.specs.Bytes.{Bytes}
use Rattle.block.specs.Log.{sectors, joined}
use Rattle.block.proofs.Joined.{alike-whole}
use Rattle.sector_log.specs.LookUp.{held, look_up}
use Rattle.sector_log.proofs.Alike.{held-alike, look_up_alike}
pub use Rattle.doubt.proofs.Both.{border_place, used-before}

-- a log read to its end, with nothing behind it
module _ (log : Bytes) where
  pub held_whole : (t : ℕ) (s : Bytes) → held (joined (sectors (length log)) log []) t s ≡ held log t s
  held_whole = held-alike (joined (sectors (length log)) log []) log (alike-whole log)

  pub look_up_whole : (t : ℕ) (s : Bytes) → look_up (joined (sectors (length log)) log []) t s ≡ look_up log t s
  look_up_whole = look_up_alike (joined (sectors (length log)) log []) log (alike-whole log)
