-- Nothing waits: where the log's sectors are read to its end and nothing behind them, all that is read is the log's.
use mathlib.Core.Path.{◌≡◌, ap}
use mathlib.Core.List.{[]}
use Prim.Native.Nat.{ℕ}
use lib.ListN.{length}
use Rattle.buffer.specs.Bytes.{Bytes}
use Rattle.block.specs.declared.Block.{Block}
use Rattle.block.specs.Log.{sectors, joined, bytes_of, sound}
use Rattle.block.proofs.Joined.{alike-whole}
use Rattle.block.proofs.Alike.{bytes-alike, sound-alike}
use Rattle.reader.specs.Reader.{placed}

module _ (log : Bytes) where
  pub bytes-alone : (b : Block) → bytes_of (joined (sectors (length log)) log []) b ≡ bytes_of log b
  bytes-alone b = bytes-alike (joined (sectors (length log)) log []) log (alike-whole log) b

  pub placed-alone : (n : ℕ) → placed (sound (joined (sectors (length log)) log []) n) ≡ placed (sound log n)
  placed-alone n = ap placed (sound-alike (joined (sectors (length log)) log []) log (alike-whole log) n)
