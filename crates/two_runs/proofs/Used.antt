-- The used part, one sector fewer.
use mathlib.Core.Path.{◌≡◌}
use mathlib.Core.Bool.{cond}
use Prim.Native.Nat.{ℕ, zero, suc, ◌-◌, ◌<◌}
use native.Mathlib.Omega.{arith}
use Rattle.buffer.specs.Bytes.{Bytes, zeros}
use Rattle.block.specs.Log.{at, used_of}

pub used-last : (log : Bytes) (n : ℕ) → 0 < n → used_of log n ≡ cond (zeros (at log (n - 1))) (used_of log (n - 1)) n
unfolding used_of
used-last log zero h = absurd (omega arith)
used-last log (suc m) h = let e : suc m - 1 ≡ m = omega arith in rw e
