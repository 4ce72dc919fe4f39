-- What waits is moved into the log, or nothing is.
use mathlib.Core.Path.{◌≡◌, ap₂, ◌∙◌}
use mathlib.Core.Bool.{Bool, cond}
use Prim.Native.Nat.{ℕ, ◌+◌, ◌*◌, ◌≤◌, ◌<◌}
use lib.Dec.{leb}
use borrow.Author.Tests.{le-leb, lt-leb}
use lib.ListN.{length, take, replicate}
use Rattle.buffer.specs.Bytes.{Bytes, put}
use Rattle.block.specs.Log.{sectors, used}
use Rattle.sector_log.specs.Parts.{Lent, beside, can_settle, settled}
use Rattle.sector_log.specs.Behind.{moved_behind}
use Rattle.sector_log.proofs.Room.{moved-behind}

module _ (u n : ℕ) (log w : Bytes) where
  pub nothing-moved : sectors (length log) < u + n → beside log w ≡ cond (leb (u + n) (sectors (length log))) (moved_behind u n log w) (beside log w)
  nothing-moved h = rw (lt-leb (u + n) (sectors (length log)) h)

  pub all_moved : (log' w' : Bytes) → u + n ≤ sectors (length log) → log' ≡ put log (512 * u) (take (512 * n) w) → w' ≡ replicate (length w) 0
      → beside log' w' ≡ cond (leb (u + n) (sectors (length log))) (moved_behind u n log w) (beside log w)
  all_moved log' w' h p q = rw (le-leb (u + n) (sectors (length log)) h) (ap₂ beside p q)

  -- behind the used part, all that waits
  module _ (a : u ≡ used log) (b : n ≡ used w) where
    pub fits-used : leb (u + n) (sectors (length log)) ≡ can_settle (beside log w)
    unfolding can_settle
    fits-used = λ i. leb (a i + b i) (sectors (length log))

    pub moved-used : cond (leb (u + n) (sectors (length log))) (moved_behind u n log w) (beside log w) ≡ cond (can_settle (beside log w)) (settled (beside log w)) (beside log w)
    moved-used = ap₂ (λ (t : Bool) (L : Lent). cond t L (beside log w)) fits-used ((λ i. moved_behind (a i) (b i) log w) ∙ moved-behind log w)
