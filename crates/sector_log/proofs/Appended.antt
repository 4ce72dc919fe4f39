-- Appending adds one sound block, behind all others, and no other: on any log.
use mathlib.Core.Path.{◌≡◌, ap, ◌∙◌}
use mathlib.Core.Bool.{true}
use mathlib.Core.List.{List, [], ◌∷◌, ◌++◌}
use Prim.Native.Nat.{ℕ, ◌+◌, ◌-◌, ◌≤◌}
use native.Mathlib.Omega.{arith}
use lib.ListN.{length}
use Rattle.bedrock.specs.Places.{found_from}
use Rattle.bedrock.proofs.Places.{within-after}
use Rattle.buffer.specs.Bytes.{Bytes, zeros}
use Rattle.block.specs.Block.{Row, parts, valid, written}
use Rattle.block.specs.Log.{sectors, at, used, sound}
use Rattle.block.proofs.Used.{used_le, blank-past}
use Rattle.block.proofs.Written.{at-written}
use Rattle.sector_log.specs.LookUp.{blocks}
use Rattle.sector_log.specs.Promises.{BlocksAppended}
use Rattle.sector_log.proofs.Blocks.{step-some, blocks-past}
use Rattle.sector_log.proofs.Written.{new-sound, same-front}

module _ (log : Bytes) (r : Row) (v : valid r ≡ true) (end : r.first ≡ used log) (room : r.first + parts r ≤ sectors (length log)) where
  -- the used part ends with the new block, or before its end
  pub used_ends : used (written log r) ≤ r.first + parts r
  used_ends =
      used_le (written log r) (r.first + parts r)
      (λ n h. let e : at (written log r) n ≡ at log n = at-written log r v room n ∙ rw (within-after r.first (parts r) n h) in
      ap zeros e ∙ blank-past log n (omega arith))

  pub blocks-added : blocks (written log r) ≡ blocks log ++ (r ∷ [])
  blocks-added =
      let W = written log r in
      let k = sectors (length log) - used log in
      let a : k ≡ parts r + (k - parts r) = omega arith in
      let b : 0 + used log ≡ r.first = omega arith in
      same-front log r v end room
      ∙ ap (λ (l : List Row). blocks log ++ l)
      (ap (found_from (sound W) k) b ∙ ap (λ (n : ℕ). found_from (sound W) n r.first) a
      ∙ step-some W (k - parts r) r.first r (new-sound log r v end room)
      ∙ ap (λ (l : List Row). r ∷ l) (blocks-past W (k - parts r) (r.first + parts r) used_ends))

pub blocks-appended : BlocksAppended
blocks-appended log r v end room = blocks-added log r v end room
