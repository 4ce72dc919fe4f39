-- Two logs with the same sectors: look-up by index is the same, and so is the index rebuilt from them.
use mathlib.Core.Path.{◌≡◌}
use Prim.Native.Nat.{ℕ}
use Rattle.buffer.specs.Bytes.{Bytes}
use Rattle.block.specs.Log.{Alike}
use Rattle.block.proofs.Alike.{sound-alike}
use Rattle.sector_log.proofs.Alike.{blocks-alike, absence-alike}
use Rattle.index.specs.Index.{sector_at}
use Rattle.hint.specs.Hint.{sound_with, true_at, hint, held_by, look_up_by}
use Rattle.hint.specs.Rebuilt.{rebuilt}
use Rattle.hint.specs.Promises.{AlikeByIndex, RebuiltAlike}

module _ (a b : Bytes) (f : Alike a b) (index : Bytes) (t : ℕ) (s : Bytes) where
  with_alike : (n : ℕ) → sound_with a n t s ≡ sound_with b n t s
  unfolding sound_with
  with_alike n = rw (sound-alike a b f n)

  true-alike : (p : ℕ) → true_at a index t s p ≡ true_at b index t s p
  unfolding true_at
  true-alike p = rw (with_alike (sector_at index p))

  each_alike : true_at a index t s ≡ true_at b index t s
  each_alike = λ i p. true-alike p i

  pub hint-alike : hint a index t s ≡ hint b index t s
  unfolding hint
  hint-alike = rw each_alike

  pub held_by_alike : held_by a index t s ≡ held_by b index t s
  unfolding held_by
  held_by_alike = rw (hint-alike, blocks-alike a b f)

pub look_up_by_alike : AlikeByIndex
unfolding look_up_by
look_up_by_alike a b f index t s = rw (held_by_alike a b f index t s, absence-alike a b f)

pub rebuilt-alike : RebuiltAlike
unfolding rebuilt
rebuilt-alike a b f index = rw (blocks-alike a b f)
