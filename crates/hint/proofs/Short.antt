-- An index too short for one place in each bucket: nothing is found by it, and nothing is entered.
use mathlib.Core.Path.{◌≡◌}
use mathlib.Core.Option.{none}
use Prim.Native.Nat.{ℕ, ◌+◌, ◌-◌, ◌*◌, ◌<◌}
use native.Mathlib.Omega.{arith}
use lib.ListN.{length, get_or}
use Rattle.buffer.specs.Bytes.{Bytes}
use Rattle.sector_log.specs.LookUp.{held, look_up, look_up_asked}
use Rattle.sector_log.specs.Parts.{tape}
use Rattle.index.specs.Index.{places, bucket_of, first_free, entered}
use Rattle.hint.specs.Hint.{first_found, hint, held_by, look_up_by, look_up_by_asked}
use Rattle.hint.specs.Promises.{EmptyIsScan}

module _ (index : Bytes) (h : length index < 6400) where
  no_places : places (length index) ≡ 0
  no_places = omega arith

  bucket_empty : (score : Bytes) → bucket_of index score ≡ record { from = 0; to = 0 }
  unfolding bucket_of
  bucket_empty score =
      let a : 0 * get_or score 0 0 ≡ 0 = omega arith in
      let b : 0 * get_or score 0 0 + 0 ≡ 0 = omega arith in
      rw no_places (λ i. record { from = a i; to = b i })

  no_hint : (log : Bytes) (t : ℕ) (score : Bytes) → hint log index t score ≡ none
  unfolding hint first_found
  no_hint log t score = rw (bucket_empty score)

  pub held_by_none : (log : Bytes) (t : ℕ) (score : Bytes) → held_by log index t score ≡ held log t score
  unfolding held_by held
  held_by_none log t score = rw (no_hint log t score)

  pub nothing-entered : (score : Bytes) (kind first : ℕ) → entered index score kind first ≡ index
  unfolding entered first_free
  nothing-entered score kind first = rw (bucket_empty score)

  look_up_by_none : (log : Bytes) (t : ℕ) (score : Bytes) → look_up_by log index t score ≡ look_up log t score
  unfolding look_up_by look_up
  look_up_by_none log t score = rw (held_by_none log t score)

pub empty-is_scan : EmptyIsScan
unfolding look_up_by_asked look_up_asked
empty-is_scan log waiting index t s h = rw (look_up_by_none index h (tape log waiting) t s)
