-- A block appended to the log and entered where its bucket has a free place: the index leads to its score and type, whatever else is entered.
use mathlib.Core.Path.{◌≡◌, refl, ◌∙◌}
use mathlib.Core.Bool.{true, cond, ◌&&◌}
use mathlib.Core.Logic.{◌≢◌}
use mathlib.Core.Option.{none, some}
use Prim.Native.Nat.{ℕ, ◌+◌, ◌-◌, ◌*◌, ◌<◌}
use native.Mathlib.Omega.{arith}
use lib.Dec.{eqb}
use borrow.Author.Tests.{eq-eqb, ltb-true}
use lib.ListN.{length, get_or}
use Rattle.buffer.specs.Bytes.{Bytes, same}
use Rattle.buffer.proofs.Bytes.{same_refl}
use Rattle.block.specs.Block.{Row, written}
use Rattle.block.proofs.Facts.{score-length}
use Rattle.sector_log.proofs.Written.{new-sound}
use Rattle.index.specs.Index.{places, bucket_of, free_place, has_free}
use Rattle.index.proofs.Buckets.{in_bucket, free-range}
use Rattle.index.proofs.Entered.{length-entered, entered-place}
use Rattle.hint.specs.Hint.{true_at, hint}
use Rattle.hint.specs.Rebuilt.{entered_row}
use Rattle.hint.specs.Promises.{Appends, EnteredFound}
use Rattle.hint.proofs.Found.{found_any}
use Rattle.hint.proofs.Sound.{head_lt, entry-true}

-- buckets by the length of the index alone
pub bucket_alike : (index index' s : Bytes) → length index' ≡ length index → bucket_of index' s ≡ bucket_of index s
unfolding bucket_of
bucket_alike index index' s e = λ i. record { from = places (e i) * get_or s 0 0; to = places (e i) * get_or s 0 0 + places (e i) }

module _ (log index : Bytes) (r : Row) (a : Appends log r) where
  l : length r.score ≡ 20
  l = score-length r a.0

  b : get_or r.score 0 0 < 256
  b = head_lt r a.0

  pub bucket_stays : (s : Bytes) → bucket_of (entered_row index r) s ≡ bucket_of index s
  bucket_stays s = bucket_alike index (entered_row index r) s (length-entered index r.score l b r.kind r.first)

  module _ (room : has_free index r.score ≡ true) where
    -- the row's own place leads to it
    pub own_true : (t : ℕ) (s : Bytes) → true_at (written log r) (entered_row index r) t s (free_place index r.score) ≡ cond (eqb r.kind t && same r.score s) (some r) none
    own_true t s =
        entry-true (written log r) (entered_row index r) t s (free_place index r.score) r (entered-place index r.score l b r.kind r.first room)
        (new-sound log r a.0 a.1 a.2)

    own_hint : hint (written log r) (entered_row index r) r.kind r.score ≢ none
    unfolding hint
    own_hint =
        let B = bucket_of index r.score in
        let k = B.to - B.from in
        let here : free_place index r.score < B.to = ltb-true (free_place index r.score) B.to room in
        let t = true_at (written log r) (entered_row index r) r.kind r.score in
        rw (bucket_stays r.score)
        (found_any t k B.from (free_place index r.score) r (free-range index k B.from).0 (omega (arith, here, (in_bucket index r.score b).0))
        (own_true r.kind r.score ∙ rw (eq-eqb r.kind r.kind refl, same_refl r.score)))

pub entered-found : EnteredFound
entered-found log index r a room = own_hint log index r a room
