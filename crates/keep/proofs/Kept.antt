-- A block behind all that is below it: stored, or not.
use mathlib.Core.Path.{◌≡◌, sym, ap, ap₂, ◌∙◌}
use Prim.Native.Nat.{ℕ, ◌+◌}
use lib.ListN.{length, take, drop}
use lib.Seq.{take-append_seam}
use Rattle.buffer.specs.Bytes.{Bytes, put}
use Rattle.buffer.proofs.Put.{put_front}
use Rattle.refusal.specs.declared.Refusal.{Refusal}
use Rattle.sector_log.specs.declared.Receipt.{Receipt}
use Rattle.sector_log.specs.Parts.{alone}
use Rattle.sector_log.specs.Store.{after_store, store}
use Rattle.visit.specs.declared.Walked.{Walked}
use Rattle.visit.specs.Visit.{walked}
use Rattle.copying.specs.Copy.{copied, store_end, stored_in, kept}
use Rattle.std.specs.Prelude.{Ok, Err, Result, ⊤}

-- the front of a page to which bytes were written
pub front-of-page : (page x : Bytes) (n : ℕ) {page' : Bytes} → page' ≡ put page 0 x → length x ≡ n → take n page' ≡ x
front-of-page page x n p e = ap₂ take (sym e) (p ∙ put_front page x) ∙ take-append_seam x (drop (length x) page)

module _ (second date : Bytes) (t : ℕ) where
  pub block-stored : (second' taken bytes : Bytes) (rc : Receipt) (r : Result ⊤ Refusal) → after_store rc (alone second') ≡ store (alone second) date t taken → taken ≡ bytes
      → r ≡ store_end rc.stored → (n : ℕ) → copied (walked n r) second' ≡ stored_in n (store (alone second) date t bytes)
  block-stored second' taken bytes rc r e q z n =
      ap (λ (x : Result ⊤ Refusal). copied (walked n x) second') z ∙ ap (stored_in n) (e ∙ ap (store (alone second) date t) q)

  module _ (b : Bytes) (below : Walked) where
    pub below-refused : (why : Refusal) → below.end ≡ Err why → copied (walked (below.visits + 1) below.end) second ≡ kept date t b (copied below second)
    unfolding kept
    below-refused why e = rw e

    pub below-done : below.end ≡ Ok tt → (e : Result ⊤ Refusal) (second' : Bytes)
        → ((n : ℕ) → copied (walked n e) second' ≡ stored_in n (store (alone second) date t b))
        → copied (walked (below.visits + 1) e) second' ≡ kept date t b (copied below second)
    unfolding kept
    below-done d e second' h = rw d (h (below.visits + 1))
