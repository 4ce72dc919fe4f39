-- What a store hands back.
use mathlib.Core.Path.{◌≡◌, refl}
use Prim.Native.Nat.{ℕ}
use Rattle.bedrock.proofs.Choices.{cond_ind, on_ind}
use Rattle.buffer.specs.Bytes.{Bytes, same}
use Rattle.sha1_digest.specs.Sha1.{sha1_of}
use Rattle.sector_log.specs.LookUp.{held}
use Rattle.sector_log.specs.Parts.{Lent, one_log, room_for}
use Rattle.sector_log.specs.Store.{AfterStore, parts_for, store}

-- the receipt has the score of the data
pub store-score : (L : Lent) (date : Bytes) (t : ℕ) (d : Bytes) → (store L date t d).receipt.score ≡ sha1_of d
unfolding store
store-score L date t d =
    on_ind Scored (held (one_log L) t (sha1_of d)) _ _
    (λ _. cond_ind Scored (room_for L (parts_for date d)) _ _ (λ _. refl) (λ _. refl))
    (λ r _. cond_ind Scored (same r.bytes d) _ _ (λ _. refl) (λ _. refl))
  where
    Scored : AfterStore → Type 0
    Scored a = a.receipt.score ≡ sha1_of d
