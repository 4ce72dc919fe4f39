-- Which requests change the index, and what they leave of it.
use mathlib.Core.Path.{◌≡◌, refl}
use mathlib.Core.Bool.{Bool, true, false, cond, not}
use mathlib.Core.Logic.{◌⊎◌, inl, inr}
use mathlib.Core.Option.{Option}
use Prim.Native.Nat.{ℕ}
use lib.Dec.{ltb}
use lib.ListN.{length}
use borrow.Author.Tests.{le-ltb}
use Rattle.sector_number.specs.declared.SectorNumber.{SectorNumber}
use Rattle.buffer.specs.Bytes.{Bytes}
use Rattle.sha1_digest.specs.Sha1.{sha1_of}
use Rattle.sha1_digest.proofs.Digest.{digest_length, digest_bytes}
use Rattle.message.specs.Message.{tag_of, data_of, request_of}
use Rattle.message.specs.declared.Request.TheVariants.{Write}
use Rattle.kind.specs.Kind.{lawful, longest}
use Rattle.sector_log.specs.Parts.{Lent}
use Rattle.sector_log.specs.Store.{store}
use Rattle.sector_log.specs.declared.Stored.{Stored}
use Rattle.sector_log.specs.declared.Stored.TheVariants.{New, Duplicate}
use Rattle.sector_log.proofs.Receipts.{store-score}
use Rattle.index.specs.Index.{entered, left_over}
use Rattle.index.proofs.Entered.{entered-keeps}
use Rattle.refusal.specs.Number.{number_of}
use Rattle.refusal.specs.declared.Refusal.TheVariants.{BlockType, DataLength}
use Rattle.request.specs.Step.{reply_room, date_of, refused, written, write}
use Rattle.request.specs.declared.Session.{Session}
use Rattle.request.specs.declared.Session.TheVariants.{Greeted}
use Rattle.indexed.specs.Indexed.{read_by, entered_by, index_after, write_by, greeted_by, in_session_by, step_by}
use Rattle.indexed.specs.Promises.{Stores, EntersWhatItStores, OnlyAStoreEnters}
use Rattle.indexed.proofs.Ways.{step_ways}
use Rattle.std.specs.Prelude.{Ok, Err, Result}
use Rattle.refusal.specs.declared.Refusal.{Refusal}

pub enters_what_it_stores : EntersWhatItStores
unfolding step_by in_session_by greeted_by write_by index_after
enters_what_it_stores m date index L buffer kind at f room a w l le p =
    rw (f, le-ltb (length buffer) reply_room room, a, w, p.0, l, le-ltb longest (length (data_of m)) le, store-score L (date_of date) kind (data_of m), p.1)

module _ (m : Bytes) (date : Option Bytes) (index : Bytes) (L : Lent) (buffer : Bytes) where
  abbrev Kept : Session → ℕ → Bytes → Type 0
  Kept s number after = (length after ≡ length index) × (left_over after ≡ left_over index)
      × ((after ≡ index)
      ⊎ ((s ≡ Greeted) × (number ≡ 0)
      × ((kind : ℕ) × (at : SectorNumber) × Stores m date L kind at × (after ≡ entered index (sha1_of (data_of m)) kind at.0))))

  same_index : (s : Session) (number : ℕ) → Kept s number index
  same_index s number = (refl, refl, inl refl)

  by_store : (kind : ℕ) → request_of m ≡ Write kind → (w : Result Stored Refusal) → (store L (date_of date) kind (data_of m)).receipt.stored ≡ w → (score : Bytes) (K : Lent)
      → Kept Greeted (written w (tag_of m) score K buffer).number (entered_by w (sha1_of (data_of m)) kind index)
  by_store kind e (Ok (New at)) q score K =
      let k = entered-keeps index (sha1_of (data_of m)) kind at.0 (digest_length (data_of m)) (digest_bytes (data_of m) 0) in
      (k.0, k.1, inr (refl, refl, (kind, at, (e, q), refl)))
  by_store kind e (Ok (Duplicate at)) q score K = same_index Greeted 0
  by_store kind e (Err w) q score K = same_index Greeted (number_of w)

  by_write : (kind : ℕ) → request_of m ≡ Write kind
      → Kept Greeted (write (date_of date) kind (tag_of m) (data_of m) L buffer).number (index_after (date_of date) kind (data_of m) index L)
  unfolding index_after write
  by_write kind e = rw (store-score L (date_of date) kind (data_of m)) (go (not (lawful kind)) (ltb longest (length (data_of m))))
    where
      go : (a b : Bool) → let w = store L (date_of date) kind (data_of m) in
          Kept Greeted
          (cond a (refused BlockType (tag_of m) Greeted L buffer)
          (cond b (refused DataLength (tag_of m) Greeted L buffer) (written w.receipt.stored (tag_of m) (sha1_of (data_of m)) w.lent buffer))).number
          (cond a index (cond b index (entered_by w.receipt.stored (sha1_of (data_of m)) kind index)))
      go true b = same_index Greeted 9
      go false true = same_index Greeted 10
      go false false = let w = store L (date_of date) kind (data_of m) in by_store kind e w.receipt.stored refl (sha1_of (data_of m)) w.lent

pub only-a-store_enters : OnlyAStoreEnters
unfolding read_by write_by
only-a-store_enters s m date index L buffer =
    step_ways m date index L buffer (λ s x o. Kept m date index L buffer s x.outcome.number x.index) (λ s o _. same_index m date index L buffer s o.number)
    (λ kind count _. same_index m date index L buffer Greeted _)
    (λ kind e _ _. by_write m date index L buffer kind e)
    s
