-- A request by an index too short for one place in each bucket.
use mathlib.Core.Path.{◌≡◌, refl, ap}
use mathlib.Core.Bool.{Bool, true, false, cond, not}
use mathlib.Core.Option.{Option}
use Prim.Native.Nat.{ℕ, ◌<◌}
use lib.Dec.{ltb}
use lib.ListN.{length}
use Rattle.buffer.specs.Bytes.{Bytes}
use Rattle.refusal.specs.declared.Refusal.TheVariants.{BlockType}
use Rattle.message.specs.Message.{tag_of, score_of, data_of}
use Rattle.kind.specs.Kind.{lawful, longest}
use Rattle.block.specs.Block.{Row}
use Rattle.sector_log.specs.Parts.{Lent, one_log}
use Rattle.sector_log.specs.Store.{store}
use Rattle.sector_log.specs.declared.Stored.{Stored}
use Rattle.sector_log.specs.declared.Stored.TheVariants.{New, Duplicate}
use Rattle.hint.proofs.Short.{held_by_none, nothing-entered}
use Rattle.request.specs.Step.{refused, read_of, date_of, read, write}
use Rattle.request.specs.declared.Session.TheVariants.{Greeted}
use Rattle.indexed.specs.Indexed.{keeping, read_by, entered_by, index_after, write_by}
use Rattle.indexed.specs.Promises.{EmptyIsScan}
use Rattle.indexed.proofs.Ways.{step_ways}
use Rattle.std.specs.Prelude.{Ok, Err, Result}
use Rattle.refusal.specs.declared.Refusal.{Refusal}

module _ (index : Bytes) (h : length index < 6400) where
  none-entered : (w : Result Stored Refusal) (score : Bytes) (kind : ℕ) → entered_by w score kind index ≡ index
  none-entered (Ok (New at)) score kind = nothing-entered index h score kind at.0
  none-entered (Ok (Duplicate at)) score kind = refl
  none-entered (Err w) score kind = refl

  none_after : (date : Bytes) (kind : ℕ) (d : Bytes) (L : Lent) → index_after date kind d index L ≡ index
  unfolding index_after
  none_after date kind d L = go (not (lawful kind)) (ltb longest (length d))
    where
      go : (a b : Bool) → cond a index (cond b index (let r = (store L date kind d).receipt in entered_by r.stored r.score kind index)) ≡ index
      go true b = refl
      go false true = refl
      go false false = none-entered (store L date kind d).receipt.stored (store L date kind d).receipt.score kind

pub empty-is_scan : EmptyIsScan
unfolding read_by read write_by
empty-is_scan s m date index L buffer h =
    step_ways m date index L buffer (λ _ x o. x ≡ keeping index o) (λ _ o _. refl)
    (λ kind count _. ap (λ (f : Option Row). keeping index (cond (not (lawful kind)) (refused BlockType (tag_of m) Greeted L buffer) (read_of f count (tag_of m) L buffer)))
    (held_by_none index h (one_log L) kind (score_of m)))
    (λ kind _ _ _. ap (λ (i : Bytes). record { outcome = write (date_of date) kind (tag_of m) (data_of m) L buffer; index = i }) (none_after index h (date_of date) kind (data_of m) L))
    s
