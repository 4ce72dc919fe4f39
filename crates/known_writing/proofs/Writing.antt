-- A write by what is known, one case for each return of the code.
use mathlib.Core.Path.{◌≡◌, refl, sym, ap, ap₂, ◌∙◌}
use mathlib.Core.Bool.{Bool, true, false}
use mathlib.Core.Option.{Option, none, some}
use Prim.Native.Nat.{ℕ, ◌+◌, ◌≤◌, ◌<◌}
use lib.ListN.{length}
use borrow.Author.Tests.{lt-ltb, le-ltb}
use Rattle.bedrock.specs.Choice.{on}
use Rattle.bedrock.proofs.Choices.{cond_ind}
use Rattle.buffer.specs.Bytes.{Bytes, same}
use Rattle.sha1_digest.specs.Sha1.{sha1_of}
use Rattle.refusal.specs.declared.Refusal.TheVariants.{BlockType, DataLength}
use Rattle.kind.specs.Kind.{lawful, longest}
use Rattle.block.specs.Block.{Row}
use Rattle.sector_log.specs.Parts.{Lent, beside}
use Rattle.sector_log.specs.Store.{AfterStore, after_store, parts_for, compared}
use Rattle.sector_log.specs.Behind.{room_behind}
use Rattle.sector_log.specs.declared.Receipt.{Receipt}
use Rattle.known.specs.declared.Known.{Known}
use Rattle.known.specs.Known.{owner, appended_known, store_known, listed, known_after}
use Rattle.message.specs.Message.{tag_of, data_of}
use Rattle.request.specs.Step.{Outcome, refused, written}
use Rattle.request.specs.declared.Session.TheVariants.{Greeted}
use Rattle.indexed.specs.Indexed.{keeping, entered_by}
use Rattle.known_request.specs.Quick.{Quick, knowing, stored_known, write_known}

-- a store tells the score of the data, whatever it did
score-told : (k : Known) (log w index date : Bytes) (t : ℕ) (d : Bytes) → (store_known k log w index date t d).receipt.score ≡ sha1_of d
unfolding store_known
score-told k log w index date t d = go (owner k log w index t (sha1_of d))
  where
    go : (o : Option Row) → (on o (appended_known k log w date t d) (λ (r : Row). compared (beside log w) r.bytes r.first d)).receipt.score ≡ sha1_of d
    go none = cond_ind (λ (a : AfterStore). a.receipt.score ≡ sha1_of d) (room_behind k.used.0 k.waits.0 (length log) (length w) (parts_for date d)) _ _ (λ _. refl) (λ _. refl)
    go (some r) = cond_ind (λ (a : AfterStore). a.receipt.score ≡ sha1_of d) (same r.bytes d) _ _ (λ _. refl) (λ _. refl)

module _ (k : Known) (date : Bytes) (kind tag : ℕ) (d index log w buffer : Bytes) where
  abbrev L : Lent
  L = beside log w

  -- what the store did is answered, entered, and known
  pub stored-answered : (r : Receipt) (L' : Lent) (o : Outcome) (index' : Bytes) (n : ℕ) (a : Known) → after_store r L' ≡ store_known k log w index date kind d
      → o ≡ written r.stored tag r.score L' buffer → index' ≡ entered_by r.stored r.score kind index → n ≡ parts_for date d
      → a ≡ known_after k r.stored n (listed index' r.score kind (k.used.0 + k.waits.0))
      → knowing a (record { outcome = o; index = index' }) ≡ stored_known k date kind tag d index (store_known k log w index date kind d) buffer
  unfolding stored_known
  stored-answered r L' o index' n a s p q c g =
      let t : r.score ≡ sha1_of d = ap (λ (x : AfterStore). x.receipt.score) s ∙ score-told k log w index date kind d in
      let e : ◌≡◌ {A = Known} a (known_after k r.stored (parts_for date d) (listed (entered_by r.stored r.score kind index) (sha1_of d) kind (k.used.0 + k.waits.0))) =
      g ∙ (λ i. known_after k r.stored (c i) (listed (q i) (t i) kind (k.used.0 + k.waits.0))) in
      (λ i. record { indexed = record { outcome = p i; index = q i }; known = e i }) ∙ ap (λ (x : AfterStore). stored_known k date kind tag d index x buffer) s

  module _ (b : Bool) (e : b ≡ lawful kind) where
    pub write-kind : b ≡ false → (o : Outcome) → o ≡ refused BlockType tag Greeted L buffer → knowing k (keeping index o) ≡ write_known k date kind tag d index log w buffer
    unfolding write_known
    write-kind q o z = rw (sym e ∙ q) (ap (λ (x : Outcome). knowing k (keeping index x)) z)

    pub write-long : b ≡ true → longest < length d → (o : Outcome) → o ≡ refused DataLength tag Greeted L buffer
        → knowing k (keeping index o) ≡ write_known k date kind tag d index log w buffer
    unfolding write_known
    write-long q h o z = rw (sym e ∙ q, lt-ltb longest (length d) h) (ap (λ (x : Outcome). knowing k (keeping index x)) z)

    pub write-stored : b ≡ true → length d ≤ longest → (x : Quick) → x ≡ stored_known k date kind tag d index (store_known k log w index date kind d) buffer
        → x ≡ write_known k date kind tag d index log w buffer
    unfolding write_known
    write-stored q h x z = rw (sym e ∙ q, le-ltb longest (length d) h) z

-- with the tag and the data as they were taken from the message
pub write_as : (k : Known) (date : Bytes) (kind : ℕ) (m index log w buffer : Bytes) (tag : ℕ) (d : Bytes) (x : Quick) → tag ≡ tag_of m → d ≡ data_of m
    → x ≡ write_known k date kind tag d index log w buffer → x ≡ write_known k date kind (tag_of m) (data_of m) index log w buffer
write_as k date kind m index log w buffer tag d x t s h = h ∙ ap₂ (λ (y : ℕ) (z : Bytes). write_known k date kind y z index log w buffer) t s
