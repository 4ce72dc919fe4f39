-- The cases of a write, one for each return of the code.
use mathlib.Core.Path.{◌≡◌, sym, ap, ap₂, ◌∙◌}
use mathlib.Core.Bool.{Bool, true, false}
use Prim.Native.Nat.{ℕ, ◌≤◌, ◌<◌}
use borrow.Author.Tests.{lt-ltb, le-ltb}
use lib.ListN.{length}
use Rattle.buffer.specs.Bytes.{Bytes}
use Rattle.refusal.specs.declared.Refusal.TheVariants.{BlockType, DataLength}
use Rattle.kind.specs.Kind.{lawful, longest}
use Rattle.sector_log.specs.declared.Receipt.{Receipt}
use Rattle.sector_log.specs.Parts.{Lent}
use Rattle.sector_log.specs.Store.{AfterStore, after_store, store}
use Rattle.message.specs.Message.{tag_of, data_of}
use Rattle.request.specs.declared.Session.TheVariants.{Greeted}
use Rattle.request.specs.Step.{Outcome, refused, written, write}
use Rattle.indexed.specs.Indexed.{Indexed, keeping, entered_by, index_after, write_by}

module _ (date : Bytes) (kind tag : ℕ) (d index : Bytes) (L : Lent) (buffer : Bytes) (b : Bool) (e : b ≡ lawful kind) where
  pub write-kind : b ≡ false → (o : Outcome) → o ≡ refused BlockType tag Greeted L buffer → keeping index o ≡ write_by date kind tag d index L buffer
  unfolding write_by index_after write
  write-kind q o z = rw (sym e ∙ q) (ap (keeping index) z)

  module _ (q : b ≡ true) where
    pub write-long : longest < length d → (o : Outcome) → o ≡ refused DataLength tag Greeted L buffer → keeping index o ≡ write_by date kind tag d index L buffer
    unfolding write_by index_after write
    write-long h o z = rw (sym e ∙ q, lt-ltb longest (length d) h) (ap (keeping index) z)

    pub write-stored : (r : Receipt) (L' : Lent) (o : Outcome) (index' : Bytes) → length d ≤ longest → after_store r L' ≡ store L date kind d
        → o ≡ written r.stored tag r.score L' buffer → index' ≡ entered_by r.stored r.score kind index
        → record { outcome = o; index = index' } ≡ write_by date kind tag d index L buffer
    unfolding write_by index_after write
    write-stored r L' o index' h s p n =
        rw (sym e ∙ q, le-ltb longest (length d) h)
        (let x : o ≡ (let a = store L date kind d in written a.receipt.stored tag a.receipt.score a.lent buffer) =
        p ∙ ap (λ (a : AfterStore). written a.receipt.stored tag a.receipt.score a.lent buffer) s in
        let y : index' ≡ (let a = (store L date kind d).receipt in entered_by a.stored a.score kind index) =
        n ∙ ap (λ (a : AfterStore). entered_by a.receipt.stored a.receipt.score kind index) s in
        λ i. record { outcome = x i; index = y i })

-- ---- by what a message asks and its fields, as they were taken from it

module _ (m index : Bytes) (L : Lent) (buffer : Bytes) (tag : ℕ) (t : tag ≡ tag_of m) where
  pub write_as : (date : Bytes) (kind : ℕ) (d : Bytes) (o : Indexed) → d ≡ data_of m → o ≡ write_by date kind tag d index L buffer
      → o ≡ write_by date kind (tag_of m) (data_of m) index L buffer
  write_as date kind d o s h = h ∙ ap₂ (λ (x : ℕ) (y : Bytes). write_by date kind x y index L buffer) t s
