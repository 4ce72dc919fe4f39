-- A sync by what is known, one case for each return of the code.
use mathlib.Core.Path.{◌≡◌, sym, ap, ap₂, ◌∙◌}
use mathlib.Core.Bool.{Bool, true, false, cond}
use Prim.Native.Nat.{ℕ}
use lib.ListN.{length}
use Rattle.buffer.specs.Bytes.{Bytes}
use Rattle.refusal.specs.declared.Refusal.TheVariants.{NoRoom}
use Rattle.sector_log.specs.Parts.{Lent, beside}
use Rattle.known.specs.declared.Known.{Known}
use Rattle.known.specs.Known.{can_settle_known, settled_known, after_sync}
use Rattle.message.specs.Reply.{sync_reply}
use Rattle.request.specs.Step.{Outcome, refused, granted}
use Rattle.request.specs.declared.Session.TheVariants.{Greeted}
use Rattle.indexed.specs.Indexed.{keeping}
use Rattle.known_request.specs.Quick.{knowing, sync_known}

module _ (k : Known) (tag : ℕ) (index log w buffer : Bytes) (L' : Lent) (o : Outcome) (b : Bool) (e : b ≡ can_settle_known k (length log))
    (p : L' ≡ cond (can_settle_known k (length log)) (settled_known k log w) (beside log w)) where
  pub sync-refused : b ≡ false → o ≡ refused NoRoom tag Greeted L' buffer → knowing k (keeping index o) ≡ sync_known k tag index log w buffer
  unfolding sync_known
  sync-refused q h =
      let z : can_settle_known k (length log) ≡ false = sym e ∙ q in
      let y : L' ≡ beside log w = p ∙ ap (λ (x : Bool). cond x (settled_known k log w) (beside log w)) z in
      rw z (ap (λ (x : Outcome). knowing k (keeping index x)) (h ∙ ap (λ (x : Lent). refused NoRoom tag Greeted x buffer) y))

  pub sync-moved : b ≡ true → o ≡ granted (sync_reply tag) Greeted L' buffer → (a : Known) → a ≡ after_sync k → knowing a (keeping index o) ≡ sync_known k tag index log w buffer
  unfolding sync_known
  sync-moved q h a g =
      let z : can_settle_known k (length log) ≡ true = sym e ∙ q in
      let y : L' ≡ settled_known k log w = p ∙ ap (λ (x : Bool). cond x (settled_known k log w) (beside log w)) z in
      rw z (ap₂ (λ (u : Known) (x : Outcome). knowing u (keeping index x)) g (h ∙ ap (λ (x : Lent). granted (sync_reply tag) Greeted x buffer) y))
