-- The cases of a sync, one for each return of the code.
use mathlib.Core.Path.{◌≡◌, sym, ap, ◌∙◌}
use mathlib.Core.Bool.{Bool, true, false, cond}
use Prim.Native.Nat.{ℕ}
use Rattle.buffer.specs.Bytes.{Bytes}
use Rattle.refusal.specs.declared.Refusal.TheVariants.{NoRoom}
use Rattle.sector_log.specs.Parts.{Lent, can_settle, settled}
use Rattle.message.specs.Reply.{sync_reply}
use Rattle.request.specs.declared.Session.TheVariants.{Greeted}
use Rattle.request.specs.Step.{refused, granted, sync}

module _ (tag : ℕ) (L L' : Lent) (buffer : Bytes) (b : Bool) (e : b ≡ can_settle L) (p : L' ≡ cond (can_settle L) (settled L) L) where
  pub sync-refused : b ≡ false → refused NoRoom tag Greeted L' buffer ≡ sync tag L buffer
  unfolding sync
  sync-refused q =
      let z : can_settle L ≡ false = sym e ∙ q in
      let y : L' ≡ L = p ∙ ap (λ (x : Bool). cond x (settled L) L) z in
      rw z (ap (λ (x : Lent). refused NoRoom tag Greeted x buffer) y)

  pub sync-moved : b ≡ true → granted (sync_reply tag) Greeted L' buffer ≡ sync tag L buffer
  unfolding sync
  sync-moved q =
      let z : can_settle L ≡ true = sym e ∙ q in
      let y : L' ≡ settled L = p ∙ ap (λ (x : Bool). cond x (settled L) L) z in
      rw z (ap (λ (x : Lent). granted (sync_reply tag) Greeted x buffer) y)
