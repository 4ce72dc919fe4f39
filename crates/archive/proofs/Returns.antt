-- The cases of a request, one for each return of the code: tests 1 to 4, and 24.
use mathlib.Core.Path.{◌≡◌, sym, ap, ◌∙◌}
use mathlib.Core.Bool.{Bool, true, false}
use mathlib.Core.Option.{Option, some}
use Prim.Native.Nat.{◌≤◌, ◌<◌}
use borrow.Author.Tests.{lt-ltb, le-ltb}
use lib.ListN.{length}
use Rattle.buffer.specs.Bytes.{Bytes}
use Rattle.refusal.specs.declared.Refusal.TheVariants.{Frame, Buffer, LogLength, Closed, Date}
use Rattle.sector.specs.Sector.{is_date}
use Rattle.sector_log.specs.Parts.{Lent}
use Rattle.message.specs.Message.{framed, tag_of, request_of}
use Rattle.request.specs.declared.Session.{Session}
use Rattle.request.specs.declared.Session.TheVariants.{Fresh, Greeted, Closed as Shut}
use Rattle.request.specs.Step.{Outcome, silent, reply_room, allowed, fresh, in_session}
use Rattle.indexed.specs.Indexed.{Indexed, keeping, greeted_by, in_session_by, step_by}

module _ (s : Session) (m : Bytes) (date : Option Bytes) (index : Bytes) (L : Lent) (buffer : Bytes) (b : Bool) (e : b ≡ framed m) where
  pub step-frame : b ≡ false → (o : Outcome) → o ≡ silent Frame s L buffer → keeping index o ≡ step_by s m date index L buffer
  unfolding step_by
  step-frame q o z = rw (sym e ∙ q) (ap (keeping index) z)

  module _ (q : b ≡ true) where
    pub step-buffer : length buffer < reply_room → (o : Outcome) → o ≡ silent Buffer s L buffer → keeping index o ≡ step_by s m date index L buffer
    unfolding step_by
    step-buffer h o z = rw (sym e ∙ q, lt-ltb (length buffer) reply_room h) (ap (keeping index) z)

    module _ (h : reply_room ≤ length buffer) (a : Bool) (g : a ≡ allowed L) where
      pub step-log : a ≡ false → (o : Outcome) → o ≡ silent LogLength s L buffer → keeping index o ≡ step_by s m date index L buffer
      unfolding step_by
      step-log p o z = rw (sym e ∙ q, le-ltb (length buffer) reply_room h, sym g ∙ p) (ap (keeping index) z)

      pub step_in : a ≡ true → (t : Session) (o : Indexed) → s ≡ t → o ≡ in_session_by t m date index L buffer → o ≡ step_by s m date index L buffer
      unfolding step_by
      step_in p t o d z = rw (sym e ∙ q, le-ltb (length buffer) reply_room h, sym g ∙ p) (z ∙ ap (λ (x : Session). in_session_by x m date index L buffer) (sym d))

pub in_closed : (m date index : Bytes) (L : Lent) (buffer : Bytes) (s : Session) (o : Outcome) → o ≡ silent Closed s L buffer → s ≡ Shut
    → keeping index o ≡ in_session_by Shut m (some date) index L buffer
unfolding in_session_by in_session
in_closed m date index L buffer s o z q = ap (keeping index) (z ∙ ap (λ (x : Session). silent Closed x L buffer) q)

-- in a session, by whether the date is one
module _ (m date index : Bytes) (L : Lent) (buffer : Bytes) (b : Bool) (e : b ≡ is_date date) where
  pub fresh-undated : b ≡ false → (s : Session) (o : Outcome) → o ≡ silent Date s L buffer → s ≡ Fresh → keeping index o ≡ in_session_by Fresh m (some date) index L buffer
  unfolding in_session_by in_session
  fresh-undated q s o z d = rw (sym e ∙ q) (ap (keeping index) (z ∙ ap (λ (x : Session). silent Date x L buffer) d))

  pub in_fresh : b ≡ true → (o : Outcome) → o ≡ fresh (request_of m) (tag_of m) m L buffer → keeping index o ≡ in_session_by Fresh m (some date) index L buffer
  unfolding in_session_by in_session
  in_fresh q o z = rw (sym e ∙ q) (ap (keeping index) z)

  pub greeted-undated : b ≡ false → (s : Session) (o : Outcome) → o ≡ silent Date s L buffer → s ≡ Greeted → keeping index o ≡ in_session_by Greeted m (some date) index L buffer
  unfolding in_session_by
  greeted-undated q s o z d = rw (sym e ∙ q) (ap (keeping index) (z ∙ ap (λ (x : Session). silent Date x L buffer) d))

  pub in_greeted : b ≡ true → (o : Indexed) → o ≡ greeted_by date (request_of m) (tag_of m) m index L buffer → o ≡ in_session_by Greeted m (some date) index L buffer
  unfolding in_session_by
  in_greeted q o p = rw (sym e ∙ q) p
