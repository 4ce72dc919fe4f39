-- Which requests go by what is known, and that the others are answered as without it.
use mathlib.Core.Path.{◌≡◌, refl, sym, ap, ap₂, ◌∙◌}
use mathlib.Core.Bool.{Bool, true, false, cond, false≢true}
use mathlib.Core.List.{[], ◌∷◌}
use mathlib.Core.Option.{some}
use Prim.Native.Nat.{ℕ, ◌≤◌, ◌<◌}
use lib.Dec.{ltb}
use lib.ListN.{length}
use types.Run.{OneOf, miss}
use denote.Enum.Declared.{tag_of as variant}
use borrow.Author.Tests.{lt-ltb, le-ltb, ltb-false}
use Rattle.buffer.specs.Bytes.{Bytes}
use Rattle.sector.specs.Sector.{is_date}
use Rattle.sector_log.specs.LookUp.{lent_allowed}
use Rattle.sector_log.specs.Parts.{beside}
use Rattle.known.specs.declared.Known.{Known}
use Rattle.message.specs.Message.{framed, tag_of, score_of, data_of, request_of}
use Rattle.message.specs.declared.Request.{Request}
use Rattle.message.specs.contracts.Request.{the_type}
use Rattle.message.specs.declared.Request.TheVariants.{Ping, Hello, Goodbye, Read, Write, Sync, Unknown, Ill}
use Rattle.request.specs.Step.{reply_room}
use Rattle.request.specs.declared.Session.{Session}
use Rattle.request.specs.declared.Session.TheVariants.{Fresh, Greeted, Closed as Shut}
use Rattle.indexed.specs.Indexed.{greeted_by, in_session_by, step_by}
use Rattle.known_request.specs.Quick.{Quick, knowing, read_known, write_known, sync_known, renewed, greeted_known, in_session_known, step_known}
use Rattle.quick.specs.Admitted.{is_greeted, admitted}

-- the tests that passed
pub record Passed (s : Session) (m date : Bytes) (log w room : ℕ) : Type 0 where
  pub is_framed : framed m ≡ true
  pub roomy : ltb room reply_room ≡ false
  pub lent : lent_allowed log w ≡ true
  pub greeted : s ≡ Greeted
  pub dated : is_date date ≡ true

pub passed : (s : Session) (m date : Bytes) (log w room : ℕ) → admitted s m date log w room ≡ true → Passed s m date log w room
unfolding admitted
passed s m date log w room e = go (framed m) refl (ltb room reply_room) refl (lent_allowed log w) refl s refl e
  where
    go : (a : Bool) → framed m ≡ a → (b : Bool) → ltb room reply_room ≡ b → (c : Bool) → lent_allowed log w ≡ c → (t : Session) → s ≡ t
        → cond a (cond b false (cond c (cond (is_greeted t) (is_date date) false) false)) false ≡ true → Passed s m date log w room
    go false p b q c r t u h = absurd (false≢true h)
    go true p true q c r t u h = absurd (false≢true h)
    go true p false q false r t u h = absurd (false≢true h)
    go true p false q true r Fresh u h = absurd (false≢true h)
    go true p false q true r Shut u h = absurd (false≢true h)
    go true p false q true r Greeted u h = record { is_framed = p; roomy = q; lent = r; greeted = u; dated = h }

pub roomy_enough : (s : Session) (m date : Bytes) (log w room : ℕ) → Passed s m date log w room → reply_room ≤ room
roomy_enough s m date log w room p = ltb-false room reply_room p.roomy

module _ (k : Known) (s : Session) (m date index log w buffer : Bytes) where
  -- what did not pass is handed on
  pub not-admitted : admitted s m date (length log) (length w) (length buffer) ≡ false
      → knowing k (step_by s m (some date) index (beside log w) buffer) ≡ step_known k s m date index log w buffer
  unfolding admitted step_by step_known in_session_by in_session_known
  not-admitted e = go (framed m) refl (ltb (length buffer) reply_room) refl (lent_allowed (length log) (length w)) refl s refl (is_date date) refl e
    where
      go : (a : Bool) → framed m ≡ a → (b : Bool) → ltb (length buffer) reply_room ≡ b → (c : Bool) → lent_allowed (length log) (length w) ≡ c → (t : Session) → s ≡ t
          → (d : Bool) → is_date date ≡ d → cond a (cond b false (cond c (cond (is_greeted t) d false) false)) false ≡ false
          → knowing k (step_by s m (some date) index (beside log w) buffer) ≡ step_known k s m date index log w buffer
      go false p b q c r t u d v h = rw p
      go true p true q c r t u d v h = rw (p, q)
      go true p false q false r t u d v h = rw (p, q, r)
      go true p false q true r Fresh u d v h = rw (p, q, r, u)
      go true p false q true r Shut u d v h = rw (p, q, r, u)
      go true p false q true r Greeted u false v h = rw (p, q, r, u, v)
      go true p false q true r Greeted u true v h = absurd (false≢true (sym h))

  module _ (p : Passed s m date (length log) (length w) (length buffer)) where
    -- what passed is answered by what it asks
    pub admitted_as : (q : Request) (x : Quick) → request_of m ≡ q → x ≡ greeted_known k date q (tag_of m) m index log w buffer → x ≡ step_known k s m date index log w buffer
    unfolding step_known in_session_known
    admitted_as q x e h = rw (p.is_framed, p.roomy, p.lent, p.greeted, p.dated, e) h

    -- requests that do not look into the log are handed on too
    others : (q : Request) → OneOf (0 ∷ 1 ∷ 2 ∷ 6 ∷ 7 ∷ []) (variant the_type q)
        → knowing k (greeted_by date q (tag_of m) m index (beside log w) buffer) ≡ greeted_known k date q (tag_of m) m index log w buffer
    unfolding greeted_known
    others Ping o = refl
    others Hello o = refl
    others Goodbye o = refl
    others (Read kind count) o = absurd (miss (0 ∷ 1 ∷ 2 ∷ 6 ∷ 7 ∷ []) 3 tt o)
    others (Write kind) o = absurd (miss (0 ∷ 1 ∷ 2 ∷ 6 ∷ 7 ∷ []) 4 tt o)
    others Sync o = absurd (miss (0 ∷ 1 ∷ 2 ∷ 6 ∷ 7 ∷ []) 5 tt o)
    others Unknown o = refl
    others Ill o = refl

    pub others-handed-on : (q : Request) → request_of m ≡ q → OneOf (0 ∷ 1 ∷ 2 ∷ 6 ∷ 7 ∷ []) (variant the_type q)
        → knowing k (step_by s m (some date) index (beside log w) buffer) ≡ step_known k s m date index log w buffer
    unfolding step_by in_session_by
    others-handed-on q e o = admitted_as q _ e (rw (p.is_framed, p.roomy, p.lent, p.greeted, p.dated, e) (others q o))

    -- a read, a write and a sync, by what is known or learned; q is what was parsed
    module _ (q : Request) (c : Known) (x : Quick) (e : q ≡ request_of m) (f : c ≡ renewed k log w index) where
      pub read-admitted : (kind count : ℕ) → q ≡ Read kind count → x ≡ read_known c kind count (tag_of m) (score_of m) index log w buffer
          → x ≡ step_known k s m date index log w buffer
      unfolding greeted_known
      read-admitted kind count g h =
          admitted_as (Read kind count) x (sym e ∙ g) (h ∙ ap (λ (y : Known). read_known y kind count (tag_of m) (score_of m) index log w buffer) f)

      pub write-admitted : (kind : ℕ) → q ≡ Write kind → x ≡ write_known c date kind (tag_of m) (data_of m) index log w buffer → x ≡ step_known k s m date index log w buffer
      unfolding greeted_known
      write-admitted kind g h =
          admitted_as (Write kind) x (sym e ∙ g) (h ∙ ap (λ (y : Known). write_known y date kind (tag_of m) (data_of m) index log w buffer) f)

      pub sync-admitted : (tag : ℕ) → tag ≡ tag_of m → q ≡ Sync → x ≡ sync_known c tag index log w buffer → x ≡ step_known k s m date index log w buffer
      unfolding greeted_known
      sync-admitted tag t g h =
          admitted_as Sync x (sym e ∙ g) (h ∙ ap₂ (λ (y : Known) (z : ℕ). sync_known y z index log w buffer) f t)

-- ---- the tests, in their order

module _ (s : Session) (m date : Bytes) (log w room : ℕ) (a : Bool) (e : a ≡ framed m) where
  pub test-frame : a ≡ false → false ≡ admitted s m date log w room
  unfolding admitted
  test-frame q = rw (sym e ∙ q)

  module _ (q : a ≡ true) where
    pub test-buffer : room < reply_room → false ≡ admitted s m date log w room
    unfolding admitted
    test-buffer h = rw (sym e ∙ q, lt-ltb room reply_room h)

    module _ (h : reply_room ≤ room) (b : Bool) (f : b ≡ lent_allowed log w) where
      pub test-log : b ≡ false → false ≡ admitted s m date log w room
      unfolding admitted
      test-log p = rw (sym e ∙ q, le-ltb room reply_room h, sym f ∙ p)

      module _ (p : b ≡ true) (c : Bool) (g : c ≡ is_greeted s) where
        pub test-session : c ≡ false → false ≡ admitted s m date log w room
        unfolding admitted
        test-session u = rw (sym e ∙ q, le-ltb room reply_room h, sym f ∙ p, sym g ∙ u)

        pub test-date : c ≡ true → (d : Bool) → d ≡ is_date date → d ≡ admitted s m date log w room
        unfolding admitted
        test-date u d v = rw (sym e ∙ q, le-ltb room reply_room h, sym f ∙ p, sym g ∙ u) v
