-- A request by what was learned is the request with an index, and what is known then is what would be learned then.
use mathlib.Core.Path.{◌≡◌, refl, sym, ap, ap₂, subst}
use mathlib.Core.Bool.{Bool, true, false, cond, not}
use mathlib.Core.Option.{Option, some}
use Prim.Native.Nat.{ℕ}
use lib.Dec.{ltb}
use lib.ListN.{length}
use borrow.Author.Tests.{not-false}
use Rattle.bedrock.specs.Choice.{on}
use Rattle.bedrock.proofs.Choices.{cond_ind, on_ind}
use Rattle.buffer.specs.Bytes.{Bytes, same}
use Rattle.buffer.proofs.Bytes.{small-drop}
use Rattle.refusal.specs.declared.Refusal.{Refusal}
use Rattle.refusal.specs.declared.Refusal.TheVariants.{OverCount}
use Rattle.message.specs.Message.{framed, tag_of, version_of, score_of, data_of, request_of}
use Rattle.message.specs.Reply.{read_reply}
use Rattle.message.specs.declared.Request.{Request}
use Rattle.message.specs.declared.Request.TheVariants.{Ping, Hello, Goodbye, Read, Write, Sync, Unknown, Ill}
use Rattle.kind.specs.Kind.{lawful}
use Rattle.sector.specs.Sector.{is_date}
use Rattle.block.specs.Block.{Row}
use Rattle.sector_log.specs.Parts.{Lent, tape, beside, can_settle, settled}
use Rattle.hint.specs.Hint.{held_by}
use Rattle.known.specs.declared.Known.{Known}
use Rattle.known.specs.Known.{learned, held_known, can_settle_known, settled_known}
use Rattle.known.proofs.Belongs.{learned-belongs}
use Rattle.known.proofs.Doubts.{missing-is-absence}
use Rattle.known.proofs.Learned.{learned_finds, learned-settles, known-after-sync}
use Rattle.request.specs.Step.{Outcome, refused, granted, version, reply_room, allowed, read_of, sync, fresh, greeted, in_session}
use Rattle.request.specs.declared.Session.{Session}
use Rattle.request.specs.declared.Session.TheVariants.{Fresh, Greeted, Closed as Shut}
use Rattle.indexed.specs.Indexed.{keeping, read_by, greeted_by, in_session_by, step_by}
use Rattle.known_request.specs.Quick.{knowing, read_found, read_known, sync_known, greeted_known, in_session_known, step_known}
use Rattle.known_request.specs.Promises.{learned_of, QuickIsServe}
use Rattle.known_request.proofs.Writes.{Right, write_right}

module _ (date index log w buffer : Bytes) where
  abbrev L : Lent
  L = beside log w

  abbrev K : Known
  K = learned log w index

  -- an outcome that leaves all as it was
  same_right : (m : Bytes) (o : Outcome) → o.lent ≡ L → Right m (knowing K (keeping index o)) (keeping index o)
  same_right m o e = (refl, λ _. ap (λ (l : Lent). learned_of l index) (sym e))

  -- ---- a read

  reads-lent : (found : Option Row) (count tag : ℕ) → (read_of found count tag L buffer).lent ≡ L
  reads-lent found count tag =
      on_ind (λ (o : Outcome). o.lent ≡ L) found _ _ (λ _. refl)
      (λ r _. cond_ind (λ (o : Outcome). o.lent ≡ L) (ltb count (length r.bytes)) _ _ (λ _. refl) (λ _. refl))

  read_same : (kind count tag : ℕ) (score : Bytes) → read_found K.doubt (held_known K log w index kind score) count tag L buffer
      ≡ read_of (held_by (tape log w) index kind score) count tag L buffer
  unfolding learned
  read_same kind count tag score =
      ap₂ (λ (x : Refusal) (found : Option Row). on found (refused x tag Greeted L buffer)
      (λ (r : Row). cond (ltb count (length r.bytes)) (refused OverCount tag Greeted L buffer) (granted (read_reply tag r.bytes) Greeted L buffer)))
      (missing-is-absence (tape log w)) (learned_finds log w index kind score).0

  read_right : (m : Bytes) (kind count tag : ℕ) (score : Bytes) → Right m (read_known K kind count tag score index log w buffer) (read_by kind count tag score index L buffer)
  unfolding read_known read_by
  read_right m kind count tag score = rw (read_same kind count tag score) (same_right m _
      (cond_ind (λ (o : Outcome). o.lent ≡ L) (not (lawful kind)) _ _ (λ _. refl) (λ _. reads-lent (held_by (tape log w) index kind score) count tag)))

  -- ---- a sync

  sync_right : (m : Bytes) (tag : ℕ) → Right m (sync_known K tag index log w buffer) (keeping index (sync tag L buffer))
  unfolding sync_known sync settled
  sync_right m tag = go (can_settle L) refl
    where
      s : (can_settle_known K (length log) ≡ can_settle L) × (settled_known K log w ≡ settled L)
      s = learned-settles log w index

      go : (b : Bool) → can_settle L ≡ b → Right m (sync_known K tag index log w buffer) (keeping index (sync tag L buffer))
      go true q = rw (s.0, s.1, q) (refl, λ _. sym (known-after-sync log w index q))
      go false q = rw (s.0, q) (refl, λ _. refl)

  -- ---- every request

  fresh-lent : (q : Request) (tag : ℕ) (m : Bytes) → (fresh q tag m L buffer).lent ≡ L
  unfolding fresh
  fresh-lent Unknown tag m = refl
  fresh-lent Ill tag m = refl
  fresh-lent Goodbye tag m = refl
  fresh-lent Hello tag m = cond_ind (λ (o : Outcome). o.lent ≡ L) (same (version_of m) version) _ _ (λ _. refl) (λ _. refl)
  fresh-lent Ping tag m = refl
  fresh-lent Sync tag m = refl
  fresh-lent (Read kind count) tag m = refl
  fresh-lent (Write kind) tag m = refl

  module _ (m : Bytes) (ok : allowed L ≡ true) where
    greeted_right : is_date date ≡ true → (q : Request) (tag : ℕ) → Right m (greeted_known K date q tag m index log w buffer) (greeted_by date q tag m index L buffer)
    unfolding greeted_known greeted_by greeted
    greeted_right d (Read kind count) tag = rw (learned-belongs log w index) (read_right m kind count tag (score_of m))
    greeted_right d (Write kind) tag =
        let r = write_right date index log w buffer kind tag (data_of m) d ok in
        rw (learned-belongs log w index) (r.0, λ sm. r.1 (small-drop 8 m sm))
    greeted_right d Sync tag = rw (learned-belongs log w index) (sync_right m tag)
    greeted_right d Unknown tag = (refl, λ _. refl)
    greeted_right d Ill tag = (refl, λ _. refl)
    greeted_right d Goodbye tag = (refl, λ _. refl)
    greeted_right d Hello tag = (refl, λ _. refl)
    greeted_right d Ping tag = (refl, λ _. refl)

    session_right : (s : Session) → Right m (in_session_known K s m date index log w buffer) (in_session_by s m (some date) index L buffer)
    unfolding in_session_known in_session_by in_session
    session_right Shut = (refl, λ _. refl)
    session_right Fresh = same_right m _ (cond_ind (λ (o : Outcome). o.lent ≡ L) (is_date date) _ _ (λ _. fresh-lent (request_of m) (tag_of m) m) (λ _. refl))
    session_right Greeted = go (is_date date) refl
      where
        go : (b : Bool) → is_date date ≡ b → Right m (in_session_known K Greeted m date index log w buffer) (in_session_by Greeted m (some date) index L buffer)
        go true q = rw q (greeted_right q (request_of m) (tag_of m))
        go false q = rw q (refl, λ _. refl)

  step_right : (s : Session) (m : Bytes) → Right m (step_known K s m date index log w buffer) (step_by s m (some date) index L buffer)
  unfolding step_known step_by
  step_right s m = go (not (framed m)) refl (ltb (length buffer) reply_room) refl (not (allowed L)) refl
    where
      go : (a : Bool) → not (framed m) ≡ a → (b : Bool) → ltb (length buffer) reply_room ≡ b → (c : Bool) → not (allowed L) ≡ c
          → Right m (step_known K s m date index log w buffer) (step_by s m (some date) index L buffer)
      go true p b q c r = rw p (refl, λ _. refl)
      go false p true q c r = rw (p, q) (refl, λ _. refl)
      go false p false q true r = rw (p, q, r) (refl, λ _. refl)
      go false p false q false r = rw (p, q, r) (session_right m (not-false (allowed L) r) s)

pub quick_is-serve : QuickIsServe
quick_is-serve k s m date index log w buffer e =
    subst (λ (x : Known). Right m (step_known x s m date index log w buffer) (step_by s m (some date) index (beside log w) buffer)) (sym e)
    (step_right date index log w buffer s m)
