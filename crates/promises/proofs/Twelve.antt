-- 12 is the answer of a read that found nothing, and of nothing else.
use mathlib.Core.Path.{◌≡◌, refl}
use mathlib.Core.Bool.{not}
use mathlib.Core.Option.{Option, none, some}
use Prim.Native.Nat.{ℕ}
use native.Mathlib.Omega.{arith}
use lib.Dec.{ltb}
use lib.ListN.{length}
use Rattle.bedrock.proofs.Choices.{cond_ind, on_ind}
use Rattle.buffer.specs.Bytes.{Bytes, same}
use Rattle.sha1_digest.specs.Sha1.{sha1_of}
use Rattle.message.specs.Message.{framed, tag_of, version_of, score_of, data_of, request_of}
use Rattle.message.specs.declared.Request.{Request}
use Rattle.message.specs.declared.Request.TheVariants.{Ping, Hello, Goodbye, Read, Write, Sync, Unknown, Ill}
use Rattle.kind.specs.Kind.{lawful, longest}
use Rattle.block.specs.Block.{Row}
use Rattle.sector_log.specs.LookUp as look
use Rattle.sector_log.specs.Parts.{Lent, one_log, room_for, can_settle}
use Rattle.sector_log.specs.Store as stores
use Rattle.request.specs.Step as steps
use Rattle.request.specs.declared.Session.{Session}
use Rattle.request.specs.declared.Session.TheVariants.{Fresh, Greeted, Closed as Shut}
use Rattle.demands.proofs.Seen.{stored_as, kept}

module _ (log : Lent) (m : Bytes) (date : Option Bytes) (buffer : Bytes) where
  -- 12 is the refusal of a block that is not found
  abbrev Told : Session → steps.Outcome → Type 0
  Told s o = o.number ≡ 12 → o ≡ steps.refused (look.absence (one_log log)) (tag_of m) s log buffer

  read_told : (t count : ℕ) → Told Greeted (steps.read t count (tag_of m) (score_of m) log buffer)
  unfolding steps.read
  read_told t count =
      cond_ind (Told Greeted) (not (lawful t)) _ _ (λ _ e. absurd (omega arith)) (λ _.
      on_ind (Told Greeted) (look.held (one_log log) t (score_of m)) _ _ (λ _ e. refl)
      (λ r _. cond_ind (Told Greeted) (ltb count (length r.bytes)) _ _ (λ _ e. absurd (omega arith)) (λ _ e. absurd (omega arith))))

  held-told : (t : ℕ) (d : Bytes) (o : Option Row) → Told Greeted (kept m buffer (stored_as log (steps.date_of date) t d o))
  held-told t d none = cond_ind (λ a. Told Greeted (kept m buffer a)) (room_for log (stores.parts_for (steps.date_of date) d)) _ _ (λ _ e. absurd (omega arith)) (λ _ e. absurd (omega arith))
  held-told t d (some r) = cond_ind (λ a. Told Greeted (kept m buffer a)) (same r.bytes d) _ _ (λ _ e. absurd (omega arith)) (λ _ e. absurd (omega arith))

  write-told : (t : ℕ) → Told Greeted (steps.write (steps.date_of date) t (tag_of m) (data_of m) log buffer)
  unfolding steps.write stores.store
  write-told t =
      cond_ind (Told Greeted) (not (lawful t)) _ _ (λ _ e. absurd (omega arith)) (λ _.
      cond_ind (Told Greeted) (ltb longest (length (data_of m))) _ _ (λ _ e. absurd (omega arith))
      (λ _. held-told t (data_of m) (look.held (one_log log) t (sha1_of (data_of m)))))

  sync-told : Told Greeted (steps.sync (tag_of m) log buffer)
  unfolding steps.sync
  sync-told = cond_ind (Told Greeted) (can_settle log) _ _ (λ _ e. absurd (omega arith)) (λ _ e. absurd (omega arith))

  fresh-told : (q : Request) → Told Fresh (steps.fresh q (tag_of m) m log buffer)
  unfolding steps.fresh
  fresh-told Unknown e = absurd (omega arith)
  fresh-told Ill e = absurd (omega arith)
  fresh-told Goodbye e = absurd (omega arith)
  fresh-told Hello e = cond_ind (Told Fresh) (same (version_of m) steps.version) _ _ (λ _ k. absurd (omega arith)) (λ _ k. absurd (omega arith)) e
  fresh-told Ping e = absurd (omega arith)
  fresh-told Sync e = absurd (omega arith)
  fresh-told (Read t c) e = absurd (omega arith)
  fresh-told (Write t) e = absurd (omega arith)

  greeted-told : (q : Request) → Told Greeted (steps.greeted (steps.date_of date) q (tag_of m) m log buffer)
  unfolding steps.greeted
  greeted-told Unknown e = absurd (omega arith)
  greeted-told Ill e = absurd (omega arith)
  greeted-told Goodbye e = absurd (omega arith)
  greeted-told Hello e = absurd (omega arith)
  greeted-told Ping e = absurd (omega arith)
  greeted-told Sync e = sync-told e
  greeted-told (Read t c) e = read_told t c e
  greeted-told (Write t) e = write-told t e

  session-told : (s : Session) → Told s (steps.in_session s m date log buffer)
  unfolding steps.in_session
  session-told Shut = λ e. absurd (omega arith)
  session-told Fresh = cond_ind (Told Fresh) (steps.date_allowed date) _ _ (λ _. fresh-told (request_of m)) (λ _ e. absurd (omega arith))
  session-told Greeted = cond_ind (Told Greeted) (steps.date_allowed date) _ _ (λ _. greeted-told (request_of m)) (λ _ e. absurd (omega arith))

  pub step-told : (s : Session) → Told s (steps.step s m date log buffer)
  unfolding steps.step
  step-told s =
      cond_ind (Told s) (not (framed m)) _ _ (λ _ e. absurd (omega arith)) (λ _.
      cond_ind (Told s) (ltb (length buffer) steps.reply_room) _ _ (λ _ e. absurd (omega arith)) (λ _.
      cond_ind (Told s) (not (steps.allowed log)) _ _ (λ _ e. absurd (omega arith)) (λ _. session-told s)))
