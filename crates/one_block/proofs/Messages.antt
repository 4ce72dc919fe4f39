-- A read message depends on the log by the bytes of the block that is found in it.
use mathlib.Core.Path.{◌≡◌, refl, sym, ◌∙◌, subst}
use mathlib.Core.Bool.{Bool, true, false, cond, not}
use mathlib.Core.List.{[]}
use mathlib.Core.Option.{Option, some}
use Prim.Native.Nat.{ℕ}
use lib.Dec.{ltb}
use lib.ListN.{length}
use Rattle.buffer.specs.Bytes.{Bytes}
use Rattle.refusal.specs.declared.Refusal.TheVariants.{OverCount}
use Rattle.kind.specs.Kind.{lawful}
use Rattle.block.specs.Block.{Row}
use Rattle.block.specs.Log.{used_of, used}
use Rattle.sector_log.specs.LookUp.{log_allowed}
use Rattle.sector_log.specs.Parts.{Lent, tape, beside, one_log}
use Rattle.sector_log.proofs.Parts.{tape-alone, lent-alone}
use Rattle.hint.specs.Hint.{held_by}
use Rattle.hint.proofs.Alike.{held_by_alike}
use Rattle.message.specs.Message.{framed, tag_of, score_of, request_of}
use Rattle.message.specs.Reply.{read_reply}
use Rattle.message.specs.declared.Request.{Request}
use Rattle.message.specs.declared.Request.TheVariants.{Read}
use Rattle.request.specs.Step.{Outcome, refused, granted, reply_room, allowed, read_of, date_allowed, date_of, fresh, in_session}
use Rattle.request.specs.declared.Session.{Session}
use Rattle.request.specs.declared.Session.TheVariants.{Fresh, Greeted, Closed as Shut}
use Rattle.indexed.specs.Indexed.{Indexed, read_by, greeted_by, in_session_by, step_by}
use Rattle.one_block.specs.OneBlock.{SameAnswer, ReadSuffices}
use Rattle.one_block.proofs.OneBlock.{found_there, held-there, held_also}

-- alike whichever way a test goes
same_by : (b : Bool) (x y u v : Outcome) → SameAnswer x u → SameAnswer y v → SameAnswer (cond b x y) (cond b u v)
same_by true x y u v p q = p
same_by false x y u v p q = q

same_index : (b : Bool) (x y u v : Indexed) → SameAnswer x.outcome u.outcome → SameAnswer y.outcome v.outcome
    → SameAnswer (cond b x y).outcome (cond b u v).outcome
same_index true x y u v p q = p
same_index false x y u v p q = q

-- two logs in which blocks of the same bytes are found
module _ (m : Bytes) (date : Option Bytes) (index buffer : Bytes) (t count : ℕ) (e : request_of m ≡ Read t count) (L M : Lent) (ok : allowed L ≡ allowed M) (x y : Row)
    (f : held_by (one_log L) index t (score_of m) ≡ some x) (g : held_by (one_log M) index t (score_of m) ≡ some y) (h : x.bytes ≡ y.bytes) where
  found-same : SameAnswer (read_of (some x) count (tag_of m) L buffer) (read_of (some y) count (tag_of m) M buffer)
  found-same =
      subst (λ (c : Bytes). SameAnswer (read_of (some x) count (tag_of m) L buffer)
      (cond (ltb count (length c)) (refused OverCount (tag_of m) Greeted M buffer) (granted (read_reply (tag_of m) c) Greeted M buffer))) h
      (same_by (ltb count (length x.bytes)) _ _ _ _ (refl, refl, refl) (refl, refl, refl))

  read_same : SameAnswer (read_by t count (tag_of m) (score_of m) index L buffer).outcome (read_by t count (tag_of m) (score_of m) index M buffer).outcome
  unfolding read_by
  read_same =
      same_by (not (lawful t)) _ _ _ _ (refl, refl, refl)
      (subst (λ (o : Option Row). SameAnswer (read_of o count (tag_of m) L buffer) (read_of (held_by (one_log M) index t (score_of m)) count (tag_of m) M buffer)) (sym f)
      (subst (λ (o : Option Row). SameAnswer (read_of (some x) count (tag_of m) L buffer) (read_of o count (tag_of m) M buffer)) (sym g) found-same))

  session-same : (s : Session) → SameAnswer (in_session_by s m date index L buffer).outcome (in_session_by s m date index M buffer).outcome
  unfolding in_session_by in_session fresh greeted_by
  session-same Shut = (refl, refl, refl)
  session-same Fresh =
      same_by (date_allowed date) _ _ _ _
      (subst (λ (q : Request). SameAnswer (fresh q (tag_of m) m L buffer) (fresh q (tag_of m) m M buffer)) (sym e) (refl, refl, refl))
      (refl, refl, refl)
  session-same Greeted =
      same_index (date_allowed date) _ _ _ _
      (subst (λ (q : Request). SameAnswer (greeted_by (date_of date) q (tag_of m) m index L buffer).outcome (greeted_by (date_of date) q (tag_of m) m index M buffer).outcome) (sym e) read_same)
      (refl, refl, refl)

  pub step_same : (s : Session) → SameAnswer (step_by s m date index L buffer).outcome (step_by s m date index M buffer).outcome
  unfolding step_by
  step_same s =
      same_index (not (framed m)) _ _ _ _ (refl, refl, refl)
      (same_index (ltb (length buffer) reply_room) _ _ _ _ (refl, refl, refl)
      (rw ok (same_index (not (allowed M)) _ _ _ _ (refl, refl, refl) (session-same s))))

-- with nothing waiting

pub allowed-alone : (log other : Bytes) → log_allowed (length log) ≡ log_allowed (length other) → allowed (beside log []) ≡ allowed (beside other [])
allowed-alone log other e = lent-alone (length log) ∙ e ∙ sym (lent-alone (length other))

pub held-alone : (log index : Bytes) (t : ℕ) (s : Bytes) → held_by (tape log []) index t s ≡ held_by log index t s
unfolding used used_of
held-alone log index t s = held_by_alike (tape log []) log (tape-alone log [] refl) index t s

pub read_suffices : ReadSuffices
read_suffices s m date index log other buffer t count n r e led has ok =
    step_same m date index buffer t count e (beside log []) (beside other []) (allowed-alone log other ok) (found_there t (score_of m) r) (found_there t (score_of m) r)
    (held-alone log index t (score_of m) ∙ held_also log other index t (score_of m) n r led has)
    (held-alone other index t (score_of m) ∙ held-there other index t (score_of m) n r led) refl s
