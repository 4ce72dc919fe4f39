-- A complete index stays complete: what is stored is entered, what is settled keeps its sectors, and nothing else changes.
use mathlib.Core.Path.{◌≡◌, refl, sym, subst, ◌∙◌}
use mathlib.Core.Bool.{Bool, true, false, cond, not}
use mathlib.Core.List.Memᴰ
use mathlib.Core.List.{[], ◌∷◌}
use mathlib.Core.Option.{Option, none, some}
use Prim.Native.Nat.{ℕ, ◌≤◌}
use native.Mathlib.Omega.{arith}
use lib.Dec.{ltb}
use lib.ListN.{length}
use borrow.Author.Tests.{ltb-false, not-false}
use Rattle.bedrock.specs.Choice.{on}
use Rattle.bedrock.proofs.Choices.{cond_ind, on_ind}
use Rattle.digits.specs.Number.{small}
use Rattle.buffer.specs.Bytes.{Bytes, same}
use Rattle.buffer.proofs.Bytes.{small-drop}
use Rattle.sha1_digest.specs.Sha1.{sha1_of}
use Rattle.message.specs.Message.{framed, tag_of, version_of, score_of, data_of, request_of}
use Rattle.message.specs.declared.Request.{Request}
use Rattle.message.specs.declared.Request.TheVariants.{Ping, Hello, Goodbye, Read, Write, Sync, Unknown, Ill}
use Rattle.kind.specs.Kind.{lawful, longest}
use Rattle.block.specs.Block.{Row}
use Rattle.block.specs.Log.{Alike, used}
use Rattle.block.proofs.Alike.{sound-alike}
use Rattle.sector_log.specs.LookUp.{held, empty_row}
use Rattle.sector_log.specs.Parts.{Lent, one_log, room_for, can_settle, settled, append_row}
use Rattle.sector_log.specs.Store.{AfterStore, new_row, parts_for, appended, compared, store}
use Rattle.sector_log.specs.declared.Stored.{Stored}
use Rattle.sector_log.specs.declared.Stored.TheVariants.{New, Duplicate}
use Rattle.sector_log.proofs.Allowed.{row-valid}
use Rattle.refusal.specs.declared.Refusal.TheVariants.{BlockType, DataLength}
use Rattle.hint.specs.Hint.{held_by}
use Rattle.hint.specs.Rebuilt.{entered_row}
use Rattle.hint.specs.Promises.{Complete}
use Rattle.hint.proofs.Alike.{hint-alike}
use Rattle.hint.proofs.Appended.{entered_hits}
use Rattle.request.specs.Step as steps
use Rattle.request.specs.Step.{Outcome}
use Rattle.request.specs.declared.Session.{Session}
use Rattle.request.specs.declared.Session.TheVariants.{Fresh, Greeted, Closed as Shut}
use Rattle.indexed.specs.Indexed.{Indexed, keeping, read_by, entered_by, index_after, write_by, greeted_by, in_session_by, step_by}
use Rattle.ledger.proofs.Trace.{along_keeps}
use Rattle.ledger.proofs.Happens.{begins-blank}
use Rattle.ledger.proofs.Reflects.{sound-row}
use Rattle.ledger.specs.History.{given, blank-log}
use Rattle.ledger.specs.Ledger.{empty}
use Rattle.demands.specs.Instance.{void, archive}
use Rattle.demands.specs.Ledger.{Extent}
use Rattle.demands.proofs.Lawful.{lawful as laws}
use Rattle.demands.proofs.LentLaws.{one-appended, room-one, at-settled, settle-fits}
use Rattle.demands.proofs.TellAdds.{date_or_none, log-allowed-of}
use Rattle.demands.proofs.Seen.{held-zero, empty-score}
use Rattle.every_index.specs.Kept.{HasPlace, KeepsComplete, Kept, keep, NeverFull, KeptIndexHits}
use Rattle.std.specs.Prelude.{Ok, Err, Result}
use Rattle.refusal.specs.declared.Refusal.{Refusal}

-- two logs with the same sectors
complete_alike : (a b index : Bytes) → Alike a b → Complete b index → Complete a index
complete_alike a b index f C r e n = C r (sym (sound-alike a b f r.first) ∙ e) (sym (hint-alike a b f index r.kind r.score) ∙ n)

module _ (m : Bytes) (date : Option Bytes) (index : Bytes) (L : Lent) (buffer : Bytes) (sm : small m ≡ true) (place : HasPlace m date index L)
    (C : Complete (one_log L) index) where
  abbrev After : Indexed → Type 0
  After x = Complete (one_log x.outcome.lent) x.index

  -- ---- a write

  module _ (kind : ℕ) (d : Bytes) (asks : request_of m ≡ Write kind) (of : data_of m ≡ d) (w : steps.date_allowed date ≡ true) (a : steps.allowed L ≡ true)
      (l : lawful kind ≡ true) (le : length d ≤ longest) (sd : small d ≡ true) where
    abbrev day : Bytes
    day = steps.date_of date

    abbrev Left : AfterStore → Type 0
    Left s = Complete (one_log s.lent) (entered_by s.receipt.stored s.receipt.score kind index)

    -- data that is not found: its row is written right after the used part, and entered
    new-left : held (one_log L) kind (sha1_of d) ≡ none → (length d ≡ 0 → ⊥) → Left (appended L day kind d)
    unfolding store
    new-left absent some_bytes = cond_ind Left (room_for L (parts_for day d)) _ _ stored (λ _. C)
      where
        stored : room_for L (parts_for day d) ≡ true → Complete (one_log (append_row L (new_row L day kind d))) (entered_row index (new_row L day kind d))
        stored q =
            let r = new_row L day kind d in
            let room = room-one L.log L.waiting (parts_for day d) q in
            let ok = row-valid day kind d (used (one_log L)) (length L.log) (date_or_none date w) (log-allowed-of L.log L.waiting a) l le (omega (arith, some_bytes)) sd room.1 in
            let free = rw of at (place kind (record { 0 = used (one_log L) }) (asks, rw (of, absent, q) refl)) in
            subst (λ (log : Bytes). Complete log (entered_row index r)) (sym (one-appended L.log L.waiting r refl))
            (entered_hits (one_log L) index r (ok, refl, room.0) free C)

    held-left : (r : Row) → Left (compared L r.bytes r.first d)
    held-left r = cond_ind Left (same r.bytes d) _ _ (λ _. C) (λ _. C)

    store-left : (o : Option Row) → held (one_log L) kind (sha1_of d) ≡ o → (length d ≡ 0 → o ≡ none → ⊥)
        → Left (on o (appended L day kind d) (λ r. compared L r.bytes r.first d))
    store-left none e n = new-left e (λ z. n z refl)
    store-left (some r) e n = held-left r

    -- no bytes are the empty block, which is held
    empty-held : length d ≡ 0 → held (one_log L) kind (sha1_of d) ≡ none → ⊥
    empty-held z absent = no_bytes d z absent
      where
        no_bytes : (x : Bytes) → length x ≡ 0 → held (one_log L) kind (sha1_of x) ≡ none → ⊥
        no_bytes [] z e = let y : some (empty_row kind) ≡ none = sym (held-zero (one_log L) kind (sha1_of []) l empty-score) ∙ e in let q : ◌≡◌ {A = ℕ} 0 1 = cc in absurd (omega arith)
        no_bytes (b ∷ x) z e = absurd (omega arith)

    stored-left : Left (store L day kind d)
    unfolding store
    stored-left = store-left (held (one_log L) kind (sha1_of d)) refl empty-held

  -- what a write answers has the log that the store left
  written-lent : (s : AfterStore) (tag : ℕ) → (steps.written s.receipt.stored tag s.receipt.score s.lent buffer).lent ≡ s.lent
  written-lent s tag = go s.receipt.stored
    where
      go : (x : Result Stored Refusal) → (steps.written x tag s.receipt.score s.lent buffer).lent ≡ s.lent
      go (Ok (New at)) = refl
      go (Ok (Duplicate at)) = refl
      go (Err w) = refl

  write-left : (kind : ℕ) → request_of m ≡ Write kind → steps.date_allowed date ≡ true → steps.allowed L ≡ true
      → After (write_by (steps.date_of date) kind (tag_of m) (data_of m) index L buffer)
  unfolding write_by index_after steps.write
  write-left kind e w a = go (not (lawful kind)) (ltb longest (length (data_of m))) refl refl
    where
      go : (b c : Bool) → not (lawful kind) ≡ b → ltb longest (length (data_of m)) ≡ c
          → Complete (one_log (cond (not (lawful kind)) (steps.refused BlockType (tag_of m) Greeted L buffer) (cond (ltb longest (length (data_of m)))
          (steps.refused DataLength (tag_of m) Greeted L buffer)
          (steps.written (store L (steps.date_of date) kind (data_of m)).receipt.stored (tag_of m) (store L (steps.date_of date) kind (data_of m)).receipt.score
          (store L (steps.date_of date) kind (data_of m)).lent buffer))).lent)
          (cond (not (lawful kind)) index (cond (ltb longest (length (data_of m))) index
          (entered_by (store L (steps.date_of date) kind (data_of m)).receipt.stored (store L (steps.date_of date) kind (data_of m)).receipt.score kind index)))
      go true c p q = rw p C
      go false true p q = rw (p, q) C
      go false false p q = rw (p, q) (subst (λ (x : Lent). Complete (one_log x) (entered_by (store L (steps.date_of date) kind (data_of m)).receipt.stored
          (store L (steps.date_of date) kind (data_of m)).receipt.score kind index)) (sym (written-lent (store L (steps.date_of date) kind (data_of m)) (tag_of m)))
          (stored-left kind (data_of m) e refl w a (not-false (lawful kind) p) (ltb-false longest (length (data_of m)) q) (small-drop 8 m sm)))

  -- ---- the others

  read_left : (kind count : ℕ) → After (read_by kind count (tag_of m) (score_of m) index L buffer)
  unfolding read_by
  read_left kind count =
      cond_ind (λ (o : Outcome). After (keeping index o)) (not (lawful kind)) _ _ (λ _. C) (λ _.
      on_ind (λ (o : Outcome). After (keeping index o)) (held_by (one_log L) index kind (score_of m)) _ _ (λ _. C)
      (λ r _. cond_ind (λ (o : Outcome). After (keeping index o)) (ltb count (length r.bytes)) _ _ (λ _. C) (λ _. C)))

  sync-left : After (keeping index (steps.sync (tag_of m) L buffer))
  unfolding steps.sync
  sync-left =
      cond_ind (λ (o : Outcome). After (keeping index o)) (can_settle L) _ _
      (λ q. complete_alike (one_log (settled L)) (one_log L) index (λ n. at-settled L.log L.waiting n (settle-fits L.log L.waiting q)) C) (λ _. C)

  fresh-left : (q : Request) → After (keeping index (steps.fresh q (tag_of m) m L buffer))
  unfolding steps.fresh
  fresh-left Unknown = C
  fresh-left Ill = C
  fresh-left Goodbye = C
  fresh-left Hello = cond_ind (λ (o : Outcome). After (keeping index o)) (same (version_of m) steps.version) _ _ (λ _. C) (λ _. C)
  fresh-left Ping = C
  fresh-left Sync = C
  fresh-left (Read kind count) = C
  fresh-left (Write kind) = C

  greeted-left : (q : Request) → request_of m ≡ q → steps.date_allowed date ≡ true → steps.allowed L ≡ true
      → After (greeted_by (steps.date_of date) q (tag_of m) m index L buffer)
  unfolding greeted_by steps.greeted
  greeted-left Unknown e w a = C
  greeted-left Ill e w a = C
  greeted-left Goodbye e w a = C
  greeted-left Hello e w a = C
  greeted-left Ping e w a = C
  greeted-left Sync e w a = sync-left
  greeted-left (Read kind count) e w a = read_left kind count
  greeted-left (Write kind) e w a = write-left kind e w a

  session-left : (s : Session) → steps.allowed L ≡ true → After (in_session_by s m date index L buffer)
  unfolding in_session_by steps.in_session
  session-left Shut a = C
  session-left Fresh a = cond_ind (λ (o : Outcome). After (keeping index o)) (steps.date_allowed date) _ _ (λ _. fresh-left (request_of m)) (λ _. C)
  session-left Greeted a = cond_ind After (steps.date_allowed date) _ _ (λ w. greeted-left (request_of m) refl w a) (λ _. C)

  step_left : (s : Session) → After (step_by s m date index L buffer)
  unfolding step_by
  step_left s =
      cond_ind After (not (framed m)) _ _ (λ _. C) (λ _.
      cond_ind After (ltb (length buffer) steps.reply_room) _ _ (λ _. C) (λ _.
      cond_ind After (not (steps.allowed L)) _ _ (λ _. C) (λ a. session-left s (not-false (steps.allowed L) a))))

pub keeps_complete : KeepsComplete
keeps_complete s m date index L buffer sm place C = step_left m date index L buffer sm place C s

-- a blank log has no sound block
blank_complete : (x : Extent) (index : Bytes) → Complete (one_log (void x)) index
blank_complete x index r e = absurd (Memᴰ.not-nil (sound-row archive laws (void x) (empty archive) (begins-blank archive laws x).mirrors r.first r e).0)

pub kept-index_hits : KeptIndexHits
kept-index_hits x index qs ok =
    along_keeps keep (λ (k : Kept). Complete (one_log k.standing.log) k.index) NeverFull
    (λ k q p C. keeps_complete (given archive k.standing.past q) q.request.message q.request.date k.index k.standing.log q.request.buffer p.0 p.1 C)
    (record { standing = blank-log archive x; index = index }) qs ok (blank_complete x index)
