-- Every request, in any log: what is lent stays as it was, and 11 is answered only where nothing is doubtful; or a valid row is written right after the used
-- part of both parts, or all that waited is settled.
use mathlib.Core.Path.{◌≡◌, refl}
use mathlib.Core.Bool.{Bool, true, false, cond, not}
use mathlib.Core.List.{[], ◌∷◌}
use mathlib.Core.Option.{Option, none, some}
use Prim.Native.Nat.{ℕ, ◌≤◌}
use native.Mathlib.Omega.{arith}
use lib.Dec.{ltb, eqb}
use lib.ListN.{length}
use borrow.Author.Tests.{ltb-false, eqb-true, not-false}
use Rattle.bedrock.proofs.Choices.{cond_ind, on_ind}
use Rattle.buffer.specs.Bytes.{Bytes, same}
use Rattle.buffer.proofs.Bytes.{small-drop}
use Rattle.digits.specs.Number.{small}
use Rattle.sha1_digest.specs.Sha1.{sha1_of}
use Rattle.refusal.specs.Number.{number_of}
use Rattle.refusal.specs.declared.Refusal.TheVariants.{NotHeld, NotKnown, Clash}
use Rattle.message.specs.Message.{framed, tag_of, version_of, score_of, data_of, request_of}
use Rattle.message.specs.declared.Request.{Request}
use Rattle.message.specs.declared.Request.TheVariants.{Ping, Hello, Goodbye, Read, Write, Sync, Unknown, Ill}
use Rattle.kind.specs.Kind.{lawful, longest}
use Rattle.block.specs.Block.{Row}
use Rattle.block.specs.Log.{used}
use Rattle.sector_log.specs.LookUp as look
use Rattle.sector_log.specs.Store as stores
use Rattle.sector_log.specs.declared.Stored.{Stored}
use Rattle.sector_log.specs.declared.Stored.TheVariants.{Duplicate}
use Rattle.sector_log.specs.Parts.{Lent, one_log, room_for, can_settle}
use Rattle.sector_log.proofs.Allowed.{row-valid}
use Rattle.request.specs.Step as steps
use Rattle.request.specs.declared.Session.{Session}
use Rattle.request.specs.declared.Session.TheVariants.{Fresh, Greeted, Closed as Shut}
use Rattle.promises.specs.Corollaries.{AtMostOne, alike, adds, settles, AppendsAtMostOne}
use Rattle.demands.proofs.LentLaws.{room-one}
use Rattle.demands.proofs.TellAdds.{row_of, date_or_none, log-allowed-of}
use Rattle.demands.proofs.Seen.{stored_as, kept, held-zero, empty-score}
use Rattle.std.specs.Prelude.{Ok, Err, Result}
use Rattle.refusal.specs.declared.Refusal.{Refusal}

module _ {L : Lent} where
  plain : {o : steps.Outcome} → o.lent ≡ L → (o.number ≡ 11 → ⊥) → AtMostOne L o
  plain e n = alike e (λ f. absurd (n f))

module _ (L : Lent) (m : Bytes) (date : Option Bytes) (buffer : Bytes) where
  absent : AtMostOne L (steps.refused (look.absence (one_log L)) (tag_of m) Greeted L buffer)
  unfolding look.absence
  absent = alike refl (go (eqb (look.doubtful (one_log L)) 0) refl)
    where
      go : (b : Bool) → eqb (look.doubtful (one_log L)) 0 ≡ b → number_of (cond b NotHeld (NotKnown (record { 0 = look.first_doubtful (one_log L) }))) ≡ 11 → look.doubtful (one_log L) ≡ 0
      go true q e = eqb-true (look.doubtful (one_log L)) 0 q
      go false q e = absurd (omega arith)

  read_ways : (t count : ℕ) → AtMostOne L (steps.read t count (tag_of m) (score_of m) L buffer)
  unfolding steps.read
  read_ways t count =
      cond_ind (AtMostOne L) (not (lawful t)) _ _ (λ _. plain refl (λ e. omega arith)) (λ _.
      on_ind (AtMostOne L) (look.held (one_log L) t (score_of m)) _ _ (λ _. absent)
      (λ r _. cond_ind (AtMostOne L) (ltb count (length r.bytes)) _ _ (λ _. plain refl (λ e. omega arith)) (λ _. plain refl (λ e. omega arith))))

  -- data that is not found
  new_ways : (t : ℕ) (d : Bytes) → steps.date_allowed date ≡ true → steps.allowed L ≡ true → lawful t ≡ true → length d ≤ longest → small d ≡ true
      → (length d ≡ 0 → ⊥) → AtMostOne L (kept m buffer (stored_as L (steps.date_of date) t d none))
  new_ways t d w a l le sm n = go (room_for L (stores.parts_for (steps.date_of date) d)) refl
    where
      go : (b : Bool) → room_for L (stores.parts_for (steps.date_of date) d) ≡ b → AtMostOne L (kept m buffer (stored_as L (steps.date_of date) t d none))
      go true q =
          let room = room-one L.log L.waiting (stores.parts_for (steps.date_of date) d) q in
          rw q (adds (row_of (steps.date_of date) t d (used (one_log L))) refl refl
          (row-valid (steps.date_of date) t d (used (one_log L)) (length L.log) (date_or_none date w) (log-allowed-of L.log L.waiting a) l le (omega (arith, n)) sm room.1) refl q)
      go false q = rw q (plain refl (λ e. omega arith))

  held_ways : (t : ℕ) (d : Bytes) (r : Row) → AtMostOne L (kept m buffer (stored_as L (steps.date_of date) t d (some r)))
  held_ways t d r = go (same r.bytes d)
    where
      unchanged : Result Stored Refusal → stores.AfterStore
      unchanged s = stores.after_store (stores.receipt (sha1_of d) s) L

      go : (b : Bool) → AtMostOne L (kept m buffer (cond b (unchanged (Ok (Duplicate (record { 0 = r.first })))) (unchanged (Err Clash))))
      go true = plain refl (λ e. omega arith)
      go false = plain refl (λ e. omega arith)

  store_ways : (t : ℕ) (d : Bytes) → steps.date_allowed date ≡ true → steps.allowed L ≡ true → lawful t ≡ true → length d ≤ longest
      → small d ≡ true → AtMostOne L (kept m buffer (stores.store L (steps.date_of date) t d))
  unfolding stores.store
  store_ways t [] w a l le sm = rw (held-zero (one_log L) t (sha1_of []) l empty-score) (held_ways t [] (look.empty_row t))
  store_ways t (c ∷ x) w a l le sm = go (look.held (one_log L) t (sha1_of (c ∷ x)))
    where
      go : (o : Option Row) → AtMostOne L (kept m buffer (stored_as L (steps.date_of date) t (c ∷ x) o))
      go none = new_ways t (c ∷ x) w a l le sm (λ e. omega arith)
      go (some r) = held_ways t (c ∷ x) r

  write_ways : (t : ℕ) → steps.date_allowed date ≡ true → steps.allowed L ≡ true → small m ≡ true
      → AtMostOne L (steps.write (steps.date_of date) t (tag_of m) (data_of m) L buffer)
  unfolding steps.write
  write_ways t w a sm =
      cond_ind (AtMostOne L) (not (lawful t)) _ _ (λ _. plain refl (λ e. omega arith)) (λ l.
      cond_ind (AtMostOne L) (ltb longest (length (data_of m))) _ _ (λ _. plain refl (λ e. omega arith)) (λ le.
      store_ways t (data_of m) w a (not-false (lawful t) l) (ltb-false longest (length (data_of m)) le) (small-drop 8 m sm)))

  sync_ways : AtMostOne L (steps.sync (tag_of m) L buffer)
  unfolding steps.sync
  sync_ways = cond_ind (AtMostOne L) (can_settle L) _ _ (λ q. settles refl refl q) (λ _. plain refl (λ e. omega arith))

  fresh_ways : (q : Request) → AtMostOne L (steps.fresh q (tag_of m) m L buffer)
  unfolding steps.fresh
  fresh_ways Unknown = plain refl (λ e. omega arith)
  fresh_ways Ill = plain refl (λ e. omega arith)
  fresh_ways Goodbye = plain refl (λ e. omega arith)
  fresh_ways Hello = cond_ind (AtMostOne L) (same (version_of m) steps.version) _ _ (λ _. plain refl (λ e. omega arith)) (λ _. plain refl (λ e. omega arith))
  fresh_ways Ping = plain refl (λ e. omega arith)
  fresh_ways Sync = plain refl (λ e. omega arith)
  fresh_ways (Read t c) = plain refl (λ e. omega arith)
  fresh_ways (Write t) = plain refl (λ e. omega arith)

  greeted_ways : (q : Request) → steps.date_allowed date ≡ true → steps.allowed L ≡ true → small m ≡ true
      → AtMostOne L (steps.greeted (steps.date_of date) q (tag_of m) m L buffer)
  unfolding steps.greeted
  greeted_ways Unknown w a sm = plain refl (λ e. omega arith)
  greeted_ways Ill w a sm = plain refl (λ e. omega arith)
  greeted_ways Goodbye w a sm = plain refl (λ e. omega arith)
  greeted_ways Hello w a sm = plain refl (λ e. omega arith)
  greeted_ways Ping w a sm = plain refl (λ e. omega arith)
  greeted_ways Sync w a sm = sync_ways
  greeted_ways (Read t c) w a sm = read_ways t c
  greeted_ways (Write t) w a sm = write_ways t w a sm

  session_ways : (s : Session) → steps.allowed L ≡ true → small m ≡ true → AtMostOne L (steps.in_session s m date L buffer)
  unfolding steps.in_session
  session_ways Shut a sm = plain refl (λ e. omega arith)
  session_ways Fresh a sm = cond_ind (AtMostOne L) (steps.date_allowed date) _ _ (λ _. fresh_ways (request_of m)) (λ _. plain refl (λ e. omega arith))
  session_ways Greeted a sm = cond_ind (AtMostOne L) (steps.date_allowed date) _ _ (λ w. greeted_ways (request_of m) w a sm) (λ _. plain refl (λ e. omega arith))

  step_ways : (s : Session) → small m ≡ true → AtMostOne L (steps.step s m date L buffer)
  unfolding steps.step
  step_ways s sm =
      cond_ind (AtMostOne L) (not (framed m)) _ _ (λ _. plain refl (λ e. omega arith)) (λ _.
      cond_ind (AtMostOne L) (ltb (length buffer) steps.reply_room) _ _ (λ _. plain refl (λ e. omega arith)) (λ _.
      cond_ind (AtMostOne L) (not (steps.allowed L)) _ _ (λ _. plain refl (λ e. omega arith)) (λ a.
      session_ways s (not-false (steps.allowed L) a) sm)))

pub appends_at-most-one : AppendsAtMostOne
appends_at-most-one s m date L buffer sm = step_ways L m date buffer s sm
