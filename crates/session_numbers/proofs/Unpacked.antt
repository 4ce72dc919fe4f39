-- What a caller reads back: each claim of specs/Unpacked.antt.
use mathlib.Core.Path.{refl, ap, ◌∙◌}
use mathlib.Core.Option.{Option}
use mathlib.Core.Bool.{not}
use Prim.Native.Nat.{ℕ, ◌<◌}
use native.Mathlib.Omega.{arith}
use lib.Dec.{ltb}
use lib.ListN.{length}
use Rattle.bedrock.proofs.Choices.{cond_ind, on_ind}
use Rattle.buffer.specs.Bytes.{Bytes, same}
use Rattle.kind.specs.Kind.{lawful, longest}
use Rattle.message.specs.Message.{framed, tag_of, version_of, score_of, data_of, request_of}
use Rattle.message.specs.declared.Request.{Request}
use Rattle.message.specs.declared.Request.TheVariants.{Ping, Hello, Goodbye, Read, Write, Sync, Unknown, Ill}
use Rattle.sector_log.specs.LookUp.{held, absence}
use Rattle.sector_log.specs.Store.{store}
use Rattle.sector_log.specs.declared.Stored.{Stored}
use Rattle.sector_log.specs.declared.Stored.TheVariants as stored
use Rattle.sector_log.specs.Parts.{Lent, one_log, can_settle}
use Rattle.hint.specs.Hint.{held_by}
use Rattle.indexed.specs.Indexed.{read_by, write_by, step_by}
use Rattle.indexed.proofs.Ways.{step_ways}
use Rattle.request.specs.Step as steps
use Rattle.request.specs.Step.{Outcome, step}
use Rattle.request.specs.declared.Session.{Session}
use Rattle.request.specs.declared.Session.TheVariants.{Fresh, Greeted, Closed as Shut}
use Rattle.session_numbers.specs.Serve.{session_of, session_number}
use Rattle.session_numbers.specs.Unpacked as claims
use Rattle.results.proofs.Unpacked.{beside, few}
use Rattle.std.specs.Prelude.{Ok, Err, Result}
use Rattle.refusal.specs.declared.Refusal.{Refusal}

-- ---- a request: every number that the step answers is small

abbrev Few : Outcome → Type 0
Few o = o.number < 256

module _ (m : Bytes) (date : Option Bytes) (L : Lent) (buffer : Bytes) where
  read_few : (t count : ℕ) → Few (steps.read t count (tag_of m) (score_of m) L buffer)
  unfolding steps.read
  read_few t count =
      cond_ind Few (not (lawful t)) _ _ (λ _. omega arith) (λ _.
      on_ind Few (held (one_log L) t (score_of m)) _ _ (λ _. few (absence (one_log L))) (λ r _. cond_ind Few (ltb count (length r.bytes)) _ _ (λ _. omega arith) (λ _. omega arith)))

  written_few : (s : Result Stored Refusal) (tag : ℕ) (score : Bytes) (after : Lent) → Few (steps.written s tag score after buffer)
  written_few (Ok (stored.New at)) tag score after = omega arith
  written_few (Ok (stored.Duplicate at)) tag score after = omega arith
  written_few (Err w) tag score after = few w

  write_few : (t : ℕ) → Few (steps.write (steps.date_of date) t (tag_of m) (data_of m) L buffer)
  unfolding steps.write
  write_few t =
      cond_ind Few (not (lawful t)) _ _ (λ _. omega arith) (λ _.
      cond_ind Few (ltb longest (length (data_of m))) _ _ (λ _. omega arith) (λ _.
      let a = store L (steps.date_of date) t (data_of m) in written_few a.receipt.stored (tag_of m) a.receipt.score a.lent))

  sync_few : Few (steps.sync (tag_of m) L buffer)
  unfolding steps.sync
  sync_few = cond_ind Few (can_settle L) _ _ (λ _. omega arith) (λ _. omega arith)

  fresh_few : (q : Request) → Few (steps.fresh q (tag_of m) m L buffer)
  unfolding steps.fresh
  fresh_few Unknown = omega arith
  fresh_few Ill = omega arith
  fresh_few Goodbye = omega arith
  fresh_few Hello = cond_ind Few (same (version_of m) steps.version) _ _ (λ _. omega arith) (λ _. omega arith)
  fresh_few Ping = omega arith
  fresh_few Sync = omega arith
  fresh_few (Read t c) = omega arith
  fresh_few (Write t) = omega arith

  greeted_few : (q : Request) → Few (steps.greeted (steps.date_of date) q (tag_of m) m L buffer)
  unfolding steps.greeted
  greeted_few Unknown = omega arith
  greeted_few Ill = omega arith
  greeted_few Goodbye = omega arith
  greeted_few Hello = omega arith
  greeted_few Ping = omega arith
  greeted_few Sync = sync_few
  greeted_few (Read t c) = read_few t c
  greeted_few (Write t) = write_few t

  session_few : (s : Session) → Few (steps.in_session s m date L buffer)
  unfolding steps.in_session
  session_few Fresh = cond_ind Few (steps.date_allowed date) _ _ (λ _. fresh_few (request_of m)) (λ _. omega arith)
  session_few Greeted = cond_ind Few (steps.date_allowed date) _ _ (λ _. greeted_few (request_of m)) (λ _. omega arith)
  session_few Shut = omega arith

  step_few : (s : Session) → Few (step s m date L buffer)
  unfolding step
  step_few s =
      cond_ind Few (not (framed m)) _ _ (λ _. omega arith) (λ _.
      cond_ind Few (ltb (length buffer) steps.reply_room) _ _ (λ _. omega arith) (λ _.
      cond_ind Few (not (steps.allowed L)) _ _ (λ _. omega arith) (λ _. session_few s)))

  read_by_few : (index : Bytes) (t count : ℕ) → Few (read_by t count (tag_of m) (score_of m) index L buffer).outcome
  unfolding read_by
  read_by_few index t count =
      cond_ind Few (not (lawful t)) _ _ (λ _. omega arith) (λ _.
      on_ind Few (held_by (one_log L) index t (score_of m)) _ _ (λ _. few (absence (one_log L))) (λ r _. cond_ind Few (ltb count (length r.bytes)) _ _ (λ _. omega arith) (λ _. omega arith)))

  step_by_few : (index : Bytes) (s : Session) → Few (step_by s m date index L buffer).outcome
  unfolding write_by
  step_by_few index s =
      step_ways m date index L buffer (λ _ x o. Few o → Few x.outcome) (λ _ o _ h. h) (λ t count _ _. read_by_few index t count) (λ t _ _ _ h. h) s (step_few s)

pub session_goes_round : claims.SessionGoesRound
unfolding session_of
session_goes_round Fresh = refl
session_goes_round Greeted = refl
session_goes_round Shut = refl

pub request_unpacks : claims.RequestUnpacks
request_unpacks s m date index L buffer =
    let o = (step_by s m date index L buffer).outcome in
    let b = beside o.number (session_number o.session) (step_by_few m date L buffer index s) in
    (b.0, ap session_of b.1 ∙ session_goes_round o.session)
