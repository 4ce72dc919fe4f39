-- Every request leaves the index as it is and is answered as without one, but for the reads and writes of a greeted session. Those others leave what is lent,
-- or settle it, and none is a read that is answered 0.
use mathlib.Core.Path.{◌≡◌, refl}
use mathlib.Core.Logic.{◌⊎◌, ◌≢◌, inl, inr}
use mathlib.Core.Bool.{Bool, true, false, cond, not}
use mathlib.Core.Option.{Option}
use Prim.Native.Nat.{ℕ}
use native.Mathlib.Omega.{arith}
use lib.Dec.{ltb}
use lib.ListN.{length}
use borrow.Author.Tests.{not-false}
use Rattle.bedrock.proofs.Choices.{cond_ind}
use Rattle.buffer.specs.Bytes.{Bytes, same}
use Rattle.refusal.specs.Number.{number_of}
use Rattle.refusal.specs.declared.Refusal.{Refusal}
use Rattle.refusal.specs.declared.Refusal.TheVariants.{Frame, Buffer, LogLength, Date}
use Rattle.message.specs.Message.{framed, tag_of, version_of, score_of, data_of, request_of}
use Rattle.message.specs.declared.Request.{Request}
use Rattle.message.specs.declared.Request.TheVariants.{Ping, Hello, Goodbye, Read, Write, Sync, Unknown, Ill}
use Rattle.sector_log.specs.Parts.{Lent, can_settle, settled}
use Rattle.request.specs.Step.{Outcome, silent, version, reply_room, allowed, date_allowed, date_of, read, write, sync, fresh, greeted, in_session, step}
use Rattle.request.specs.declared.Session.{Session}
use Rattle.request.specs.declared.Session.TheVariants.{Fresh, Greeted, Closed as Shut}
use Rattle.indexed.specs.Indexed.{Indexed, keeping, read_by, write_by, greeted_by, in_session_by, step_by}

-- the outcome of a request that neither reads nor writes
pub record Quiet (m : Bytes) (L : Lent) (o : Outcome) : Type 0 where
  pub left : (o.lent ≡ L) ⊎ ((o.lent ≡ settled L) × (can_settle L ≡ true))
  pub no_read : (kind count : ℕ) → request_of m ≡ Read kind count → o.number ≢ 0

module _ (m : Bytes) (L : Lent) (buffer : Bytes) where
  -- refused, and what is lent stays
  refusal : {o : Outcome} → o.lent ≡ L → o.number ≢ 0 → Quiet m L o
  refusal e n = record { left = inl e; no_read = λ kind count _. n }

  -- answered, and what is lent stays
  answer : {o : Outcome} → ((kind count : ℕ) → request_of m ≢ Read kind count) → o.lent ≡ L → Quiet m L o
  answer n e = record { left = inl e; no_read = λ kind count p. absurd (n kind count p) }

  goodbye : request_of m ≡ Goodbye → (kind count : ℕ) → request_of m ≢ Read kind count
  goodbye q kind count p = let z : ◌≡◌ {A = ℕ} 0 1 = cc in absurd (omega arith)

  hello : request_of m ≡ Hello → (kind count : ℕ) → request_of m ≢ Read kind count
  hello q kind count p = let z : ◌≡◌ {A = ℕ} 0 1 = cc in absurd (omega arith)

  ping : request_of m ≡ Ping → (kind count : ℕ) → request_of m ≢ Read kind count
  ping q kind count p = let z : ◌≡◌ {A = ℕ} 0 1 = cc in absurd (omega arith)

  fresh_quiet : (q : Request) → request_of m ≡ q → Quiet m L (fresh q (tag_of m) m L buffer)
  unfolding fresh
  fresh_quiet Unknown e = refusal refl (λ n. omega arith)
  fresh_quiet Ill e = refusal refl (λ n. omega arith)
  fresh_quiet Goodbye e = answer (goodbye e) refl
  fresh_quiet Hello e = cond_ind (Quiet m L) (same (version_of m) version) _ _ (λ _. answer (hello e) refl) (λ _. refusal refl (λ n. omega arith))
  fresh_quiet Ping e = refusal refl (λ n. omega arith)
  fresh_quiet Sync e = refusal refl (λ n. omega arith)
  fresh_quiet (Read kind count) e = refusal refl (λ n. omega arith)
  fresh_quiet (Write kind) e = refusal refl (λ n. omega arith)

  sync_quiet : request_of m ≡ Sync → Quiet m L (sync (tag_of m) L buffer)
  unfolding sync
  sync_quiet e =
      cond_ind (Quiet m L) (can_settle L) _ _ (λ c. record { left = inr (refl, c); no_read = λ kind count p. let z : ◌≡◌ {A = ℕ} 0 1 = cc in absurd (omega arith) })
      (λ _. refusal refl (λ n. omega arith))

module _ (m : Bytes) (date : Option Bytes) (index : Bytes) (L : Lent) (buffer : Bytes) (P : Session → Indexed → Outcome → Type 0)
    (others : (s : Session) (o : Outcome) → Quiet m L o → P s (keeping index o) o)
    (reads : (kind count : ℕ) → request_of m ≡ Read kind count → P Greeted (read_by kind count (tag_of m) (score_of m) index L buffer) (read kind count (tag_of m) (score_of m) L buffer))
    (writes : (kind : ℕ) → request_of m ≡ Write kind → allowed L ≡ true → date_allowed date ≡ true
    → P Greeted (write_by (date_of date) kind (tag_of m) (data_of m) index L buffer) (write (date_of date) kind (tag_of m) (data_of m) L buffer)) where
  by_test : (s : Session) (b : Bool) (x y : Indexed) (o u : Outcome) → (b ≡ true → P s x o) → (b ≡ false → P s y u) → P s (cond b x y) (cond b o u)
  by_test s true x y o u f g = f refl
  by_test s false x y o u f g = g refl

  silently : (s : Session) (w : Refusal) → number_of w ≢ 0 → P s (keeping index (silent w s L buffer)) (silent w s L buffer)
  silently s w n = others s (silent w s L buffer) (refusal m L buffer refl n)

  greeted_ways : (q : Request) → request_of m ≡ q → allowed L ≡ true → date_allowed date ≡ true
      → P Greeted (greeted_by (date_of date) q (tag_of m) m index L buffer) (greeted (date_of date) q (tag_of m) m L buffer)
  unfolding greeted_by greeted
  greeted_ways Unknown e a w = others Greeted (greeted (date_of date) Unknown (tag_of m) m L buffer) (refusal m L buffer refl (λ n. omega arith))
  greeted_ways Ill e a w = others Greeted (greeted (date_of date) Ill (tag_of m) m L buffer) (refusal m L buffer refl (λ n. omega arith))
  greeted_ways Goodbye e a w = others Greeted (greeted (date_of date) Goodbye (tag_of m) m L buffer) (answer m L buffer (goodbye m L buffer e) refl)
  greeted_ways Hello e a w = others Greeted (greeted (date_of date) Hello (tag_of m) m L buffer) (refusal m L buffer refl (λ n. omega arith))
  greeted_ways Ping e a w = others Greeted (greeted (date_of date) Ping (tag_of m) m L buffer) (answer m L buffer (ping m L buffer e) refl)
  greeted_ways Sync e a w = others Greeted (greeted (date_of date) Sync (tag_of m) m L buffer) (sync_quiet m L buffer e)
  greeted_ways (Read kind count) e a w = reads kind count e
  greeted_ways (Write kind) e a w = writes kind e a w

  session_ways : (s : Session) → allowed L ≡ true → P s (in_session_by s m date index L buffer) (in_session s m date L buffer)
  unfolding in_session_by in_session
  session_ways Shut a = others Shut (in_session Shut m date L buffer) (refusal m L buffer refl (λ n. omega arith))
  session_ways Fresh a = others Fresh (in_session Fresh m date L buffer)
      (cond_ind (Quiet m L) (date_allowed date) _ _ (λ _. fresh_quiet m L buffer (request_of m) refl) (λ _. refusal m L buffer refl (λ n. omega arith)))
  session_ways Greeted a =
      by_test Greeted (date_allowed date) (greeted_by (date_of date) (request_of m) (tag_of m) m index L buffer) (keeping index (silent Date Greeted L buffer))
      (greeted (date_of date) (request_of m) (tag_of m) m L buffer) (silent Date Greeted L buffer)
      (λ w. greeted_ways (request_of m) refl a w) (λ _. silently Greeted Date (λ n. omega arith))

  pub step_ways : (s : Session) → P s (step_by s m date index L buffer) (step s m date L buffer)
  unfolding step_by step
  step_ways s =
      let x : Indexed = in_session_by s m date index L buffer in
      let o : Outcome = in_session s m date L buffer in
      let x₃ : Indexed = cond (not (allowed L)) (keeping index (silent LogLength s L buffer)) x in
      let o₃ : Outcome = cond (not (allowed L)) (silent LogLength s L buffer) o in
      by_test s (not (framed m)) (keeping index (silent Frame s L buffer)) (cond (ltb (length buffer) reply_room) (keeping index (silent Buffer s L buffer)) x₃)
      (silent Frame s L buffer) (cond (ltb (length buffer) reply_room) (silent Buffer s L buffer) o₃) (λ _. silently s Frame (λ n. omega arith)) (λ _.
      by_test s (ltb (length buffer) reply_room) (keeping index (silent Buffer s L buffer)) x₃ (silent Buffer s L buffer) o₃ (λ _. silently s Buffer (λ n. omega arith)) (λ _.
      by_test s (not (allowed L)) (keeping index (silent LogLength s L buffer)) x (silent LogLength s L buffer) o (λ _. silently s LogLength (λ n. omega arith))
      (λ a. session_ways s (not-false (allowed L) a))))
