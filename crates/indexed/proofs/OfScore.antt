-- A read by index, on any log: session and what is lent as by the scan, and bytes of the score that was asked for.
use mathlib.Core.Path.{◌≡◌, refl, sym, ap, ◌∙◌}
use mathlib.Core.Bool.{Bool, true, false, cond, not}
use mathlib.Core.Logic.{◌⊎◌, ◌≢◌, inl, inr}
use mathlib.Core.Option.{Option, none, some}
use Prim.Native.Nat.{ℕ}
use native.Mathlib.Omega.{arith}
use lib.Dec.{ltb, eqb}
use lib.ListN.{length}
use Rattle.buffer.specs.Bytes.{Bytes}
use Rattle.sha1_digest.specs.Sha1.{sha1_of}
use Rattle.refusal.specs.Number.{number_of}
use Rattle.refusal.specs.declared.Refusal.TheVariants.{BlockType, OverCount, NotHeld, NotKnown}
use Rattle.message.specs.Message.{tag_of, score_of, request_of}
use Rattle.message.specs.Reply.{answered, read_reply}
use Rattle.message.specs.declared.Request.TheVariants.{Read}
use Rattle.kind.specs.Kind.{lawful, zero_score}
use Rattle.block.specs.Block.{Row}
use Rattle.block.specs.Log.{sound}
use Rattle.sector_log.specs.LookUp.{empty_row, held, absence, doubtful, first_doubtful}
use Rattle.sector_log.specs.Parts.{Lent, one_log}
use Rattle.sector_log.proofs.Named.{sound-named}
use Rattle.hint.specs.Hint.{held_by}
use Rattle.hint.proofs.Scan.{hint_holds}
use Rattle.request.specs.Step.{Outcome, refused, granted, read_of, read}
use Rattle.request.specs.declared.Session.TheVariants.{Greeted}
use Rattle.indexed.specs.Indexed.{read_by, write_by}
use Rattle.indexed.specs.Promises.{AnyLogByIndex}
use Rattle.indexed.proofs.Ways.{step_ways}

-- what look-up by index finds has the score that was asked for
found-score : (log index : Bytes) (t : ℕ) (s : Bytes) (r : Row) → held_by log index t s ≡ some r → sha1_of r.bytes ≡ s
unfolding zero_score
found-score log index t s r e = go (hint_holds log index t s r e)
  where
    go : ((s ≡ zero_score) × (r ≡ empty_row t)) ⊎ ((sound log r.first ≡ some r) × (r.kind ≡ t) × (r.score ≡ s)) → sha1_of r.bytes ≡ s
    go (inl z) = ap (λ (x : Row). sha1_of x.bytes) z.1 ∙ sym z.0
    go (inr h) = (sound-named log t s r h.0 h.1 h.2).scored

module _ (m : Bytes) (count : ℕ) (L : Lent) (buffer : Bytes) where
  -- the outcome of a read that leaves session and log, and gives bytes of the score where its number is 0
  abbrev Answers : Outcome → Type 0
  Answers o = (o.session ≡ Greeted) × (o.lent ≡ L)
      × (o.number ≡ 0 → (b : Bytes) × (sha1_of b ≡ score_of m) × (o.reply ≡ answered buffer (read_reply (tag_of m) b)))

  absent : number_of (absence (one_log L)) ≢ 0
  unfolding absence
  absent = go (eqb (doubtful (one_log L)) 0)
    where
      go : (b : Bool) → number_of (cond b NotHeld (NotKnown (record { 0 = first_doubtful (one_log L) }))) ≢ 0
      go true e = omega arith
      go false e = omega arith

  read-answers : (f : Option Row) → ((r : Row) → f ≡ some r → sha1_of r.bytes ≡ score_of m) → Answers (read_of f count (tag_of m) L buffer)
  read-answers none h = (refl, refl, λ z. absurd (absent z))
  read-answers (some r) h = go (ltb count (length r.bytes))
    where
      go : (b : Bool) → Answers (cond b (refused OverCount (tag_of m) Greeted L buffer) (granted (read_reply (tag_of m) r.bytes) Greeted L buffer))
      go true = (refl, refl, λ z. absurd (omega arith))
      go false = (refl, refl, λ z. (r.bytes, h r refl, refl))

  typed : (kind : ℕ) (o : Outcome) → Answers o → Answers (cond (not (lawful kind)) (refused BlockType (tag_of m) Greeted L buffer) o)
  typed kind o h = go (not (lawful kind))
    where
      go : (b : Bool) → Answers (cond b (refused BlockType (tag_of m) Greeted L buffer) o)
      go true = (refl, refl, λ z. absurd (omega arith))
      go false = h

  -- of any block that was found: the session and what is lent
  leaves : (f : Option Row) → ((read_of f count (tag_of m) L buffer).session ≡ Greeted) × ((read_of f count (tag_of m) L buffer).lent ≡ L)
  leaves none = (refl, refl)
  leaves (some r) = go (ltb count (length r.bytes))
    where
      go : (b : Bool) → let o = cond b (refused OverCount (tag_of m) Greeted L buffer) (granted (read_reply (tag_of m) r.bytes) Greeted L buffer) in
          (o.session ≡ Greeted) × (o.lent ≡ L)
      go true = (refl, refl)
      go false = (refl, refl)

  pub read-leaves : (kind : ℕ) → ((read kind count (tag_of m) (score_of m) L buffer).session ≡ Greeted) × ((read kind count (tag_of m) (score_of m) L buffer).lent ≡ L)
  unfolding read
  read-leaves kind = go (not (lawful kind)) (read_of (held (one_log L) kind (score_of m)) count (tag_of m) L buffer) (leaves (held (one_log L) kind (score_of m)))
    where
      go : (b : Bool) (o : Outcome) → (o.session ≡ Greeted) × (o.lent ≡ L) → let u = cond b (refused BlockType (tag_of m) Greeted L buffer) o in
          (u.session ≡ Greeted) × (u.lent ≡ L)
      go true o h = (refl, refl)
      go false o h = h

pub any_log_by_index : AnyLogByIndex
unfolding read_by write_by
any_log_by_index s m date index L buffer =
    step_ways m date index L buffer
    (λ _ x o. (x.outcome.session ≡ o.session) × (x.outcome.lent ≡ o.lent)
    × ((kind count : ℕ) → request_of m ≡ Read kind count → x.outcome.number ≡ 0
    → (b : Bytes) × (sha1_of b ≡ score_of m) × (x.outcome.reply ≡ answered buffer (read_reply (tag_of m) b))))
    (λ _ o Q. (refl, refl, λ kind count e z. absurd (Q.no_read kind count e z)))
    (λ kind count _. let f = held_by (one_log L) index kind (score_of m) in
    let h = typed m count L buffer kind (read_of f count (tag_of m) L buffer) (read-answers m count L buffer f (λ r e. found-score (one_log L) index kind (score_of m) r e)) in
    let w = read-leaves m count L buffer kind in
    (h.0 ∙ sym w.0, h.1 ∙ sym w.1, λ _ _ _. h.2))
    (λ kind e _ _. (refl, refl, λ _ _ p. let z : ◌≡◌ {A = ℕ} 0 1 = cc in absurd (omega arith)))
    s
