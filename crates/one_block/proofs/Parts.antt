-- A block that is found in a part of a log stands in the log too; so a read that is answered there finds a block of the same bytes here.
use mathlib.Core.Path.{◌≡◌, refl, sym, ap, ◌∙◌, subst}
use mathlib.Core.Bool.{Bool, true, false, cond, not, ◌&&◌, true≢false}
use mathlib.Core.List.{[]}
use mathlib.Core.Logic.{◌⊎◌, inl, inr}
use mathlib.Core.Option.{Option, none, some}
use Prim.Native.Nat.{ℕ, ◌+◌, ◌-◌, ◌≤◌, ◌<◌}
use native.Mathlib.Omega.{arith}
use lib.Dec.{eqb, ltb}
use lib.ListN.{length}
use Rattle.bedrock.specs.Choice.{on}
use Rattle.bedrock.proofs.Choices.{cond_ind}
use Rattle.buffer.specs.Bytes.{Bytes, same, zeros}
use Rattle.refusal.specs.Number.{number_of}
use Rattle.refusal.specs.declared.Refusal.{Refusal}
use Rattle.kind.specs.Kind.{lawful, zero_score}
use Rattle.sector.specs.Sector.{blank}
use Rattle.block.specs.Block.{Row, parts}
use Rattle.block.specs.Log.{at, sound}
use Rattle.block.proofs.At.{blank-is}
use Rattle.block.proofs.Facts.{parts_pos}
use Rattle.block.proofs.Image.{image-used}
use Rattle.block.proofs.Sound.{sound-reads}
use Rattle.block.proofs.Used.{lt_used, used_le_sectors}
use Rattle.sector_log.specs.LookUp.{blocks, first_of, empty_row, doubtful, absence}
use Rattle.sector_log.specs.Parts.{Lent, beside, one_log}
use Rattle.sector_log.proofs.First.{first-sound}
use Rattle.hint.specs.Hint.{hint, held_by}
use Rattle.hint.specs.Promises.{NoClash}
use Rattle.hint.proofs.Leads.{hint-sound, first_finds}
use Rattle.hint.proofs.There.{sound-there}
use Rattle.message.specs.Message.{framed, tag_of, score_of, request_of}
use Rattle.message.specs.declared.Request.{Request}
use Rattle.message.specs.declared.Request.TheVariants.{Read}
use Rattle.request.specs.Step.{Outcome, reply_room, allowed, read_of, date_allowed, date_of, fresh, in_session}
use Rattle.request.specs.declared.Session.{Session}
use Rattle.request.specs.declared.Session.TheVariants.{Fresh, Greeted, Closed as Shut}
use Rattle.indexed.specs.Indexed.{Indexed, read_by, greeted_by, in_session_by, step_by}
use Rattle.one_block.specs.OneBlock.{AlsoHas, PartOf, PartSuffices}
use Rattle.one_block.proofs.Messages.{step_same, allowed-alone, held-alone}

-- a sound block of this type and score
abbrev Sound : Bytes → ℕ → Bytes → Row → Type 0
Sound log t s r = (sound log r.first ≡ some r) × (r.kind ≡ t) × (r.score ≡ s)

-- what is found of a score that is not the empty block's is sound
found-sound : (log index : Bytes) (t : ℕ) (s : Bytes) (r : Row) → on (hint log index t s) (first_of t s (blocks log)) some ≡ some r → Sound log t s r
found-sound log index t s r e = go (hint log index t s) refl e
  where
    go : (o : Option Row) → hint log index t s ≡ o → on o (first_of t s (blocks log)) some ≡ some r → Sound log t s r
    go none p q = first-sound log t s r q
    go (some x) p q = hint-sound log index t s r (p ∙ q)

-- and one that is sound is found
found_some : (log index : Bytes) (t : ℕ) (s : Bytes) (r : Row) → Sound log t s r → (x : Row) × (on (hint log index t s) (first_of t s (blocks log)) some ≡ some x)
found_some log index t s r q = go (hint log index t s) (first_of t s (blocks log)) refl
  where
    there : first_of t s (blocks log) ≡ none → ⊥
    there z =
        first_finds log r q.0 (ap (λ (k : ℕ). first_of k r.score (blocks log)) q.1 ∙ ap (λ (v : Bytes). first_of t v (blocks log)) q.2 ∙ z)

    go : (h o : Option Row) → first_of t s (blocks log) ≡ o → (x : Row) × (on h o some ≡ some x)
    go (some x) o p = (x, refl)
    go none (some x) p = (x, refl)
    go none none p = absurd (there p)

module _ (log part : Bytes) (Some-of : PartOf part log) where
  -- a sector that is not blank is the log's
  same_at : (k : ℕ) → zeros (at part k) ≡ false → at log k ≡ at part k
  same_at k z = go (Some-of k)
    where
      go : (at part k ≡ at log k) ⊎ (at part k ≡ blank) → at log k ≡ at part k
      go (inl e) = sym e
      go (inr e) = absurd (true≢false (sym (ap zeros e ∙ blank-is) ∙ z))

  also_has : (y : Row) → sound part y.first ≡ some y → AlsoHas log part y.first y
  also_has y q =
      let p = sound-reads part y.first y q in
      let n = y.first in
      let each : (k : ℕ) → k < parts y → at log (n + k) ≡ at part (n + k) = λ k h. same_at (n + k) (ap zeros (p.3 k h) ∙ image-used y k) in
      let pos : 0 < parts y = parts_pos y p.0 in
      let last : parts y - 1 < parts y = omega arith in
      let used-there = lt_used log (n + (parts y - 1)) (ap zeros (each (parts y - 1) last ∙ p.3 (parts y - 1) last) ∙ image-used y (parts y - 1)) in
      (omega (arith, pos, used-there, used_le_sectors log), each)

  part_finds : NoClash log → (index : Bytes) (t : ℕ) (s : Bytes) (y : Row) → held_by part index t s ≡ some y
      → (x : Row) × (held_by log index t s ≡ some x) × (x.bytes ≡ y.bytes)
  unfolding held_by
  part_finds clear index t s y e = go (lawful t && same s zero_score) e
    where
      go : (b : Bool) → cond b (some (empty_row t)) (on (hint part index t s) (first_of t s (blocks part)) some) ≡ some y
          → (x : Row) × (cond b (some (empty_row t)) (on (hint log index t s) (first_of t s (blocks log)) some) ≡ some x) × (x.bytes ≡ y.bytes)
      go true q = (y, q, refl)
      go false q =
          let a = found-sound part index t s y q in
          let here : Sound log t s y = (sound-there log part y.first y (also_has y a.0).0 (also_has y a.0).1 a.0, a.1, a.2) in
          let f = found_some log index t s y here in
          let b = found-sound log index t s f.0 f.1 in
          (f.0, f.1, clear f.0 y b.0 here.0 (b.1 ∙ sym a.1) (b.2 ∙ sym a.2))

-- a read that is answered found a block

refuse : {A : Type 0} (n : ℕ) → 1 ≤ n → n ≡ 0 → A
refuse n h e = absurd (omega arith)

absence-number : (log : Bytes) → 1 ≤ number_of (absence log)
unfolding absence
absence-number log = cond_ind (λ (w : Refusal). 1 ≤ number_of w) (eqb (doubtful log) 0) _ _ (λ _. omega arith) (λ _. omega arith)

module _ (m : Bytes) (date : Option Bytes) (index buffer : Bytes) (t count : ℕ) (e : request_of m ≡ Read t count) (M : Lent) where
  abbrev Finds : Outcome → Type 0
  Finds o = o.number ≡ 0 → (y : Row) × (held_by (one_log M) index t (score_of m) ≡ some y)

  abbrev FindsBy : Indexed → Type 0
  FindsBy x = Finds x.outcome

  read_found_lem : Finds (read_by t count (tag_of m) (score_of m) index M buffer).outcome
  unfolding read_by
  read_found_lem = cond_ind Finds (not (lawful t)) _ _ (λ _. refuse 9 (omega arith)) (λ _. go (held_by (one_log M) index t (score_of m)) refl)
    where
      go : (o : Option Row) → held_by (one_log M) index t (score_of m) ≡ o → Finds (read_of o count (tag_of m) M buffer)
      go none q = refuse (number_of (absence (one_log M))) (absence-number (one_log M))
      go (some y) q = λ _. (y, q)

  session-found : (s : Session) → FindsBy (in_session_by s m date index M buffer)
  unfolding in_session_by in_session fresh greeted_by
  session-found Shut = refuse 4 (omega arith)
  session-found Fresh =
      cond_ind Finds (date_allowed date) _ _ (λ _. subst (λ (q : Request). Finds (fresh q (tag_of m) m M buffer)) (sym e) (refuse 7 (omega arith))) (λ _. refuse 24 (omega arith))
  session-found Greeted =
      cond_ind FindsBy (date_allowed date) _ _ (λ _. subst (λ (q : Request). FindsBy (greeted_by (date_of date) q (tag_of m) m index M buffer)) (sym e) read_found_lem)
      (λ _. refuse 24 (omega arith))

  step-found : (s : Session) → FindsBy (step_by s m date index M buffer)
  unfolding step_by
  step-found s =
      cond_ind FindsBy (not (framed m)) _ _ (λ _. refuse 1 (omega arith)) (λ _.
      cond_ind FindsBy (ltb (length buffer) reply_room) _ _ (λ _. refuse 2 (omega arith)) (λ _.
      cond_ind FindsBy (not (allowed M)) _ _ (λ _. refuse 3 (omega arith)) (λ _. session-found s)))

pub part_suffices : PartSuffices
part_suffices s m date index log part buffer t count e clear Some-of ok zero_number =
    let y = step-found m date index buffer t count e (beside part []) s zero_number in
    let x = part_finds log part Some-of clear index t (score_of m) y.0 (sym (held-alone part index t (score_of m)) ∙ y.1) in
    step_same m date index buffer t count e (beside log []) (beside part []) (allowed-alone log part ok) x.0 y.0
    (held-alone log index t (score_of m) ∙ x.1) y.1 x.2 s
