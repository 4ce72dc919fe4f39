-- What the tests of a call decide is what the call does.
use mathlib.Core.Path.{◌≡◌, refl, ap, ◌∙◌}
use mathlib.Core.Bool.{Bool, true, false, cond, not}
use mathlib.Core.Option.{Option, none, some}
use Prim.Native.Nat.{ℕ, ◌≤◌}
use native.Mathlib.Omega.{arith}
use lib.Dec.{leb, ltb, eqb}
use lib.ListN.{length}
use borrow.Author.Tests.{leb-true, eqb-true, ltb-false, not-false}
use Rattle.bedrock.specs.Choice.{on}
use Rattle.bedrock.proofs.Choices.{and-true}
use Rattle.buffer.specs.Bytes.{Bytes}
use Rattle.refusal.specs.declared.Refusal.{Refusal}
use Rattle.refusal.specs.declared.Refusal.TheVariants as why
use Rattle.kind.specs.Kind.{longest}
use Rattle.sector.specs.Sector.{is_date}
use Rattle.sector_log.specs.Parts.{beside}
use Rattle.sector_log.specs.LookUp.{lent_allowed}
use Rattle.writer.specs.Depth.{depth_of}
use Rattle.writer.specs.WriteFile.{WriteOutcome, outcome, wrote, score_room, buffers_allowed, write_file}
use Rattle.writer_events.specs.Happenings.{Call, Verdict, refused_by, passes_at, verdict, called}
use Rattle.std.specs.Prelude.{Err}

-- a call that the tests let through
pub record Passes (m w : ℕ) (c : Call) (depth : ℕ) : Type 0 where
  pub entry : length c.entry ≡ 40
  pub scores : score_room ≤ length c.scores
  pub lent : lent_allowed m w ≡ true
  pub dated : is_date c.date ≡ true
  pub short : length c.slice ≤ longest
  pub deep : depth_of (length c.slice) c.dsize c.psize ≡ some depth

past : (b : Bool) (y : Refusal) (v : Verdict) (d : ℕ) → cond b (refused_by y) v ≡ passes_at d → (b ≡ false) × (v ≡ passes_at d)
past true y v d e = let z : ◌≡◌ {A = ℕ} 0 1 = cc in absurd (omega arith)
past false y v d e = (refl, e)

depth-of : Verdict → ℕ
depth-of (refused_by y) = 0
depth-of (passes_at d) = d

deep-past : (o : Option ℕ) (d : ℕ) → on o (refused_by why.Entry) passes_at ≡ passes_at d → o ≡ some d
unfolding depth-of
deep-past none d e = let z : ◌≡◌ {A = ℕ} 0 1 = cc in absurd (omega arith)
deep-past (some n) d e = ap (λ (v : Verdict). some (depth-of v)) e

pub passes : (m w : ℕ) (c : Call) (d : ℕ) → verdict m w c ≡ passes_at d → Passes m w c d
unfolding verdict buffers_allowed
passes m w c d e =
    let p = past (not (buffers_allowed (length c.entry) (length c.scores))) why.Buffer _ d e in
    let q = past (not (lent_allowed m w)) why.LogLength _ d p.1 in
    let r = past (not (is_date c.date)) why.Date _ d q.1 in
    let s = past (ltb longest (length c.slice)) why.DataLength _ d r.1 in
    let b = and-true (eqb (length c.entry) 40) (leb score_room (length c.scores)) (not-false (buffers_allowed (length c.entry) (length c.scores)) p.0) in
    record {
      entry = eqb-true (length c.entry) 40 b.0;
      scores = leb-true score_room (length c.scores) b.1;
      lent = not-false (lent_allowed m w) q.0;
      dated = not-false (is_date c.date) r.0;
      short = ltb-false longest (length c.slice) s.0;
      deep = deep-past (depth_of (length c.slice) c.dsize c.psize) d s.1;
    }

-- a call that they refuse
module _ (log w : Bytes) (c : Call) where
  abbrev refused : Refusal → WriteOutcome
  refused y = outcome (Err y) (beside log w) c.entry c.scores

  abbrev judged : Verdict → WriteOutcome
  judged (refused_by y) = refused y
  judged (passes_at d) = wrote log w c.date c.slice c.dsize c.psize c.entry c.scores d

  test : (b : Bool) (y : Refusal) (x : WriteOutcome) (v : Verdict) → x ≡ judged v → cond b (refused y) x ≡ judged (cond b (refused_by y) v)
  test true y x v e = refl
  test false y x v e = e

  deep : (o : Option ℕ) → on o (refused why.Entry) (wrote log w c.date c.slice c.dsize c.psize c.entry c.scores) ≡ judged (on o (refused_by why.Entry) passes_at)
  deep none = refl
  deep (some d) = refl

  called-judged : called (beside log w) c ≡ judged (verdict (length log) (length w) c)
  unfolding verdict write_file
  called-judged =
      test (not (buffers_allowed (length c.entry) (length c.scores))) why.Buffer _ _
      (test (not (lent_allowed (length log) (length w))) why.LogLength _ _
      (test (not (is_date c.date)) why.Date _ _
      (test (ltb longest (length c.slice)) why.DataLength _ _
      (deep (depth_of (length c.slice) c.dsize c.psize)))))

  pub refused-call : (y : Refusal) → verdict (length log) (length w) c ≡ refused_by y → called (beside log w) c ≡ outcome (Err y) (beside log w) c.entry c.scores
  refused-call y e = called-judged ∙ ap judged e
