-- The blocks of a file can be written, and a call that succeeds passed its tests.
use mathlib.Core.Path.{◌≡◌, refl, sym, ap, ◌∙◌}
use mathlib.Core.Bool.{Bool, true, false, cond, not}
use mathlib.Core.List.{List, [], ◌∷◌, ◌++◌}
use mathlib.Core.Option.{Option, none, some}
use Prim.Native.Nat.{ℕ, zero, suc, ◌+◌, ◌*◌, ◌≤◌, ◌<◌}
use native.Mathlib.Omega.{arith}
use lib.Dec.{ltb}
use lib.ListN.{length, drop}
use borrow.Author.Tests.{ltb-true, ltb-false, not-false}
use Rattle.bedrock.specs.Choice.{on}
use Rattle.buffer.specs.Bytes.{Bytes}
use Rattle.buffer.proofs.Bytes.{small-append, small-take, small-drop, small_all}
use Rattle.digits.specs.Number.{small}
use Rattle.sha1_digest.specs.Sha1.{sha1_of}
use Rattle.sha1_digest.proofs.Digest.{digest_bytes}
use Rattle.refusal.specs.declared.Refusal.{Refusal}
use Rattle.refusal.specs.declared.Refusal.TheVariants as why
use Rattle.kind.specs.Kind.{lawful, is_pointer, longest}
use Rattle.kind.proofs.Types.{pointer-lawful}
use Rattle.sector.specs.Sector.{is_date}
use Rattle.sector_log.specs.Parts.{beside}
use Rattle.sector_log.specs.LookUp.{lent_allowed}
use Rattle.cut.specs.Cut.{unit_of, cut_length}
use Rattle.tree.specs.Tree.{piece}
use Rattle.writer.specs.Blocks.{Typed, cut_block, blocks_from, level, leaves, scores_of, scores_at, pointer_blocks, width_of, file_blocks}
use Rattle.writer.specs.Depth.{depth_of}
use Rattle.writer.specs.WriteFile.{WriteOutcome, outcome, wrote, buffers_allowed, write_file}
use Rattle.writer.proofs.Levels.{pointer_type_lem, width_bounds}
use Rattle.writer.proofs.Cutting.{data_lawful}
use Rattle.writer_laws.specs.Held.{AllWritable, HoldsAll}
use Rattle.writer_laws.proofs.Scores.{cut_short}
use Rattle.writer_laws.proofs.Back.{length-take-most}
use Rattle.std.specs.Prelude.{Ok, Err}

-- scores are bytes
pub small-scores : (xs : List Typed) → small (scores_of xs) ≡ true
unfolding scores_of
small-scores [] = refl
small-scores (x ∷ xs) = small-append (sha1_of x.bytes) (scores_of xs) (small_all (sha1_of x.bytes) (digest_bytes x.bytes)) (small-scores xs)

pub writable_level : (kind w : ℕ) (b : Bytes) (k i : ℕ) → lawful kind ≡ true → w ≤ longest → small b ≡ true → AllWritable (blocks_from kind w b k i)
unfolding blocks_from cut_block
writable_level kind w b zero i l h s = tt
writable_level kind w b (suc k) i l h s = (
  (
    l,
    omega (arith, cut_short kind (piece w i b), length-take-most w (drop (w * i) b), h),
    small-take (cut_length (unit_of kind) (piece w i b)) (piece w i b) (small-take w (drop (w * i) b) (small-drop (w * i) b s)),
  ),
  writable_level kind w b k (suc i) l h s,
)

pub writable_both : (xs ys : List Typed) → AllWritable xs → AllWritable ys → AllWritable (xs ++ ys)
writable_both [] ys a b = b
writable_both (x ∷ xs) ys a b = (a.0, writable_both xs ys a.1 b)

pub holds_both : (log : Bytes) (xs ys : List Typed) → HoldsAll log (xs ++ ys) → HoldsAll log xs × HoldsAll log ys
holds_both log [] ys a = (tt, a)
holds_both log (x ∷ xs) ys a = let r = holds_both log xs ys a.1 in ((a.0, r.0), r.1)

-- each level of the pointer blocks
pub holds_level : (log : Bytes) (w : ℕ) (s : Bytes) (d : ℕ) → HoldsAll log (pointer_blocks w s d) → (k : ℕ) → k < d → HoldsAll log (level (2 + suc k) w (scores_at w s k))
unfolding pointer_blocks
holds_level log w s zero H k h = absurd (omega arith)
holds_level log w s (suc d) H k h = go (ltb k d) refl (holds_level log w s d) (holds_both log (pointer_blocks w s d) (level (2 + suc d) w (scores_at w s d)) H)
  where
    go : (t : Bool) → ltb k d ≡ t → (HoldsAll log (pointer_blocks w s d) → (k : ℕ) → k < d → HoldsAll log (level (2 + suc k) w (scores_at w s k)))
        → HoldsAll log (pointer_blocks w s d) × HoldsAll log (level (2 + suc d) w (scores_at w s d)) → HoldsAll log (level (2 + suc k) w (scores_at w s k))
    go true q below both = below both.0 k (ltb-true k d q)
    go false q below both = let m : d ≡ k = omega (arith, ltb-false k d q) in rw (← m) both.1

writable_pointers : (w : ℕ) (s : Bytes) (k : ℕ) → k ≤ 7 → w ≤ longest → small s ≡ true → AllWritable (pointer_blocks w s k) × (small (scores_at w s k) ≡ true)
unfolding pointer_blocks scores_at
writable_pointers w s zero h le sm = (tt, sm)
writable_pointers w s (suc k) h le sm =
    let r = writable_pointers w s k (omega arith) le sm in
    let t : is_pointer (2 + suc k) ≡ true = let q : 3 + k ≡ 2 + suc k = omega arith in sym (ap is_pointer q) ∙ pointer_type_lem k (omega arith) in (
      writable_both (pointer_blocks w s k) (level (2 + suc k) w (scores_at w s k)) r.0
          (writable_level (2 + suc k) w (scores_at w s k) _ 0 (pointer-lawful (2 + suc k) t) le r.1),
      small-scores (level (2 + suc k) w (scores_at w s k)),
    )

pub writable_file : (slice : Bytes) (dsize psize depth : ℕ) → dsize ≤ longest → 40 ≤ psize → psize ≤ longest → depth ≤ 7 → small slice ≡ true
    → AllWritable (file_blocks slice dsize psize depth)
unfolding file_blocks
writable_file slice dsize psize depth a b c d sm =
    writable_both (leaves dsize slice) _ (writable_level 13 dsize slice _ 0 data_lawful a sm)
    (writable_pointers (width_of psize) (scores_of (leaves dsize slice)) depth d (width_bounds psize b c).1 (small-scores (leaves dsize slice))).0

-- a call that succeeds
pub record Passed (log w date slice : Bytes) (dsize psize : ℕ) (entry scores : Bytes) : Type 0 where
  pub lent : lent_allowed (length log) (length w) ≡ true
  pub dated : is_date date ≡ true
  pub short : length slice ≤ longest
  pub depth : ℕ
  pub deep : depth_of (length slice) dsize psize ≡ some depth
  pub written_so : write_file log w date slice dsize psize entry scores ≡ wrote log w date slice dsize psize entry scores depth

module _ (log w date slice : Bytes) (dsize psize : ℕ) (entry scores : Bytes) where
  abbrev refused : Refusal → WriteOutcome
  refused y = outcome (Err y) (beside log w) entry scores

  -- a test that lets through
  past : (b : Bool) (y : Refusal) (x : WriteOutcome) → (cond b (refused y) x).end ≡ Ok tt → (b ≡ false) × (cond b (refused y) x ≡ x) × (x.end ≡ Ok tt)
  past true y x e = let z : ◌≡◌ {A = ℕ} 0 1 = cc in absurd (omega arith)
  past false y x e = (refl, refl, e)

  deep-past : (o : Option ℕ) (f : ℕ → WriteOutcome) → (on o (refused why.Entry) f).end ≡ Ok tt → (d : ℕ) × (o ≡ some d) × (on o (refused why.Entry) f ≡ f d)
  deep-past none f e = let z : ◌≡◌ {A = ℕ} 0 1 = cc in absurd (omega arith)
  deep-past (some d) f e = (d, refl, refl)

  pub passed : (write_file log w date slice dsize psize entry scores).end ≡ Ok tt → Passed log w date slice dsize psize entry scores
  unfolding write_file
  passed e =
      let a = past (not (buffers_allowed (length entry) (length scores))) why.Buffer _ e in
      let b = past (not (lent_allowed (length log) (length w))) why.LogLength _ a.2 in
      let c = past (not (is_date date)) why.Date _ b.2 in
      let d = past (ltb longest (length slice)) why.DataLength _ c.2 in
      let f = deep-past (depth_of (length slice) dsize psize) (wrote log w date slice dsize psize entry scores) d.2 in
      record {
        lent = not-false (lent_allowed (length log) (length w)) b.0;
        dated = not-false (is_date date) c.0;
        short = ltb-false longest (length slice) d.0;
        depth = f.0;
        deep = f.1;
        written_so = a.1 ∙ b.1 ∙ c.1 ∙ d.1 ∙ f.2;
      }
