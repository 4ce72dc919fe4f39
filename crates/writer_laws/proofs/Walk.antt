-- Every block below the entry that the writer hands back is held.
use mathlib.Core.Path.{◌≡◌, refl, sym, ap, ◌∙◌, subst}
use mathlib.Core.Bool.{Bool, true, false, cond}
use Prim.Native.Nat.{ℕ, zero, suc, ◌+◌, ◌-◌, ◌*◌, ◌/◌, ◌%◌, ◌^◌, ◌≤◌, ◌<◌, min}
use native.Mathlib.Nat.{mul_assoc, mul-zero}
use native.Mathlib.Omega.{arith}
use lib.Dec.{ltb, eqb}
use lib.ListN.{length, take, drop}
use lib.Seq.{length-take-le}
use borrow.Author.Tests.{ltb-true, ltb-false, eq-eqb, ne_eqb}
use Rattle.buffer.specs.Bytes.{Bytes}
use Rattle.buffer.proofs.Bytes.{same_refl}
use Rattle.buffer.proofs.Parts.{part_within}
use Rattle.kind.specs.Kind.{is_pointer, zero_score, longest}
use Rattle.block.specs.Block.{parts_of}
use Rattle.sector_log.specs.LookUp.{held, empty_row}
use Rattle.cut.specs.Cut.{unit_of, cut_length}
use Rattle.cut.proofs.Shortest.{cut_le}
use Rattle.entry.specs.declared.Entry.{Entry}
use Rattle.entry.specs.Entry.{pointers}
use Rattle.entry.proofs.Made.{file_entry}
use Rattle.tree.specs.Tree.{piece}
use Rattle.walk_laws.specs.Found.{Found, leaf, pointers as below}
use Rattle.demands.proofs.Seen.{held-zero}
use Rattle.writer.specs.Blocks.{cut_block, level, leaves, scores_of, scores_at, pointer_blocks, width_of, file_blocks, top_of, top_score}
use Rattle.writer.proofs.Levels.{pointer_type_lem}
use Rattle.writer.proofs.Cutting.{data_lawful}
use Rattle.writer.proofs.Depth.{Lies, least-found}
use Rattle.writer_laws.specs.Held.{HoldsAll}
use Rattle.writer_laws.specs.Walk.{FindsFile, WalkFindsFile, WalkFindsFileLater}
use Rattle.writer_laws.proofs.Scores.{score-of, piece-piece, cut_whole}
use Rattle.writer_laws.proofs.Back.{holds_at, count, length_at, read_at_lem, part_length}
use Rattle.writer_laws.proofs.Written.{holds_both, holds_level}
use Rattle.writer_laws.proofs.ReadBack.{entry-is, score-is, well_formed_lem}
use Rattle.writer_laws.proofs.StillHeld.{Ever, after_call, after-requests}

-- a score of a block that was cut is one of the block's
pub cut_piece : (kind : ℕ) (b : Bytes) (j : ℕ) → j < length (cut_block kind b) / 20 → (piece 20 j (cut_block kind b) ≡ piece 20 j b) × (20 * j + 20 ≤ length b)
unfolding cut_block
cut_piece kind b j h =
    let n = cut_length (unit_of kind) b in
    let l = length-take-le n b (cut_le (unit_of kind) b) in
    (part_within 20 (20 * j) n b (omega (arith, l)), omega (arith, l, cut_le (unit_of kind) b))

-- a score of a piece of whole scores
pub inner : (p i j c all n : ℕ) → all ≡ 20 * c → n ≡ min (20 * p) (all - 20 * p * i) → 20 * j + 20 ≤ n → (j < p) × (p * i + j < c)
inner p i j c all n ea en h = let q : 20 * p * i ≡ 20 * (p * i) = mul_assoc 20 p i in (omega arith, omega arith)

-- a piece of whole scores is whole scores
pub whole-piece : (p i c all n : ℕ) → all ≡ 20 * c → n ≡ min (20 * p) (all - 20 * p * i) → n % 20 ≡ 0
whole-piece p i c all n ea en = let q : 20 * p * i ≡ 20 * (p * i) = mul_assoc 20 p i in omega arith

module _ (log slice : Bytes) (e : Entry) (plain : e.directory ≡ false) (dpos : 0 < e.dsize) (wide : 40 ≤ e.psize) where
  abbrev w : ℕ
  w = width_of e.psize

  abbrev p : ℕ
  p = pointers e

  abbrev bottom : Bytes
  bottom = scores_of (leaves e.dsize slice)

  module _ (depth : ℕ) (few : depth ≤ 7) (H : HoldsAll log (leaves e.dsize slice))
      (U : (k : ℕ) → k < depth → HoldsAll log (level (2 + suc k) w (scores_at w bottom k))) where
    pub found_at : (k : ℕ) → k ≤ depth → (i : ℕ) → i < count log slice e 0 plain dpos wide k → Found log e k (piece 20 i (scores_at w bottom k))
    unfolding scores_at count
    found_at zero h i lt =
        let here = cut_block 13 (piece e.dsize (0 + i) slice) in
        let s = score-of 13 e.dsize slice (parts_of e.dsize (length slice)) 0 i lt in
        let K = holds_at log 13 e.dsize slice (parts_of e.dsize (length slice)) 0 i H lt in
        leaf K.0 plain (ap (held log 13) s ∙ K.1)
    found_at (suc k) h i lt =
        let t = 2 + suc k in
        let S = scores_at w bottom k in
        let b = piece w (0 + i) S in
        let long = length_at log slice e 0 plain dpos wide k in
        let lt-parts : i < parts_of w (length S) = omega (arith, ap (parts_of w) long, lt) in
        let is-t : is_pointer t ≡ true = let q : 3 + k ≡ 2 + suc k = omega arith in sym (ap is_pointer q) ∙ pointer_type_lem k (omega arith) in
        let s = score-of t w S (parts_of w (length S)) 0 i lt-parts in
        let K = holds_at log t w S (parts_of w (length S)) 0 i (U k (omega arith)) lt-parts in
        let whole = whole-piece p (0 + i) (count log slice e 0 plain dpos wide k) (length S) (length b) long (part_length w (0 + i) S) in
        below K.0 (ap (held log t) s ∙ K.1) (ap (λ (x : Bytes). length x % 20) K.2 ∙ cut_whole t b is-t whole)
        (λ j hj. let c = cut_piece t b j (subst (λ (x : Bytes). j < length x / 20) K.2 hj) in
        let n = inner p (0 + i) j (count log slice e 0 plain dpos wide k) (length S) (length b) long (part_length w (0 + i) S) c.1 in
        let is : piece 20 j K.0.bytes ≡ piece 20 (p * (0 + i) + j) S = ap (piece 20 j) K.2 ∙ c.0 ∙ piece-piece p (0 + i) j S n.0 in
        subst (Found log e k) (sym is) (found_at k (omega arith) (p * (0 + i) + j) n.1))

-- ---- the entry

module _ (slice : Bytes) (dsize psize depth : ℕ) (lies : Lies (length slice) dsize psize depth) (short : length slice ≤ longest) (log : Bytes)
    (H : HoldsAll log (file_blocks slice dsize psize depth)) where
  abbrev E : Entry
  E = file_entry psize dsize depth (length slice)

  abbrev least : (depth ≤ 7) × (length slice ≤ dsize * (psize / 20) ^ depth) × ((k : ℕ) → k < depth → dsize * (psize / 20) ^ k < length slice)
  least = least-found (length slice) dsize (psize / 20) depth lies.least

  abbrev top : Bytes
  top = scores_at (width_of psize) (scores_of (leaves dsize slice)) depth

  pub parts : HoldsAll log (leaves dsize slice) × HoldsAll log (pointer_blocks (width_of psize) (scores_of (leaves dsize slice)) depth)
  unfolding file_blocks
  parts = holds_both log (leaves dsize slice) (pointer_blocks (width_of psize) (scores_of (leaves dsize slice)) depth) H

  pub long : length top ≡ 20 * count log slice E 0 refl lies.dsize-from lies.psize-from depth
  long = length_at log slice E 0 refl lies.dsize-from lies.psize-from depth

  -- no block at the top: the slice is empty, and its depth 0
  pub shallow : count log slice E 0 refl lies.dsize-from lies.psize-from depth ≡ 0 → depth ≡ 0
  shallow q = by (ltb 0 (length slice)) refl (ltb 0 depth) refl
    where
      by : (a : Bool) → ltb 0 (length slice) ≡ a → (b : Bool) → ltb 0 depth ≡ b → depth ≡ 0
      by true u b v =
          let r = read_at_lem log slice E 0 refl lies.dsize-from lies.psize-from depth least.0 parts.0
          (holds_level log (width_of psize) (scores_of (leaves dsize slice)) depth parts.1) 0 (ltb-true 0 (length slice) u) depth (omega arith) in
          absurd (omega (arith, r.0, q))
      by false u true v = absurd (omega (arith, least.2 0 (ltb-true 0 depth v), ltb-false 0 (length slice) u))
      by false u false v = omega (arith, ltb-false 0 depth v)

  found-top : Found log E depth (top_score slice dsize psize depth)
  unfolding top_score top_of
  found-top = go (count log slice E 0 refl lies.dsize-from lies.psize-from depth) refl
    where
      none-there : (d : ℕ) → d ≡ 0 → Found log E d zero_score
      none-there d e = subst (λ (x : ℕ). Found log E x zero_score) (sym e) (leaf (empty_row 13) refl (held-zero log 13 zero_score data_lawful (same_refl zero_score)))

      go : (c : ℕ) → count log slice E 0 refl lies.dsize-from lies.psize-from depth ≡ c → Found log E depth (cond (eqb (length top) 0) zero_score (take 20 top))
      go zero q =
          rw (eq-eqb (length top) 0 (omega (arith, long, q))) (none-there depth (shallow q))
      go (suc c) q =
          let f = found_at log slice E refl lies.dsize-from lies.psize-from depth least.0 parts.0
          (holds_level log (width_of psize) (scores_of (leaves dsize slice)) depth parts.1) depth (omega arith) 0 (omega (arith, q)) in
          rw (ne_eqb (length top) 0 (λ z. omega (arith, long, q))) (subst (Found log E depth) (ap (λ (n : ℕ). take 20 (drop n top)) (mul-zero 20)) f)

finds_ever : (slice : Bytes) (dsize psize : ℕ) → Ever slice dsize psize FindsFile
unfolding Ever
finds_ever slice dsize psize log d lies short H =
    let m = least-found (length slice) dsize (psize / 20) d lies.least in
    let is = entry-is slice dsize psize d lies.dsize-from lies.dsize-to lies.psize-from lies.psize-to m.0 short m.1 in
    let sc = score-is slice dsize psize d lies.dsize-from lies.dsize-to lies.psize-from lies.psize-to m.0 short m.1 in
    let wf = well_formed_lem slice dsize psize d lies.dsize-from lies.dsize-to lies.psize-from lies.psize-to m.0 short m.1 in
    rw (is, sc) (refl, wf, found-top slice dsize psize d lies short log H)

pub walk_finds_file : WalkFindsFile
walk_finds_file log w date slice dsize psize entry scores sm done =
    after_call FindsFile log w date slice dsize psize entry scores (finds_ever slice dsize psize) sm done

pub walk_finds_file-later : WalkFindsFileLater
walk_finds_file-later log w date slice dsize psize entry scores sm done =
    after-requests FindsFile log w date slice dsize psize entry scores (finds_ever slice dsize psize) sm done
