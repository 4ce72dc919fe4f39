-- A walk's visit of a file that was written: each of its blocks once at most, and none refused.
use mathlib.Core.Path.{◌≡◌, refl, sym, ap, ◌∙◌, subst}
use mathlib.Core.Bool.{Bool, true, false, cond}
use mathlib.Core.Option.{some}
use Prim.Native.Nat.{ℕ, zero, suc, ◌+◌, ◌-◌, ◌*◌, ◌/◌, ◌%◌, ◌≤◌, ◌<◌, min, max}
use native.Mathlib.Nat.{mul_assoc, mul-zero}
use native.Mathlib.Omega.{arith}
use lib.Dec.{eqb}
use lib.ListN.{length, take, drop, length-append}
use borrow.Author.Tests.{eq-eqb, ne_eqb}
use Rattle.buffer.specs.Bytes.{Bytes}
use Rattle.buffer.proofs.Bytes.{same_refl}
use Rattle.kind.specs.Kind.{is_pointer, zero_score, longest}
use Rattle.block.specs.Block.{Row, parts_of}
use Rattle.append.proofs.Images.{part_start}
use Rattle.sector_log.specs.LookUp.{held, empty_row}
use Rattle.entry.specs.declared.Entry.{Entry}
use Rattle.entry.specs.Entry.{pointers}
use Rattle.entry.proofs.Made.{file_entry}
use Rattle.tree.specs.Tree.{piece, type_at, count_at}
use Rattle.visit.specs.Visit.{walked, more}
use Rattle.descent.specs.Descent.{nest_of, judged, visit_directory, visit_entry}
use Rattle.walk_laws.proofs.Found.{type_above}
use Rattle.walk_laws.proofs.Enough.{entry_enough}
use Rattle.demands.proofs.Seen.{held-zero}
use Rattle.writer.specs.Blocks.{cut_block, level, leaves, scores_of, scores_at, pointer_blocks, width_of, file_blocks, top_of, top_score}
use Rattle.writer.proofs.Levels.{pointer_type_lem}
use Rattle.writer.proofs.Cutting.{data_lawful}
use Rattle.writer.proofs.Depth.{Lies, least-found}
use Rattle.writer_laws.specs.Held.{HoldsAll}
use Rattle.writer_laws.specs.Walk.{VisitsFile, WalkVisitsFile, WalkVisitsFileLater}
use Rattle.writer_laws.proofs.Scores.{score-of, piece-piece, cut_short, cut_whole}
use Rattle.writer_laws.proofs.Back.{holds_at, count, length_at, part_length, length-take-most}
use Rattle.writer_laws.proofs.Written.{holds_level}
use Rattle.writer_laws.proofs.ReadBack.{entry-is, score-is, well_formed_lem}
use Rattle.writer_laws.proofs.StillHeld.{Ever, after_call, after-requests}
use Rattle.writer_laws.proofs.Walk.{cut_piece, inner, whole-piece, parts, long, shallow}
use Rattle.writer_laws.proofs.Visits.{sum_from, sum_one, sum_mono, sum_above, visit_found, order_sum, blocks-count}
use Rattle.std.specs.Prelude.{Ok}

-- the scores of a piece of whole scores
few_scores : (p i c all n m : ℕ) → all ≡ 20 * c → n ≡ min (20 * p) (all - 20 * p * i) → m ≤ n → 20 * p * i < all → (m / 20 ≤ p) × (p * i + m / 20 ≤ c)
few_scores p i c all n m ea en h lt = let q : 20 * p * i ≡ 20 * (p * i) = mul_assoc 20 p i in (omega arith, omega arith)

module _ (log : Bytes) (e : Entry) (plain : e.directory ≡ false) where
  -- a leaf, and a pointer block with what is below it
  leaf_visited : (f nest left : ℕ) (s : Bytes) (r : Row) → held log 13 s ≡ some r → length r.bytes ≤ e.dsize → nest ≤ 16 → 0 < left
      → visit_entry (suc f) log e 0 nest s left ≡ walked 1 (Ok tt)
  unfolding visit_entry type_at count_at
  leaf_visited f nest left s r h short n l =
      visit_found log nest left (type_at e 0) (count_at e 0) s _ r n l (ap (λ (d : Bool). held log (cond d 2 13) s) plain ∙ h) short
      ∙ ap (λ (d : Bool). more (cond d (visit_directory f log nest r.bytes (left - 1)) (walked 0 (Ok tt)))) plain

  scores_visited : (f k nest left : ℕ) (s : Bytes) (r : Row) (g : ℕ → ℕ) → held log (2 + suc k) s ≡ some r → length r.bytes ≤ e.psize → length r.bytes % 20 ≡ 0
      → nest ≤ 16 → sum_from g (length r.bytes / 20) 0 + 1 ≤ left
      → ((j : ℕ) → j < length r.bytes / 20 → (a : ℕ) → g j ≤ a → visit_entry f log e k nest (piece 20 j r.bytes) a ≡ walked (g j) (Ok tt))
      → visit_entry (suc f) log e (suc k) nest s left ≡ walked (sum_from g (length r.bytes / 20) 0 + 1) (Ok tt)
  unfolding visit_entry count_at
  scores_visited f k nest left s r g h short whole n l each =
      let above : eqb (suc k) 0 ≡ false = ne_eqb (suc k) 0 (λ z. omega arith) in
      let low : suc k - 1 ≡ k = omega arith in
      let most : length r.bytes ≤ count_at e (suc k) = rw above short in
      let m = length r.bytes / 20 in
      let z : 0 + sum_from g m 0 ≡ sum_from g m 0 = omega arith in
      visit_found log nest left (type_at e (suc k)) (count_at e (suc k)) s _ r n (omega arith) (ap (λ (t : ℕ). held log t s) (type_above e k) ∙ h) most
      ∙ ap more (rw (above, eq-eqb (length r.bytes % 20) 0 whole, low)
      (order_sum (λ x a. visit_entry f log e k nest x a) r.bytes g (left - 1) m 0 0 (λ j _ t a q. each j (omega arith) a q) (omega arith)
      ∙ ap (λ (v : ℕ). walked v (Ok tt)) z))

module _ (log slice : Bytes) (e : Entry) (plain : e.directory ≡ false) (dpos : 0 < e.dsize) (wide : 40 ≤ e.psize) where
  abbrev w : ℕ
  w = width_of e.psize

  abbrev p : ℕ
  p = pointers e

  abbrev bottom : Bytes
  bottom = scores_of (leaves e.dsize slice)

  abbrev blocks : ℕ → ℕ
  blocks k = count log slice e 0 plain dpos wide k

  -- how many scores block i of the level above level k has once it is cut
  abbrev below : ℕ → ℕ → ℕ
  below k i = length (cut_block (2 + suc k) (piece w i (scores_at w bottom k))) / 20

  -- the visits of block i of level k, and of all that is below it
  unfoldable pub visits_at : ℕ → ℕ → ℕ
  visits_at zero i = 1
  visits_at (suc k) i = sum_from (λ j. visits_at k (p * i + j)) (below k i) 0 + 1

  within : (k y : ℕ) → y < blocks (suc k) → (below k y ≤ p) × (p * y + below k y ≤ blocks k)
  unfolding count
  within k y h =
      let S = scores_at w bottom k in
      let b = piece w y S in
      let long = length_at log slice e 0 plain dpos wide k in
      let inside : y < parts_of w (length S) = omega (arith, ap (parts_of w) long, h) in
      few_scores p y (blocks k) (length S) (length b) (length (cut_block (2 + suc k) b)) long (part_length w y S) (cut_short (2 + suc k) b)
      (part_start w (length S) y (omega arith) inside)

  ones : (n i : ℕ) → sum_from (visits_at 0) n i ≡ n
  unfolding sum_from visits_at
  ones zero i = refl
  ones (suc n) i = omega (arith, ones n (suc i))

  above_blocks : (k : ℕ) → parts_of w (length (scores_at w bottom k)) ≡ blocks (suc k)
  unfolding count
  above_blocks k = ap (parts_of w) (length_at log slice e 0 plain dpos wide k)

  pub all-visits : (k : ℕ) → sum_from (visits_at k) (blocks k) 0 ≤ blocks 0 + length (pointer_blocks w bottom k)
  unfolding visits_at pointer_blocks
  all-visits zero = omega (arith, ones (blocks 0) 0)
  all-visits (suc k) =
      let up = sum_above (visits_at k) (visits_at (suc k)) (below k) p (blocks k) (blocks (suc k)) (λ y h. let b = within k y h in (refl, b.0, b.1)) in
      let most = sum_mono (visits_at k) (min (p * blocks (suc k)) (blocks k)) (blocks k) 0 (omega arith) in
      let S = scores_at w bottom k in
      let here : length (level (2 + suc k) w S) ≡ parts_of w (length S) = blocks-count (2 + suc k) w S (parts_of w (length S)) 0 in
      let same : parts_of w (length S) ≡ blocks (suc k) = above_blocks k in
      omega (arith, up, most, all-visits k, here, same, length-append (pointer_blocks w bottom k) (level (2 + suc k) w S))

  module _ (depth : ℕ) (few : depth ≤ 7) (H : HoldsAll log (leaves e.dsize slice))
      (U : (k : ℕ) → k < depth → HoldsAll log (level (2 + suc k) w (scores_at w bottom k))) where
    pub visits_are : (k : ℕ) → k ≤ depth → (i : ℕ) → i < blocks k → (f nest left : ℕ) → k < f → nest ≤ 16 → visits_at k i ≤ left
        → visit_entry f log e k nest (piece 20 i (scores_at w bottom k)) left ≡ walked (visits_at k i) (Ok tt)
    unfolding scores_at count visits_at
    visits_are zero h i lt zero nest left g n l = absurd (omega arith)
    visits_are zero h i lt (suc f) nest left g n l =
        let b = piece e.dsize (0 + i) slice in
        let s = score-of 13 e.dsize slice (parts_of e.dsize (length slice)) 0 i lt in
        let K = holds_at log 13 e.dsize slice (parts_of e.dsize (length slice)) 0 i H lt in
        let short : length K.0.bytes ≤ e.dsize = omega (arith, ap length K.2, cut_short 13 b, length-take-most e.dsize (drop (e.dsize * (0 + i)) slice)) in
        leaf_visited log e plain f nest left (piece 20 i bottom) K.0 (ap (held log 13) s ∙ K.1) short n (omega arith)
    visits_are (suc k) h i lt zero nest left g n l = absurd (omega arith)
    visits_are (suc k) h i lt (suc f) nest left g n l =
        let t = 2 + suc k in
        let S = scores_at w bottom k in
        let b = piece w (0 + i) S in
        let long = length_at log slice e 0 plain dpos wide k in
        let lt-parts : i < parts_of w (length S) = omega (arith, ap (parts_of w) long, lt) in
        let is-t : is_pointer t ≡ true = let q : 3 + k ≡ 2 + suc k = omega arith in sym (ap is_pointer q) ∙ pointer_type_lem k (omega arith) in
        let s = score-of t w S (parts_of w (length S)) 0 i lt-parts in
        let K = holds_at log t w S (parts_of w (length S)) 0 i (U k (omega arith)) lt-parts in
        let whole = ap (λ (x : Bytes). length x % 20) K.2 ∙ cut_whole t b is-t (whole-piece p (0 + i) (blocks k) (length S) (length b) long (part_length w (0 + i) S)) in
        let short : length K.0.bytes ≤ e.psize = omega (arith, ap length K.2, cut_short t b, length-take-most w (drop (w * (0 + i)) S)) in
        let here : 0 + i ≡ i = omega arith in
        let many : length K.0.bytes / 20 ≡ below k i = ap (λ (x : Bytes). length x / 20) K.2 ∙ ap (λ (x : ℕ). length (cut_block t (piece w x S)) / 20) here in
        let spent = ap (λ (m : ℕ). sum_from (λ j. visits_at k (p * i + j)) m 0) many in
        scores_visited log e plain f k nest left (piece 20 i (scores_of (level t w S))) K.0 (λ j. visits_at k (p * i + j)) (ap (held log t) s ∙ K.1) short whole n (omega (arith, spent, l))
        (λ j hj a q. let c = cut_piece t b j (subst (λ (x : Bytes). j < length x / 20) K.2 hj) in
        let r = inner p (0 + i) j (blocks k) (length S) (length b) long (part_length w (0 + i) S) c.1 in
        let is : piece 20 j K.0.bytes ≡ piece 20 (p * i + j) S = ap (piece 20 j) K.2 ∙ c.0 ∙ piece-piece p (0 + i) j S r.0 ∙ ap (λ (x : ℕ). piece 20 (p * x + j) S) here in
        let lower : p * i + j < blocks k = subst (λ (x : ℕ). p * x + j < blocks k) here r.1 in
        ap (λ (x : Bytes). visit_entry f log e k nest x a) is ∙ visits_are k (omega arith) (p * i + j) lower f nest a (omega arith) n q)
        ∙ ap (λ (v : ℕ). walked (v + 1) (Ok tt)) spent

-- ---- the entry

module _ (slice : Bytes) (dsize psize depth : ℕ) (lies : Lies (length slice) dsize psize depth) (short : length slice ≤ longest) (log : Bytes)
    (H : HoldsAll log (file_blocks slice dsize psize depth)) where
  abbrev E : Entry
  E = file_entry psize dsize depth (length slice)

  abbrev top : Bytes
  top = scores_at (width_of psize) (scores_of (leaves dsize slice)) depth

  abbrev tops : ℕ
  tops = count log slice E 0 refl lies.dsize-from lies.psize-from depth

  -- it ends with v visits, whatever the bound on calls is that is above its depth
  EndsWith : ℕ → Bytes → Type 0
  EndsWith v s = (f nest left : ℕ) → depth < f → nest ≤ 16 → v ≤ left → visit_entry f log E depth nest s left ≡ walked v (Ok tt)

  no_block : depth ≡ 0 → EndsWith 1 zero_score
  unfolding EndsWith
  no_block z zero nest left g n l = absurd (omega arith)
  no_block z (suc f) nest left g n l =
      ap (λ (d : ℕ). visit_entry (suc f) log E d nest zero_score left) z
      ∙ leaf_visited log E refl f nest left zero_score (empty_row 13) (held-zero log 13 zero_score data_lawful (same_refl zero_score)) (omega (arith, lies.dsize-from)) n (omega arith)

  file-length : length (file_blocks slice dsize psize depth)
      ≡ count log slice E 0 refl lies.dsize-from lies.psize-from 0 + length (pointer_blocks (width_of psize) (scores_of (leaves dsize slice)) depth)
  unfolding file_blocks count
  file-length =
      let n = blocks-count 13 dsize slice (parts_of dsize (length slice)) 0 in
      omega (arith, n, length-append (leaves dsize slice) (pointer_blocks (width_of psize) (scores_of (leaves dsize slice)) depth))

  most : 0 < tops → visits_at log slice E refl lies.dsize-from lies.psize-from depth 0 ≤ max 1 (length (file_blocks slice dsize psize depth))
  most pos =
      let g = visits_at log slice E refl lies.dsize-from lies.psize-from depth in
      let all = all-visits log slice E refl lies.dsize-from lies.psize-from depth in
      let one = sum_mono g 1 tops 0 (omega arith) in
      let is : sum_from g 1 0 ≡ g 0 = sum_one g in
      omega (arith, all, one, is, file-length)

  ended : (v : ℕ) → piece 20 0 top ≡ take 20 top
      → ((f nest left : ℕ) → depth < f → nest ≤ 16 → v ≤ left → visit_entry f log E depth nest (piece 20 0 top) left ≡ walked v (Ok tt)) → EndsWith v (take 20 top)
  unfolding EndsWith
  ended v e at = subst (λ (s : Bytes). (f nest left : ℕ) → depth < f → nest ≤ 16 → v ≤ left → visit_entry f log E depth nest s left ≡ walked v (Ok tt)) e at

  visits-top : (v : ℕ) × (v ≤ max 1 (length (file_blocks slice dsize psize depth))) × EndsWith v (top_score slice dsize psize depth)
  unfolding top_score top_of
  visits-top = go tops refl
    where
      go : (c : ℕ) → tops ≡ c → (v : ℕ) × (v ≤ max 1 (length (file_blocks slice dsize psize depth))) × EndsWith v (cond (eqb (length top) 0) zero_score (take 20 top))
      go zero q =
          rw (eq-eqb (length top) 0 (omega (arith, long slice dsize psize depth lies short log H, q))) (1, omega arith, no_block (shallow slice dsize psize depth lies short log H q))
      go (suc c) q =
          let least = least-found (length slice) dsize (psize / 20) depth lies.least in
          let P = parts slice dsize psize depth lies short log H in
          let at = visits_are log slice E refl lies.dsize-from lies.psize-from depth least.0 P.0
          (holds_level log (width_of psize) (scores_of (leaves dsize slice)) depth P.1) depth (omega arith) 0 (omega (arith, q)) in
          let v = visits_at log slice E refl lies.dsize-from lies.psize-from depth 0 in
          let first : piece 20 0 top ≡ take 20 top = ap (λ (n : ℕ). take 20 (drop n top)) (mul-zero 20) in
          rw (ne_eqb (length top) 0 (λ z. omega (arith, long slice dsize psize depth lies short log H, q)))
          (v, most (omega (arith, q)), ended v first at)

visits_ever : (slice : Bytes) (dsize psize : ℕ) → Ever slice dsize psize (VisitsFile slice dsize psize)
unfolding Ever EndsWith judged nest_of
visits_ever slice dsize psize log d lies short H =
    let m = least-found (length slice) dsize (psize / 20) d lies.least in
    let is = entry-is slice dsize psize d lies.dsize-from lies.dsize-to lies.psize-from lies.psize-to m.0 short m.1 in
    let sc = score-is slice dsize psize d lies.dsize-from lies.dsize-to lies.psize-from lies.psize-to m.0 short m.1 in
    let wf = well_formed_lem slice dsize psize d lies.dsize-from lies.dsize-to lies.psize-from lies.psize-to m.0 short m.1 in
    let T = visits-top slice dsize psize d lies short log H in
    let e = E slice dsize psize d lies short log H in
    let ends : (calls nest left : ℕ) → left + left + 1 ≤ calls → nest ≤ 16 → T.0 ≤ left → visit_entry calls log e d nest (top_score slice dsize psize d) left ≡ walked T.0 (Ok tt) =
    λ calls nest left enough n l. entry_enough calls (calls + suc d) log e d nest (top_score slice dsize psize d) left enough (omega arith) ∙ T.2 (calls + suc d) nest left (omega arith) n l in
    rw (is, sc, wf) (T.0, T.1, λ calls nest left enough n l. (ends calls nest left enough n l, ends calls nest left enough n l))

pub walk-visits-file : WalkVisitsFile
walk-visits-file log w date slice dsize psize entry scores sm done =
    after_call (VisitsFile slice dsize psize) log w date slice dsize psize entry scores (visits_ever slice dsize psize) sm done

pub walk-visits-file-later : WalkVisitsFileLater
walk-visits-file-later log w date slice dsize psize entry scores sm done =
    after-requests (VisitsFile slice dsize psize) log w date slice dsize psize entry scores (visits_ever slice dsize psize) sm done
