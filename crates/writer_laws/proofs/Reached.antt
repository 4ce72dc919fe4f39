-- A walk comes to every block of a file that was written, except empty ones.
use mathlib.Core.Path.{◌≡◌, refl, sym, ap, ◌∙◌, subst}
use mathlib.Core.Bool.{Bool, true, false, cond}
use mathlib.Core.List.Memᴰ
use mathlib.Core.List.{List, [], ◌∷◌, ◌++◌, Memᴰ}
use mathlib.Core.Logic.{◌≢◌, ◌⊎◌, inl, inr}
use Prim.Native.Nat.{ℕ, zero, suc, ◌+◌, ◌-◌, ◌*◌, ◌/◌, ◌%◌, ◌^◌, ◌≤◌, ◌<◌}
use native.Mathlib.Nat.{mul_assoc, mul-le-mul_left, mul-zero, mul-one, pow-zero, pow-suc, div-add-mod, mod-lt}
use native.Mathlib.Omega.{arith}
use lib.Dec.{ltb, eqb}
use lib.ListN.{length, take, drop}
use borrow.Author.Tests.{ltb-true, ltb-false, ne_eqb}
use Rattle.buffer.specs.Bytes.{Bytes, same}
use Rattle.buffer.proofs.Bytes.{same_refl}
use Rattle.sha1_digest.specs.Sha1.{sha1_of}
use Rattle.kind.specs.Kind.{lawful, is_pointer, zero_score, longest}
use Rattle.kind.proofs.Types.{pointer-lawful}
use Rattle.block.specs.Block.{parts_of}
use Rattle.append.proofs.Images.{part_start}
use Rattle.sector_log.specs.LookUp.{held}
use Rattle.entry.specs.declared.Entry.{Entry}
use Rattle.entry.specs.Entry.{pointers}
use Rattle.entry.proofs.Made.{file_entry}
use Rattle.tree.specs.Tree.{piece, type_at}
use Rattle.tree.proofs.Pointers.{pointer-past}
use Rattle.walk_laws.proofs.Found.{type_above}
use Rattle.writer.specs.Blocks.{Typed, cut_block, blocks_from, level, leaves, scores_of, scores_at, pointer_blocks, width_of, file_blocks, top_of, top_score}
use Rattle.writer.proofs.Levels.{pointer_type_lem}
use Rattle.writer.proofs.Cutting.{data_lawful}
use Rattle.writer.proofs.Depth.{Lies, least-found}
use Rattle.writer_laws.specs.Held.{Holds, HoldsAll}
use Rattle.writer_laws.specs.Walk.{ComesTo, first, below, ReachesFile, WalkReachesFile, WalkReachesFileLater}
use Rattle.writer_laws.proofs.Scores.{score-of, piece-piece, above_count, cut_whole, cut_pointer}
use Rattle.writer_laws.proofs.Back.{holds_at, zero-empty, count, length_at, part_length, split-whole, zero_left}
use Rattle.writer_laws.proofs.Written.{holds_level}
use Rattle.writer_laws.proofs.ReadBack.{entry-is, score-is}
use Rattle.writer_laws.proofs.StillHeld.{Ever, after_call, after-requests}
use Rattle.writer_laws.proofs.Walk.{cut_piece, parts, long, shallow}

-- ---- the blocks of a file by level and place

module _ (P : Typed → Type 0) where
  Each : List Typed → Type 0
  Each xs = (x : Typed) → Memᴰ x xs → P x

  each_cons : (y : Typed) (xs : List Typed) → P y → Each xs → Each (y ∷ xs)
  unfolding Each
  each_cons y xs p f x m = go (Memᴰ.cases_cons m)
    where
      go : (x ≡ y) ⊎ Memᴰ x xs → P x
      go (inl e) = subst P (sym e) p
      go (inr n) = f x n

  each_both : (xs ys : List Typed) → Each xs → Each ys → Each (xs ++ ys)
  unfolding Each
  each_both [] ys f g x m = g x m
  each_both (y ∷ xs) ys f g x m =
      each_cons y (xs ++ ys) (f y (Memᴰ.head refl)) (each_both xs ys (λ z n. f z (Memᴰ.tail n)) g) x m

  each_block : (kind w : ℕ) (b : Bytes) (k i : ℕ) → ((j : ℕ) → j < k → P (record { kind = kind; bytes = cut_block kind (piece w (i + j) b) })) → Each (blocks_from kind w b k i)
  unfolding Each blocks_from
  each_block kind w b zero i f x m = absurd (Memᴰ.not-nil m)
  each_block kind w b (suc k) i f x m =
      let at : ℕ → Type 0 = λ n. P (record { kind = kind; bytes = cut_block kind (piece w n b) }) in
      let z : i + 0 ≡ i = omega arith in
      each_cons (record { kind = kind; bytes = cut_block kind (piece w i b) }) (blocks_from kind w b k (suc i)) (subst at z (f 0 (omega arith)))
      (each_block kind w b k (suc i) (λ j h. let o : i + suc j ≡ suc i + j = omega arith in subst at o (f (suc j) (omega arith)))) x m

  each_pointer : (w : ℕ) (s : Bytes) (d : ℕ) → ((k : ℕ) → k < d → Each (level (2 + suc k) w (scores_at w s k))) → Each (pointer_blocks w s d)
  unfolding Each pointer_blocks
  each_pointer w s zero f x m = absurd (Memᴰ.not-nil m)
  each_pointer w s (suc d) f x m =
      each_both (pointer_blocks w s d) (level (2 + suc d) w (scores_at w s d)) (each_pointer w s d (λ k h. f k (omega arith))) (f d (omega arith)) x m

-- ---- the scores from above

module _ (log slice : Bytes) (e : Entry) (plain : e.directory ≡ false) (dpos : 0 < e.dsize) (wide : 40 ≤ e.psize) where
  abbrev w : ℕ
  w = width_of e.psize

  abbrev p : ℕ
  p = pointers e

  abbrev bottom : Bytes
  bottom = scores_of (leaves e.dsize slice)

  abbrev blocks : ℕ → ℕ
  blocks k = count log slice e 0 plain dpos wide k

  -- below block i of a level the file goes on
  starts : (k i : ℕ) → i < blocks k → e.dsize * p ^ k * i < length slice
  unfolding count
  starts zero i h =
      let one : e.dsize * p ^ 0 * i ≡ e.dsize * i = ap (λ (n : ℕ). e.dsize * n * i) (pow-zero p) ∙ ap (λ (n : ℕ). n * i) (mul-one e.dsize) in
      omega (arith, one, part_start e.dsize (length slice) i dpos h)
  starts (suc k) i h =
      let up = part_start w (20 * blocks k) i (omega (arith, wide)) h in
      let low : p * i < blocks k = omega (arith, mul_assoc 20 p i) in
      let is : e.dsize * p ^ suc k * i ≡ e.dsize * p ^ k * (p * i) =
      ap (λ (n : ℕ). e.dsize * n * i) (pow-suc p k) ∙ ap (λ (n : ℕ). n * i) (sym (mul_assoc e.dsize (p ^ k) p)) ∙ mul_assoc (e.dsize * p ^ k) p i in
      omega (arith, is, starts k (p * i) low)

  module _ (few : e.depth ≤ 7) (fits : length slice ≤ e.dsize * p ^ e.depth) (U : (k : ℕ) → k < e.depth → HoldsAll log (level (2 + suc k) w (scores_at w bottom k))) where
    -- there is one block at the top
    one-top : (i : ℕ) → i < blocks e.depth → i ≡ 0
    one-top zero h = refl
    one-top (suc i) h =
        let most : e.dsize * p ^ e.depth * 1 ≤ e.dsize * p ^ e.depth * suc i = mul-le-mul_left (e.dsize * p ^ e.depth) (omega arith) in
        absurd (omega (arith, starts e.depth (suc i) h, most, mul-one (e.dsize * p ^ e.depth)))

    abbrev top : Bytes
    top = piece 20 0 (scores_at w bottom e.depth)

    -- a score other than the zero score is left in a pointer block that was cut
    stays_in : (t : ℕ) (b : Bytes) (j : ℕ) → is_pointer t ≡ true → length b % 20 ≡ 0 → 20 * j < length b → piece 20 j b ≢ zero_score → j < length (cut_block t b) / 20
    stays_in t b j is-t whole h ne = go (ltb (20 * j) (length (cut_block t b))) refl
      where
        go : (c : Bool) → ltb (20 * j) (length (cut_block t b)) ≡ c → j < length (cut_block t b) / 20
        go true q = let lt = ltb-true (20 * j) (length (cut_block t b)) q in omega (arith, lt, cut_whole t b is-t whole)
        go false q =
            let ge = ltb-false (20 * j) (length (cut_block t b)) q in
            absurd (ne (sym (cut_pointer t b is-t whole j h) ∙ sym (pointer-past (cut_block t b) j ge)))

    comes_to : (g k : ℕ) → k + g ≡ e.depth → (i : ℕ) → i < blocks k → piece 20 i (scores_at w bottom k) ≢ zero_score → ComesTo log e top k (piece 20 i (scores_at w bottom k))
    unfolding count scores_at
    comes_to zero k q i h ne =
        let at : e.depth ≡ k = omega arith in
        let z : i ≡ 0 = one-top i (subst (λ (n : ℕ). i < blocks n) (sym at) h) in
        subst (λ (n : ℕ). ComesTo log e top n (piece 20 i (scores_at w bottom n))) at
        (subst (λ (n : ℕ). ComesTo log e top e.depth (piece 20 n (scores_at w bottom e.depth))) (sym z) first)
    comes_to (suc g) k q x h ne =
        let i = x / p in
        let j = x % p in
        let t = 2 + suc k in
        let S = scores_at w bottom k in
        let b = piece w (0 + i) S in
        let ppos : 0 < p = omega (arith, wide) in
        let long = length_at log slice e 0 plain dpos wide k in
        let lt : i < blocks (suc k) = above_count p x (blocks k) ppos h in
        let lt-parts : i < parts_of w (length S) = omega (arith, ap (parts_of w) long, lt) in
        let is-t : is_pointer t ≡ true = let y : 3 + k ≡ 2 + suc k = omega arith in sym (ap is_pointer y) ∙ pointer_type_lem k (omega arith) in
        let s = score-of t w S (parts_of w (length S)) 0 i lt-parts in
        let K = holds_at log t w S (parts_of w (length S)) 0 i (U k (omega arith)) lt-parts in
        let split : p * (0 + i) + j ≡ x = ap (λ (n : ℕ). p * n + j) (zero_left i) ∙ div-add-mod x p in
        let whole = split-whole p (0 + i) j x (blocks k) (length S) (length b) long (part_length w (0 + i) S) split (mod-lt x ppos) h in
        let down : piece 20 j b ≡ piece 20 x S = piece-piece p (0 + i) j S (mod-lt x ppos) ∙ ap (λ (n : ℕ). piece 20 n S) split in
        let inside : j < length (cut_block t b) / 20 = stays_in t b j is-t whole.0 whole.1 (λ z. ne (sym down ∙ z)) in
        let parent : piece 20 i (scores_at w bottom (suc k)) ≢ zero_score =
        λ z. let e = zero-empty log (record { kind = t; bytes = cut_block t b }) (pointer-lawful t is-t) K (ap (λ (y : Bytes). same y zero_score) (sym s ∙ z) ∙ same_refl zero_score) in
        absurd (omega (arith, inside, ap length e)) in
        let up = comes_to g (suc k) (omega arith) i lt parent in
        let is : piece 20 j K.0.bytes ≡ piece 20 x S = ap (piece 20 j) K.2 ∙ (cut_piece t b j inside).0 ∙ down in
        subst (ComesTo log e top k) is
        (below K.0 up (ap (held log t) s ∙ K.1) j (subst (λ (y : Bytes). j < length y / 20) (sym K.2) inside))

    -- a block is held, and a walk from a score comes to it
    abbrev Reached : Bytes → Typed → Type 0
    Reached s x = x.bytes ≢ [] → Holds log x × ((k : ℕ) × (type_at e k ≡ x.kind) × ComesTo log e s k (sha1_of x.bytes))

    -- block i of a level
    reached : (k i : ℕ) → k ≤ e.depth → i < blocks k → (x : Typed) → type_at e k ≡ x.kind → lawful x.kind ≡ true → Holds log x
        → piece 20 i (scores_at w bottom k) ≡ sha1_of x.bytes → Reached top x
    reached k i h lt x is law K s ne =
        let other : piece 20 i (scores_at w bottom k) ≢ zero_score = λ z. ne (zero-empty log x law K (ap (λ (y : Bytes). same y zero_score) (sym s ∙ z) ∙ same_refl zero_score)) in
        (K, (k, is, subst (ComesTo log e top k) s (comes_to (e.depth - k) k (omega arith) i lt other)))

    leaf_type : type_at e 0 ≡ 13
    unfolding type_at
    leaf_type = rw plain refl

    module _ (H : HoldsAll log (leaves e.dsize slice)) where
      each_leaf : Each (Reached top) (leaves e.dsize slice)
      unfolding count scores_at
      each_leaf =
          let n = parts_of e.dsize (length slice) in
          each_block (Reached top) 13 e.dsize slice n 0
          (λ j h. reached 0 j (omega arith) h (record { kind = 13; bytes = cut_block 13 (piece e.dsize (0 + j) slice) }) leaf_type data_lawful
          (holds_at log 13 e.dsize slice n 0 j H h) (score-of 13 e.dsize slice n 0 j h))

      each_above : (k : ℕ) → k < e.depth → Each (Reached top) (level (2 + suc k) w (scores_at w bottom k))
      unfolding count scores_at
      each_above k h =
          let t = 2 + suc k in
          let S = scores_at w bottom k in
          let n = parts_of w (length S) in
          let is-t : is_pointer t ≡ true = let y : 3 + k ≡ 2 + suc k = omega arith in sym (ap is_pointer y) ∙ pointer_type_lem k (omega arith) in
          let same_count : n ≡ blocks (suc k) = ap (parts_of w) (length_at log slice e 0 plain dpos wide k) in
          each_block (Reached top) t w S n 0
          (λ j l. reached (suc k) j (omega arith) (omega (arith, same_count, l)) (record { kind = t; bytes = cut_block t (piece w (0 + j) S) }) (type_above e k) (pointer-lawful t is-t)
          (holds_at log t w S n 0 j (U k h) l) (score-of t w S n 0 j l))

      each_reached : Each (Reached top) (leaves e.dsize slice ++ pointer_blocks w bottom e.depth)
      each_reached = each_both (Reached top) (leaves e.dsize slice) (pointer_blocks w bottom e.depth) each_leaf (each_pointer (Reached top) w bottom e.depth each_above)

-- ---- the entry

module _ (slice : Bytes) (dsize psize depth : ℕ) (lies : Lies (length slice) dsize psize depth) (short : length slice ≤ longest) (log : Bytes)
    (H : HoldsAll log (file_blocks slice dsize psize depth)) where
  abbrev E : Entry
  E = file_entry psize dsize depth (length slice)

  abbrev scores : Bytes
  scores = scores_at (width_of psize) (scores_of (leaves dsize slice)) depth

  abbrev At : Bytes → Typed → Type 0
  At s x = x.bytes ≢ [] → Holds log x × ((k : ℕ) × (type_at E k ≡ x.kind) × ComesTo log E s k (sha1_of x.bytes))

  abbrev tops : ℕ
  tops = count log slice E 0 refl lies.dsize-from lies.psize-from depth

  -- where there is no block at the top there is none
  none-there : (s : Bytes) → depth ≡ 0 → tops ≡ 0 → Each (At s) (leaves dsize slice ++ pointer_blocks (width_of psize) (scores_of (leaves dsize slice)) depth)
  unfolding count Each
  none-there s z q =
      let no-leaf : parts_of dsize (length slice) ≡ 0 = ap (count log slice E 0 refl lies.dsize-from lies.psize-from) (sym z) ∙ q in
      each_both (At s) (leaves dsize slice) (pointer_blocks (width_of psize) (scores_of (leaves dsize slice)) depth)
      (each_block (At s) 13 dsize slice (parts_of dsize (length slice)) 0 (λ j h. absurd (omega (arith, no-leaf, h))))
      (each_pointer (At s) (width_of psize) (scores_of (leaves dsize slice)) depth (λ k h. absurd (omega arith)))

  each_of-file : Each (At (top_score slice dsize psize depth)) (file_blocks slice dsize psize depth)
  unfolding top_score top_of file_blocks
  each_of-file = go tops refl
    where
      go : (c : ℕ) → tops ≡ c → Each (At (cond (eqb (length scores) 0) zero_score (take 20 scores))) (leaves dsize slice ++ pointer_blocks (width_of psize) (scores_of (leaves dsize slice)) depth)
      go zero q = none-there _ (shallow slice dsize psize depth lies short log H q) q
      go (suc c) q =
          let least = least-found (length slice) dsize (psize / 20) depth lies.least in
          let P = parts slice dsize psize depth lies short log H in
          let U = holds_level log (width_of psize) (scores_of (leaves dsize slice)) depth P.1 in
          let is : piece 20 0 scores ≡ take 20 scores = ap (λ (n : ℕ). take 20 (drop n scores)) (mul-zero 20) in
          rw (ne_eqb (length scores) 0 (λ z. omega (arith, long slice dsize psize depth lies short log H, q)))
          (subst (λ (s : Bytes). Each (At s) (leaves dsize slice ++ pointer_blocks (width_of psize) (scores_of (leaves dsize slice)) depth)) is
          (each_reached log slice E refl lies.dsize-from lies.psize-from least.0 least.1 U P.0))

reaches_ever : (slice : Bytes) (dsize psize : ℕ) → Ever slice dsize psize (ReachesFile slice dsize psize)
unfolding Ever Each
reaches_ever slice dsize psize log d lies short H =
    let m = least-found (length slice) dsize (psize / 20) d lies.least in
    let is = entry-is slice dsize psize d lies.dsize-from lies.dsize-to lies.psize-from lies.psize-to m.0 short m.1 in
    let sc = score-is slice dsize psize d lies.dsize-from lies.dsize-to lies.psize-from lies.psize-to m.0 short m.1 in
    rw (is, sc) (each_of-file slice dsize psize d lies short log H)

pub walk_reaches_file : WalkReachesFile
walk_reaches_file log w date slice dsize psize entry scores sm done =
    after_call (ReachesFile slice dsize psize) log w date slice dsize psize entry scores (reaches_ever slice dsize psize) sm done

pub walk_reaches_file-later : WalkReachesFileLater
walk_reaches_file-later log w date slice dsize psize entry scores sm done =
    after-requests (ReachesFile slice dsize psize) log w date slice dsize psize entry scores (reaches_ever slice dsize psize) sm done
