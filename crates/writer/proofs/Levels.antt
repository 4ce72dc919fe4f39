-- Levels stored one after the other: the blocks of those below are stored, and the scores of the last stand at the front of the buffer.
use mathlib.Core.Path.{◌≡◌, refl, sym, ap, ap₂, ◌∙◌}
use mathlib.Core.Bool.{Bool, true, false, cond}
use mathlib.Core.List.{List, [], ◌∷◌, ◌++◌}
use Prim.Native.Nat.{ℕ, zero, suc, ◌+◌, ◌-◌, ◌*◌, ◌/◌, ◌%◌, ◌≤◌, ◌<◌}
use native.Mathlib.Nat.{mul-suc, mul-zero, mul-le-mul_right}
use native.Mathlib.Omega.{arith}
use lib.Dec.{ltb, eqb}
use lib.ListN.{length, take, drop, length-append}
use lib.Seq.{take-length, take-take, take-append-le, length-take-le}
use borrow.Author.Tests.{le-leb, ltb-true, ltb-false, eq-eqb, ne_eqb}
use Rattle.buffer.specs.Bytes.{Bytes}
use Rattle.sha1_digest.specs.Sha1.{sha1_of}
use Rattle.sha1_digest.proofs.Digest.{digest_length}
use Rattle.refusal.specs.declared.Refusal.{Refusal}
use Rattle.kind.specs.Kind.{is_pointer, longest, zero_score}
use Rattle.block.specs.Block.{parts_of}
use Rattle.block.proofs.Facts.{some-parts}
use Rattle.append.proofs.Images.{part_start}
use Rattle.cut.proofs.Multiples.{times, times_mod}
use Rattle.tree.specs.Tree.{piece}
use Rattle.sector_log.specs.Parts.{Lent}
use Rattle.sector_log.specs.Store.{store}
use Rattle.writer.specs.Blocks.{Typed, cut_block, blocks_from, level, leaves, scores_of, scores_at, pointer_blocks, width_of, file_blocks, top_of, top_score}
use Rattle.writer.specs.WriteFile.{end_of, AfterAll, after_all, onward, store_all}
use Rattle.std.specs.Prelude.{Ok, Err, Result, ⊤}

-- what comes after other blocks is stored where these were
pub store-append : (L : Lent) (date : Bytes) (xs ys : List Typed) → let a = store_all L date xs in
    store_all L date (xs ++ ys) ≡ onward a.end a.lent (store_all a.lent date ys)
unfolding store_all
store-append L date [] ys = refl
store-append L date (x ∷ xs) ys =
    go (end_of (store L date x.kind x.bytes).receipt.stored) (store L date x.kind x.bytes).lent (store-append (store L date x.kind x.bytes).lent date xs ys)
  where
    go : (e : Result ⊤ Refusal) (M : Lent) → (let a = store_all M date xs in store_all M date (xs ++ ys) ≡ onward a.end a.lent (store_all a.lent date ys))
        → let a = onward e M (store_all M date xs) in onward e M (store_all M date (xs ++ ys)) ≡ onward a.end a.lent (store_all a.lent date ys)
    go (Ok tt) M h = h
    go (Err w) M h = refl

-- a score for each block
pub length-scores : (kind w : ℕ) (b : Bytes) (k i : ℕ) → length (scores_of (blocks_from kind w b k i)) ≡ 20 * k
unfolding blocks_from scores_of
length-scores kind w b zero i = sym (mul-zero 20)
length-scores kind w b (suc k) i =
    let d = cut_block kind (piece w i b) in
    length-append (sha1_of d) (scores_of (blocks_from kind w b k (suc i))) ∙ omega (arith, digest_length d, length-scores kind w b k (suc i), mul-suc 20 k)

pub length-level : (kind w : ℕ) (b : Bytes) → length (scores_of (level kind w b)) ≡ 20 * parts_of w (length b)
length-level kind w b = length-scores kind w b (parts_of w (length b)) 0

-- no more pieces than bytes, and no more scores than before
pub few_pieces : (p size : ℕ) → 0 < p → parts_of p size ≤ size
few_pieces p size pos = go (ltb size (parts_of p size)) refl
  where
    go : (t : Bool) → ltb size (parts_of p size) ≡ t → parts_of p size ≤ size
    go true q =
        let one : 1 * size ≤ p * size = mul-le-mul_right size pos in
        absurd (omega (arith, part_start p size size pos (ltb-true size (parts_of p size) q), one))
    go false q = ltb-false size (parts_of p size) q

pub fewer_scores : (w n : ℕ) → 20 ≤ w → n % 20 ≡ 0 → 20 * parts_of w n ≤ n
fewer_scores w n h m = go (ltb (n / 20) (parts_of w n)) refl
  where
    go : (t : Bool) → ltb (n / 20) (parts_of w n) ≡ t → 20 * parts_of w n ≤ n
    go true q =
        let more : 20 * (n / 20) ≤ w * (n / 20) = mul-le-mul_right (n / 20) h in
        absurd (omega (arith, times 20 n m, part_start w n (n / 20) (omega arith) (ltb-true (n / 20) (parts_of w n) q), more))
    go false q = omega (arith, times 20 n m, ltb-false (n / 20) (parts_of w n) q)

pub pointer_type_lem : (k : ℕ) → k < 7 → is_pointer (3 + k) ≡ true
unfolding is_pointer
pointer_type_lem k h = rw (le-leb 3 (3 + k) (omega arith), le-leb (3 + k) 9 (omega arith))

module _ (w : ℕ) (s date : Bytes) (L₀ : Lent) where
  pub record Climbing (L : Lent) (scores : Bytes) (n k : ℕ) : Type 0 where
    pub sized : length (scores_at w s k) ≡ n
    pub front : take n scores ≡ scores_at w s k
    pub has-whole-scores : n % 20 ≡ 0
    pub most : n ≤ length s
    pub some : 0 < length s → 0 < n
    pub blocks : after_all (Ok tt) L ≡ store_all L₀ date (pointer_blocks w s k)

  pub climbing_start : length s % 20 ≡ 0 → Climbing L₀ s (length s) 0
  unfolding scores_at pointer_blocks store_all
  climbing_start h = record { sized = refl; front = take-length s; has-whole-scores = h; most = omega arith; some = λ p. p; blocks = refl }

  -- the top
  pub climbing_end : (L : Lent) (scores : Bytes) (n k : ℕ) → length scores ≡ length s → Climbing L scores n k → top_of scores ≡ top_of (scores_at w s k)
  unfolding top_of
  climbing_end L scores n k l g = go (ltb 0 (length s)) refl
    where
      t : Bytes
      t = scores_at w s k

      go : (c : Bool) → ltb 0 (length s) ≡ c → cond (eqb (length scores) 0) zero_score (take 20 scores) ≡ cond (eqb (length t) 0) zero_score (take 20 t)
      go true q =
          let p = ltb-true 0 (length s) q in
          let n-some = g.some p in
          let m : 20 ≤ n = omega (arith, g.has-whole-scores, n-some) in
          rw (ne_eqb (length scores) 0 (λ z. omega arith), ne_eqb (length t) 0 (λ z. omega (arith, g.sized)))
          (sym (take-take 20 n scores m) ∙ ap (take 20) g.front)
      go false q =
          let p = ltb-false 0 (length s) q in
          rw (eq-eqb (length scores) 0 (omega arith), eq-eqb (length t) 0 (omega (arith, g.sized, g.most))) refl

  -- a refused level refuses all
  stays : (k : ℕ) (why : Refusal) (L' : Lent) → store_all L₀ date (pointer_blocks w s (suc k)) ≡ after_all (Err why) L'
      → (d : ℕ) → k < d → store_all L₀ date (pointer_blocks w s d) ≡ after_all (Err why) L'
  unfolding pointer_blocks
  stays k why L' e zero h = absurd (omega arith)
  stays k why L' e (suc d) h = go (ltb k d) refl (stays k why L' e d)
    where
      go : (t : Bool) → ltb k d ≡ t → (k < d → store_all L₀ date (pointer_blocks w s d) ≡ after_all (Err why) L')
          → store_all L₀ date (pointer_blocks w s (suc d)) ≡ after_all (Err why) L'
      go true q below =
          store-append L₀ date (pointer_blocks w s d) _
          ∙ ap (λ (a : AfterAll). onward a.end a.lent (store_all a.lent date (level (2 + suc d) w (scores_at w s d)))) (below (ltb-true k d q))
      go false q below = let m : d ≡ k = omega (arith, ltb-false k d q) in ap (λ (x : ℕ). store_all L₀ date (pointer_blocks w s (suc x))) m ∙ e

  module _ (L : Lent) (scores : Bytes) (n k : ℕ) (g : Climbing L scores n k) (e : Result ⊤ Refusal) (L' : Lent)
      (b : after_all e L' ≡ store_all L date (level (3 + k) w (take n scores))) where
    climbed : after_all e L' ≡ store_all L₀ date (pointer_blocks w s (suc k))
    unfolding pointer_blocks
    climbed =
        let t : 3 + k ≡ 2 + suc k = omega arith in
        b ∙ ap₂ (λ (x : ℕ) (y : Bytes). store_all L date (level x w y)) t g.front
        ∙ sym (store-append L₀ date (pointer_blocks w s k) (level (2 + suc k) w (scores_at w s k))
        ∙ ap (λ (a : AfterAll). onward a.end a.lent (store_all a.lent date (level (2 + suc k) w (scores_at w s k)))) (sym g.blocks))

    pub climbing_stopped : (why : Refusal) (d : ℕ) → e ≡ Err why → k < d → after_all e L' ≡ store_all L₀ date (pointer_blocks w s d)
    climbing_stopped why d p h =
        let q = ap (λ (x : Result ⊤ Refusal). after_all x L') p in
        q ∙ sym (stays k why L' (sym climbed ∙ q) d h)

    pub climbing_next : 20 ≤ w → e ≡ Ok tt → (part : Bytes) → length part ≡ length (take n scores)
        → take (20 * parts_of w (length (take n scores))) part ≡ scores_of (level (3 + k) w (take n scores))
        → length scores ≡ length s
        → (scores' : Bytes) → scores' ≡ part ++ drop n scores → (n' : ℕ) → n' ≡ 20 * parts_of w n → Climbing L' scores' n' (k + 1)
    unfolding scores_at
    climbing_next wide p part l f ls scores' es n' en =
        let o : k + 1 ≡ suc k = omega arith in
        let t : 3 + k ≡ 2 + suc k = omega arith in
        let long : length (take n scores) ≡ n = length-take-le n scores (omega (arith, g.most)) in
        let fewer : n' ≤ n = omega (arith, en, fewer_scores w n wide g.has-whole-scores) in
        let above : scores_of (level (3 + k) w (take n scores)) ≡ scores_at w s (suc k) = ap₂ (λ (x : ℕ) (y : Bytes). scores_of (level x w y)) t g.front in
        let count : 20 * parts_of w (length (take n scores)) ≡ n' = ap (λ (x : ℕ). 20 * parts_of w x) long ∙ sym en in
        let there : length (scores_at w s (suc k)) ≡ n' = ap length (sym above) ∙ length-level (3 + k) w (take n scores) ∙ count in
        let first : take n' scores' ≡ scores_at w s (suc k) =
        ap (take n') es ∙ take-append-le n' part (drop n scores) (omega (arith, l)) ∙ ap (λ (x : ℕ). take x part) (sym count) ∙ f ∙ above in
        rw o (record {
          sized = there;
          front = first;
          has-whole-scores = times_mod 20 (parts_of w n) n' en;
          most = omega (arith, g.most);
          some = λ q. omega (arith, some-parts w (omega arith) n (g.some q), en);
          blocks = ap (λ (x : Result ⊤ Refusal). after_all x L') (sym p) ∙ climbed;
        })

-- the leaves, and then the levels over their scores
module _ (slice : Bytes) (dsize psize depth : ℕ) (date : Bytes) (L₀ : Lent) (e : Result ⊤ Refusal) (L : Lent) (b : after_all e L ≡ store_all L₀ date (leaves dsize slice)) where
  abbrev over : List Typed
  over = pointer_blocks (width_of psize) (scores_of (leaves dsize slice)) depth

  all_blocks : store_all L₀ date (file_blocks slice dsize psize depth) ≡ onward e L (store_all L date over)
  unfolding file_blocks
  all_blocks =
      store-append L₀ date (leaves dsize slice) over ∙ ap (λ (a : AfterAll). onward a.end a.lent (store_all a.lent date over)) (sym b)

  pub leaf-refused : (why : Refusal) → e ≡ Err why → after_all e L ≡ store_all L₀ date (file_blocks slice dsize psize depth)
  leaf-refused why p =
      ap (λ (x : Result ⊤ Refusal). after_all x L) p ∙ sym (all_blocks ∙ ap (λ (x : Result ⊤ Refusal). onward x L (store_all L date over)) p)

  pub leaves-stored : e ≡ Ok tt → (s : Bytes) → s ≡ scores_of (leaves dsize slice) → (r : Result ⊤ Refusal) (L' : Lent)
      → after_all r L' ≡ store_all L date (pointer_blocks (width_of psize) s depth) → after_all r L' ≡ store_all L₀ date (file_blocks slice dsize psize depth)
  leaves-stored p s f r L' g =
      g ∙ ap (λ (x : Bytes). store_all L date (pointer_blocks (width_of psize) x depth)) f
      ∙ sym (all_blocks ∙ ap (λ (x : Result ⊤ Refusal). onward x L (store_all L date over)) p)

pub top-is : (slice : Bytes) (dsize psize depth : ℕ) (s x : Bytes) → s ≡ scores_of (leaves dsize slice) → top_of x ≡ top_of (scores_at (width_of psize) s depth)
    → top_of x ≡ top_score slice dsize psize depth
unfolding top_score
top-is slice dsize psize depth s x f g = g ∙ ap (λ (y : Bytes). top_of (scores_at (width_of psize) y depth)) f

-- the bytes that make a pointer block
pub width_bounds : (psize : ℕ) → 40 ≤ psize → psize ≤ longest → (40 ≤ width_of psize) × (width_of psize ≤ longest) × (width_of psize % 20 ≡ 0)
width_bounds psize a b = (omega arith, omega arith, times_mod 20 (psize / 20) (width_of psize) refl)
