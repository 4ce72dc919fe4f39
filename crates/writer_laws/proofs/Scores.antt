-- The scores of blocks laid end to end, and what a reader finds in a block that was cut.
use mathlib.Core.Path.{◌≡◌, refl, sym, ap, ap₂, ◌∙◌}
use mathlib.Core.Bool.{Bool, true, false}
use mathlib.Core.List.{◌++◌}
use Prim.Native.Nat.{ℕ, zero, suc, ◌+◌, ◌-◌, ◌*◌, ◌/◌, ◌%◌, ◌≤◌, ◌<◌}
use native.Mathlib.Nat.{mul-zero, mul-suc, mul_assoc, mul-add, mul-le-mul_left, div-add-mod, mod-one}
use native.Mathlib.Omega.{arith}
use lib.Dec.{ltb}
use lib.ListN.{length, take, drop, get_or, replicate, get_or-eq_default}
use lib.Seq.{length-take-le, take_at, drop_at, drop-drop, drop-append-add, get_or-take, get_or-drop}
use borrow.Author.Tests.{ltb-true, ltb-false}
use Rattle.buffer.specs.Bytes.{Bytes}
use Rattle.buffer.proofs.Bytes.{zeros-replicate, zeros_get_d}
use Rattle.buffer.proofs.Parts.{part_within}
use Rattle.sha1_digest.specs.Sha1.{sha1_of}
use Rattle.sha1_digest.proofs.Digest.{digest_length}
use Rattle.kind.specs.Kind.{is_pointer, zero_score}
use Rattle.kind.proofs.ZeroScore.{length-zero-score}
use Rattle.block.specs.Block.{parts_of}
use Rattle.block.proofs.Facts.{parts-bounds}
use Rattle.cut.specs.Cut.{unit_of, repeat, cut_length}
use Rattle.cut.proofs.Tests.{unit_pointer, unit_other}
use Rattle.cut.proofs.Units.{repeat-zeros}
use Rattle.cut.proofs.Shortest.{cut_le, cut_units, cut_rest}
use Rattle.cut.proofs.Multiples.{times}
use Rattle.tree.specs.Tree.{piece, pointer}
use Rattle.tree.proofs.Pointers.{pointer-past, pointer-piece}
use Rattle.writer.specs.Blocks.{cut_block, blocks_from, scores_of}

-- score j of the blocks from i on is that of block i + j
pub score-of : (kind w : ℕ) (b : Bytes) (k i j : ℕ) → j < k → piece 20 j (scores_of (blocks_from kind w b k i)) ≡ sha1_of (cut_block kind (piece w (i + j) b))
unfolding blocks_from scores_of
score-of kind w b zero i j h = absurd (omega arith)
score-of kind w b (suc k) i zero h =
    let d = cut_block kind (piece w i b) in
    let o : i + 0 ≡ i = omega arith in
    ap (λ (n : ℕ). take 20 (drop n (sha1_of d ++ scores_of (blocks_from kind w b k (suc i))))) (mul-zero 20)
    ∙ take_at (sha1_of d) (scores_of (blocks_from kind w b k (suc i))) 20 (digest_length d) ∙ ap (λ (n : ℕ). sha1_of (cut_block kind (piece w n b))) (sym o)
score-of kind w b (suc k) i (suc j) h =
    let d = cut_block kind (piece w i b) in
    let s = scores_of (blocks_from kind w b k (suc i)) in
    let o : suc i + j ≡ i + suc j = omega arith in
    let m : 20 * suc j ≡ length (sha1_of d) + 20 * j = omega (arith, digest_length d, mul-suc 20 j) in
    ap (take 20) (ap (λ (n : ℕ). drop n (sha1_of d ++ s)) m ∙ drop-append-add (sha1_of d) s (20 * j))
    ∙ score-of kind w b k (suc i) j (omega arith) ∙ ap (λ (n : ℕ). sha1_of (cut_block kind (piece w n b))) o

-- a piece of a piece
pub piece-piece : (p i j : ℕ) (s : Bytes) → j < p → piece 20 j (piece (20 * p) i s) ≡ piece 20 (p * i + j) s
piece-piece p i j s h =
    let room : 20 * j + 20 ≤ 20 * p = omega arith in
    let at : 20 * p * i + 20 * j ≡ 20 * (p * i + j) = ap (λ (n : ℕ). n + 20 * j) (mul_assoc 20 p i) ∙ sym (mul-add 20 (p * i) j) in
    part_within 20 (20 * j) (20 * p) (drop (20 * p * i) s) room
    ∙ ap (take 20) (drop-drop (20 * j) (20 * p * i) s ∙ ap (λ (n : ℕ). drop n s) at)

-- the level above has a block for score j
pub above_count : (p j c : ℕ) → 0 < p → j < c → j / p < parts_of (20 * p) (20 * c)
above_count p j c pos h = go (ltb (j / p) (parts_of (20 * p) (20 * c))) refl
  where
    go : (t : Bool) → ltb (j / p) (parts_of (20 * p) (20 * c)) ≡ t → j / p < parts_of (20 * p) (20 * c)
    go true q = ltb-true (j / p) (parts_of (20 * p) (20 * c)) q
    go false q =
        let le = ltb-false (j / p) (parts_of (20 * p) (20 * c)) q in
        let b = (parts-bounds (20 * p) (omega arith) (20 * c)).0 in
        let m : 20 * p * parts_of (20 * p) (20 * c) ≤ 20 * p * (j / p) = mul-le-mul_left (20 * p) le in
        absurd (omega (arith, b, m, mul_assoc 20 p (j / p), div-add-mod j p))

-- ---- a block that was cut

-- scores: each, or the zero score behind the end
repeated : (m q : ℕ) → q < m → piece 20 q (repeat zero_score m) ≡ zero_score
unfolding repeat
repeated zero q h = absurd (omega arith)
repeated (suc m) zero h =
    ap (λ (n : ℕ). take 20 (drop n (zero_score ++ repeat zero_score m))) (mul-zero 20) ∙ take_at zero_score (repeat zero_score m) 20 length-zero-score
repeated (suc m) (suc q) h =
    let e : 20 * suc q ≡ length zero_score + 20 * q = omega (arith, length-zero-score, mul-suc 20 q) in
    ap (take 20) (ap (λ (n : ℕ). drop n (zero_score ++ repeat zero_score m)) e ∙ drop-append-add zero_score (repeat zero_score m) (20 * q))
    ∙ repeated m q (omega arith)

module _ (kind : ℕ) (b : Bytes) where
  pub cut_short : length (cut_block kind b) ≤ length b
  unfolding cut_block
  cut_short = omega (arith, length-take-le (cut_length (unit_of kind) b) b (cut_le (unit_of kind) b), cut_le (unit_of kind) b)

  module _ (p : is_pointer kind ≡ true) (whole : length b % 20 ≡ 0) where
    u_long : length (unit_of kind) ≡ 20
    u_long = ap length (unit_pointer kind p) ∙ length-zero-score

    abbrev n : ℕ
    n = cut_length (unit_of kind) b

    n-whole : n % 20 ≡ 0
    n-whole = ap (λ (x : ℕ). n % x) (sym u_long) ∙ cut_units (unit_of kind) b

    pub cut_whole : length (cut_block kind b) % 20 ≡ 0
    unfolding cut_block
    cut_whole = ap (λ (x : ℕ). x % 20) (length-take-le n b (cut_le (unit_of kind) b)) ∙ n-whole

    rest : b ≡ take n b ++ repeat zero_score ((length b - n) / 20)
    rest =
        cut_rest (unit_of kind) b (omega (arith, u_long)) (ap (λ (x : ℕ). length b % x) u_long ∙ whole)
        ∙ ap₂ (λ (x : Bytes) (y : ℕ). take n b ++ repeat x ((length b - n) / y)) (unit_pointer kind p) u_long

    pub cut_pointer : (j : ℕ) → 20 * j < length b → pointer (cut_block kind b) j ≡ piece 20 j b
    unfolding cut_block
    cut_pointer j h = go (ltb (20 * j) n) refl
      where
        long : length (take n b) ≡ n
        long = length-take-le n b (cut_le (unit_of kind) b)

        go : (t : Bool) → ltb (20 * j) n ≡ t → pointer (take n b) j ≡ piece 20 j b
        go true q =
            let lt = ltb-true (20 * j) n q in
            sym (pointer-piece (take n b) j (omega (arith, long))) ∙ part_within 20 (20 * j) n b (omega (arith, n-whole))
        go false q =
            let ge = ltb-false (20 * j) n q in
            let c = (length b - n) / 20 in
            let m : 20 * j ≡ length (take n b) + 20 * (j - n / 20) = omega (arith, long, n-whole, times 20 n n-whole) in
            let few : j - n / 20 < c = omega (arith, n-whole, whole, cut_le (unit_of kind) b) in
            sym (pointer-past (take n b) j (omega (arith, long)))
            ∙ sym (ap (piece 20 j) rest
            ∙ ap (take 20) (ap (λ (x : ℕ). drop x (take n b ++ repeat zero_score c)) m ∙ drop-append-add (take n b) (repeat zero_score c) (20 * (j - n / 20)))
            ∙ repeated c (j - n / 20) few)

-- bytes: each, or zero behind the end
pub cut_byte : (b : Bytes) (j : ℕ) → get_or (cut_block 13 b) j 0 ≡ get_or b j 0
unfolding cut_block is_pointer
cut_byte b j = go (ltb j n) refl
  where
    n : ℕ
    n = cut_length (unit_of 13) b

    one : length (unit_of 13) ≡ 1
    one = ap length (unit_other 13 refl)

    long : length (take n b) ≡ n
    long = length-take-le n b (cut_le (unit_of 13) b)

    go : (t : Bool) → ltb j n ≡ t → get_or (take n b) j 0 ≡ get_or b j 0
    go true q = get_or-take n b j 0 (ltb-true j n q)
    go false q =
        let ge = ltb-false j n q in
        let m : j ≡ n + (j - n) = omega arith in
        let k = (length b - n) / length (unit_of 13) in
        let behind : drop n b ≡ replicate k 0 =
        ap (drop n) (cut_rest (unit_of 13) b (omega (arith, one)) (ap (λ (x : ℕ). length b % x) one ∙ mod-one (length b)))
        ∙ drop_at (take n b) (repeat (unit_of 13) k) n long ∙ ap (λ (x : Bytes). repeat x k) (unit_other 13 refl) ∙ repeat-zeros k in
        get_or-eq_default (take n b) 0 (omega (arith, long))
        ∙ sym (ap (λ (x : ℕ). get_or b x 0) m ∙ sym (get_or-drop n b (j - n) 0) ∙ ap (λ (x : Bytes). get_or x (j - n) 0) behind
        ∙ zeros_get_d (replicate k 0) (j - n) (zeros-replicate k))
