-- Every offset read through the tree of blocks that the writer makes: the slice's byte, and no refusal.
use mathlib.Core.Path.{◌≡◌, refl, sym, ap, ◌∙◌}
use mathlib.Core.Bool.{Bool, true, false}
use mathlib.Core.List.{[]}
use mathlib.Core.Option.{some}
use Prim.Native.Nat.{ℕ, zero, suc, ◌+◌, ◌-◌, ◌*◌, ◌/◌, ◌%◌, ◌^◌, ◌≤◌, ◌<◌, min}
use native.Mathlib.Nat.{mul_assoc, pow-zero, pow-suc, div-one, div-div-eq-div-mul, div-add-mod, mod-lt}
use native.Mathlib.Omega.{arith}
use lib.Dec.{leb, ltb, eqb}
use lib.ListN.{length, take, drop, get_or, length-take, length-drop}
use lib.Seq.{get_or-take, get_or-drop}
use borrow.Author.Tests.{le-leb, eq-eqb}
use Rattle.bedrock.proofs.Choices.{cond_ind, some_same}
use Rattle.buffer.specs.Bytes.{Bytes, same}
use Rattle.buffer.proofs.Bytes.{same_refl}
use Rattle.sha1_digest.specs.Sha1.{sha1_of}
use Rattle.kind.specs.Kind.{lawful, is_pointer, zero_score}
use Rattle.kind.proofs.Types.{pointer-lawful}
use Rattle.block.specs.Block.{Row, parts_of, place_of}
use Rattle.block.proofs.Facts.{part_of}
use Rattle.sector_log.specs.LookUp.{empty_row}
use Rattle.entry.specs.declared.Entry.{Entry}
use Rattle.entry.specs.Entry.{pointers}
use Rattle.tree.specs.Tree.{piece, pointer, type_at}
use Rattle.tree.proofs.Pointers.{pointer-past}
use Rattle.leaf.specs.Leaf.{leaf_run, pointer_index, under}
use Rattle.file_laws.specs.Bytes.{byte_under}
use Rattle.file_laws.proofs.Extents.{Reads}
use Rattle.demands.proofs.Seen.{held-zero}
use Rattle.writer.specs.Blocks.{Typed, cut_block, blocks_from, level, leaves, scores_of, scores_at, width_of}
use Rattle.writer.proofs.Levels.{length-level, pointer_type_lem}
use Rattle.writer.proofs.Cutting.{data_lawful}
use Rattle.writer_laws.specs.Held.{Holds, HoldsAll}
use Rattle.writer_laws.proofs.Scores.{score-of, piece-piece, above_count, cut_short, cut_whole, cut_pointer, cut_byte}

-- block j of a level that is held
pub holds_at : (log : Bytes) (kind w : ℕ) (b : Bytes) (k i j : ℕ) → HoldsAll log (blocks_from kind w b k i) → j < k
    → Holds log (record { kind = kind; bytes = cut_block kind (piece w (i + j) b) })
unfolding blocks_from
holds_at log kind w b zero i j H h = absurd (omega arith)
holds_at log kind w b (suc k) i zero H h =
    let o : i ≡ i + 0 = omega arith in rw (← o) H.0
holds_at log kind w b (suc k) i (suc j) H h =
    let o : suc i + j ≡ i + suc j = omega arith in rw (← o) (holds_at log kind w b k (suc i) j H.1 (omega arith))

-- bytes of the zero score that are held are none
pub zero-empty : (log : Bytes) (x : Typed) → lawful x.kind ≡ true → Holds log x → same (sha1_of x.bytes) zero_score ≡ true → x.bytes ≡ []
zero-empty log x l H z =
    let e : H.0 ≡ empty_row x.kind = some_same H.0 (empty_row x.kind) (sym H.1 ∙ held-zero log x.kind (sha1_of x.bytes) l z) in
    sym H.2 ∙ ap (λ (r : Row). r.bytes) e

pub zero_left : (n : ℕ) → 0 + n ≡ n
zero_left n = omega arith

pub length-take-most : (n : ℕ) (b : Bytes) → length (take n b) ≤ n
length-take-most n b = simp length-take (omega arith)

pub part_length : (w i : ℕ) (b : Bytes) → length (piece w i b) ≡ min w (length b - w * i)
part_length w i b = simp (length-take, length-drop) refl

-- a pointer block of whole scores has the one that leads down
pub split-whole : (p i j x c all n : ℕ) → all ≡ 20 * c → n ≡ min (20 * p) (all - 20 * p * i) → p * i + j ≡ x → j < p → x < c → (n % 20 ≡ 0) × (20 * j < n)
split-whole p i j x c all n ea en ex hj hx = let q : 20 * p * i ≡ 20 * (p * i) = mul_assoc 20 p i in (omega arith, omega arith)

-- "below a zero score all is zero"
below-zero : (log : Bytes) (e : Entry) (o level : ℕ) (s : Bytes) → same s zero_score ≡ true → byte_under log e o level s ≡ some 0
unfolding byte_under
below-zero log e o zero s q = rw q
below-zero log e o (suc d) s q = rw q

-- a leaf's run is an answer
pub leaf-reads : (page : ℕ) (e : Entry) (o : ℕ) (r : Row) → Reads (leaf_run page e o (place_of r))
unfolding leaf_run
leaf-reads page e o r = cond_ind Reads (ltb (o % e.dsize) (length r.bytes)) _ _ (λ _. tt) (λ _. tt)

module _ (log slice : Bytes) (e : Entry) (page : ℕ) (plain : e.directory ≡ false) (dpos : 0 < e.dsize) (wide : 40 ≤ e.psize) where
  abbrev p : ℕ
  p = pointers e

  abbrev w : ℕ
  w = width_of e.psize

  abbrev bottom : Bytes
  bottom = scores_of (leaves e.dsize slice)

  -- how many blocks a level has
  unfoldable pub count : ℕ → ℕ
  count zero = parts_of e.dsize (length slice)
  count (suc k) = parts_of w (20 * count k)

  pub length_at : (k : ℕ) → length (scores_at w bottom k) ≡ 20 * count k
  unfolding scores_at count
  length_at zero = length-level 13 e.dsize slice
  length_at (suc k) = length-level (2 + suc k) w (scores_at w bottom k) ∙ ap (λ (n : ℕ). 20 * parts_of w n) (length_at k)

  -- which block of a level leads to an offset
  abbrev pub index : ℕ → ℕ → ℕ
  index k o = o / e.dsize / p ^ k

  abbrev Answered : ℕ → Bytes → ℕ → Type 0
  Answered k s o = (byte_under log e o k s ≡ some (get_or slice o 0)) × Reads (under log page e o k s)

  module _ (o : ℕ) (inside : o < length slice) where
    leaf_type : type_at e 0 ≡ 13
    unfolding type_at
    leaf_type = rw plain refl

    leaf-byte : get_or (cut_block 13 (piece e.dsize (o / e.dsize) slice)) (o % e.dsize) 0 ≡ get_or slice o 0
    leaf-byte =
        cut_byte (piece e.dsize (o / e.dsize) slice) (o % e.dsize)
        ∙ get_or-take e.dsize (drop (e.dsize * (o / e.dsize)) slice) (o % e.dsize) 0 (mod-lt o dpos)
        ∙ get_or-drop (e.dsize * (o / e.dsize)) slice (o % e.dsize) 0
        ∙ ap (λ (n : ℕ). get_or slice n 0) (div-add-mod o e.dsize)

    at_leaf : (d : Bytes) → get_or d (o % e.dsize) 0 ≡ get_or slice o 0 → length d ≤ e.dsize → Holds log (record { kind = 13; bytes = d })
        → Answered 0 (sha1_of d) o
    unfolding byte_under under
    at_leaf d f short H = go (same (sha1_of d) zero_score) refl
      where
        go : (b : Bool) → same (sha1_of d) zero_score ≡ b → Answered 0 (sha1_of d) o
        go true q =
            let none_left : d ≡ [] = zero-empty log (record { kind = 13; bytes = d }) data_lawful H q in
            (rw q (ap some (sym (ap (λ (x : Bytes). get_or x (o % e.dsize) 0) none_left) ∙ f)), rw q tt)
        go false q =
            let h = H.1 in
            let l : leb (length H.0.bytes) e.dsize ≡ true = le-leb (length H.0.bytes) e.dsize (omega (arith, ap length H.2)) in
            (rw (q, leaf_type, h) (ap some (ap (λ (x : Bytes). get_or x (o % e.dsize) 0) H.2 ∙ f)), rw (q, leaf_type, h, l) (leaf-reads page e o H.0))

    at_level : (k : ℕ) (b : Bytes) → is_pointer (2 + suc k) ≡ true → length b % 20 ≡ 0 → length b ≤ e.psize → 20 * pointer_index e o k < length b
        → Holds log (record { kind = 2 + suc k; bytes = cut_block (2 + suc k) b })
        → Answered k (piece 20 (pointer_index e o k) b) o → Answered (suc k) (sha1_of (cut_block (2 + suc k) b)) o
    unfolding byte_under under
    at_level k b t whole short h H A = go (same (sha1_of d) zero_score) refl
      where
        d : Bytes
        d = cut_block (2 + suc k) b

        j : ℕ
        j = pointer_index e o k

        next-score : pointer (cut_block (2 + suc k) b) (pointer_index e o k) ≡ piece 20 (pointer_index e o k) b
        next-score = cut_pointer (2 + suc k) b t whole (pointer_index e o k) h

        go : (c : Bool) → same (sha1_of (cut_block (2 + suc k) b)) zero_score ≡ c → Answered (suc k) (sha1_of (cut_block (2 + suc k) b)) o
        go true q =
            let none_left : cut_block (2 + suc k) b ≡ [] = zero-empty log (record { kind = 2 + suc k; bytes = cut_block (2 + suc k) b }) (pointer-lawful (2 + suc k) t) H q in
            let z : piece 20 (pointer_index e o k) b ≡ zero_score =
            sym next-score ∙ ap (λ (x : Bytes). pointer x (pointer_index e o k)) none_left ∙ sym (pointer-past [] (pointer_index e o k) (omega arith)) in
            let zero-byte : some 0 ≡ some (get_or slice o 0) =
            sym (below-zero log e o k (piece 20 (pointer_index e o k) b) (ap (λ (x : Bytes). same x zero_score) z ∙ same_refl zero_score)) ∙ A.0 in
            (rw q zero-byte, rw q tt)
        go false q =
            let l : leb (length H.0.bytes) e.psize ≡ true = le-leb (length H.0.bytes) e.psize (omega (arith, ap length H.2, cut_short (2 + suc k) b)) in
            let m : eqb (length H.0.bytes % 20) 0 ≡ true = eq-eqb (length H.0.bytes % 20) 0 (ap (λ (x : Bytes). length x % 20) H.2 ∙ cut_whole (2 + suc k) b t whole) in
            let same_next : piece 20 (pointer_index e o k) b ≡ pointer H.0.bytes (pointer_index e o k) = sym next-score ∙ ap (λ (x : Bytes). pointer x (pointer_index e o k)) (sym H.2) in
            (rw (q, H.1, ← same_next) A.0, rw (q, H.1, l, m, ← same_next) A.1)

  module _ (depth : ℕ) (few : depth ≤ 7) (H : HoldsAll log (leaves e.dsize slice))
      (U : (k : ℕ) → k < depth → HoldsAll log (level (2 + suc k) w (scores_at w bottom k))) (o : ℕ) (inside : o < length slice) where
    -- one level further up
    index-next : (k : ℕ) → index (suc k) o ≡ index k o / p
    index-next k = ap (λ (n : ℕ). o / e.dsize / n) (pow-suc p k) ∙ sym (div-div-eq-div-mul (o / e.dsize) (p ^ k) p)

    pub read_at_lem : (k : ℕ) → k ≤ depth → (index k o < count k) × Answered k (piece 20 (index k o) (scores_at w bottom k)) o
    unfolding scores_at count
    read_at_lem zero h =
        let x : index 0 o ≡ o / e.dsize = ap (λ (n : ℕ). o / e.dsize / n) (pow-zero p) ∙ div-one (o / e.dsize) in
        let lt : o / e.dsize < parts_of e.dsize (length slice) = part_of e.dsize dpos o (length slice) inside in
        let here = piece e.dsize (o / e.dsize) slice in
        let s : piece 20 (o / e.dsize) bottom ≡ sha1_of (cut_block 13 here) =
        score-of 13 e.dsize slice (parts_of e.dsize (length slice)) 0 (o / e.dsize) lt ∙ ap (λ (n : ℕ). sha1_of (cut_block 13 (piece e.dsize n slice))) (zero_left (o / e.dsize)) in
        let held-here = holds_at log 13 e.dsize slice (parts_of e.dsize (length slice)) 0 (o / e.dsize) H lt in
        let held-there : Holds log (record { kind = 13; bytes = cut_block 13 here }) = rw (← zero_left (o / e.dsize)) held-here in
        let short : length (cut_block 13 here) ≤ e.dsize = omega (arith, cut_short 13 here, length-take-most e.dsize (drop (e.dsize * (o / e.dsize)) slice)) in
        rw (x, s) (lt, at_leaf o inside (cut_block 13 here) (leaf-byte o inside) short held-there)
    read_at_lem (suc k) h =
        let below = read_at_lem k (omega arith) in
        let x = index k o in
        let i = x / p in
        let j = x % p in
        let t = 2 + suc k in
        let S = scores_at w bottom k in
        let b = piece w i S in
        let ppos : 0 < p = omega (arith, wide) in
        let lt : i < count (suc k) = above_count p x (count k) ppos below.0 in
        let parts : parts_of w (length S) ≡ parts_of w (20 * count k) = ap (parts_of w) (length_at k) in
        let lt-parts : i < parts_of w (length S) = omega (arith, parts, lt) in
        let is-t : is_pointer t ≡ true = let q : 3 + k ≡ 2 + suc k = omega arith in sym (ap is_pointer q) ∙ pointer_type_lem k (omega arith) in
        let s : piece 20 i (scores_of (level t w S)) ≡ sha1_of (cut_block t b) =
        score-of t w S (parts_of w (length S)) 0 i lt-parts ∙ ap (λ (n : ℕ). sha1_of (cut_block t (piece w n S))) (zero_left i) in
        let held-here = holds_at log t w S (parts_of w (length S)) 0 i (U k (omega arith)) lt-parts in
        let held-there : Holds log (record { kind = t; bytes = cut_block t b }) = rw (← zero_left i) held-here in
        let whole = split-whole p i j x (count k) (length S) (length b) (length_at k) (part_length w i S) (div-add-mod x p) (mod-lt x ppos) below.0 in
        let down : piece 20 j b ≡ piece 20 x S = piece-piece p i j S (mod-lt x ppos) ∙ ap (λ (n : ℕ). piece 20 n S) (div-add-mod x p) in
        let short : length b ≤ e.psize = omega (arith, length-take-most w (drop (w * i) S)) in
        let A : Answered k (piece 20 j b) o = rw down below.1 in
        rw (index-next k, s) (lt, at_level o inside k b is-t whole.0 short whole.1 held-there A)
