-- One level of the tree, case by case: what the code does there makes what the definition says.
use mathlib.Core.Path.{◌≡◌, refl, sym, ap, ap₂, ◌∙◌}
use mathlib.Core.Bool.{Bool, true, false, cond}
use mathlib.Core.Option.{some}
use Prim.Native.Nat.{ℕ, suc, ◌+◌, ◌%◌, ◌<◌}
use native.Mathlib.Omega.{arith}
use lib.Dec.{eqb}
use borrow.Author.Tests.{le-leb, eq-eqb, ne_eqb}
use lib.ListN.{length}
use Rattle.buffer.specs.Bytes.{Bytes, same}
use Rattle.kind.specs.Kind.{lawful, zero_score}
use Rattle.refusal.specs.declared.Refusal.{Refusal}
use Rattle.refusal.specs.declared.Refusal.TheVariants as why
use Rattle.block.specs.declared.Block.{Block}
use Rattle.block.specs.Block.{Row, place_of, Inside}
use Rattle.block.specs.Log.{sectors, bytes_of}
use Rattle.sector_log.specs.LookUp.{empty_row, held, look_up, counted}
use Rattle.sector_log.proofs.Counted.{counted-found}
use Rattle.lookup.proofs.Held.{found_within, found-size, found-bytes, look_found}
use Rattle.entry.specs.declared.Entry.{Entry}
use Rattle.reader.proofs.Pieces.{length-bytes}
use Rattle.tree.proofs.Pointers.{length-pointer}
use Rattle.leaf.specs.declared.Extent.{Extent}
use Rattle.tree.specs.Tree.{pointer, type_at, count_at}
use Rattle.leaf.specs.Leaf.{leaf_run, fetched, pointer_index, under}
use Rattle.leaf.specs.Fetch.{LiesIn, run_in}
use Rattle.way_down.proofs.Counted.{Fetched, fetched-refused, fetched-found}
use Rattle.leaf.proofs.Steps.{leaf-past, under-zero}
use Rattle.std.specs.Prelude.{Ok, Err, Result}

-- ---- a block that a look-up with a count found

module _ (log : Bytes) (t : ℕ) (s : Bytes) (count : ℕ) (l : Result Block Refusal) (el : l ≡ counted count (look_up log t s)) (n : ℕ) (h : sectors (length log) ≡ n) where
  pub found-room : (b : Block) → l ≡ Ok b → Inside n b
  found-room b q = found_within (look_found log t s b (counted-found count (look_up log t s) b (sym el ∙ q)).0) n h

  -- a look-up ends within the log
  pub look_room : LiesIn n l
  look_room = go l refl
    where
      go : (x : Result Block Refusal) → l ≡ x → LiesIn n x
      go (Err w) z = tt
      go (Ok b) z = found-room b z

-- a score of the block
pub next-score : (log : Bytes) (b : Block) (i : ℕ) (s : Bytes) → b.label < 499 → s ≡ pointer (bytes_of log b) i → b.size % 20 ≡ 0 → length s ≡ 20
next-score log b i s short e h = length-pointer (bytes_of log b) i s e (ap (λ (x : ℕ). x % 20) (length-bytes log b short) ∙ h)

-- ---- below a score

lawful-leaf : (e : Entry) → lawful (type_at e 0) ≡ true
unfolding lawful type_at
lawful-leaf e = go e.directory
  where
    go : (b : Bool) → lawful (cond b 2 13) ≡ true
    go true = refl
    go false = refl

held-empty : (log : Bytes) (t : ℕ) (s : Bytes) → lawful t ≡ true → same s zero_score ≡ true → held log t s ≡ some (empty_row t)
unfolding held
held-empty log t s p q = rw (p, q)

module _ (log : Bytes) (page : ℕ) (e : Entry) (offset : ℕ) where
  -- a zero score: the leaf is the empty block
  pub under-empty : (level : ℕ) (s : Bytes) (t : Bool) (b : Block) → b.size ≡ 0 → t ≡ same s zero_score → t ≡ true → leaf_run page e offset b ≡ under log page e offset level s
  under-empty level s t b z p q = sym (leaf-past page e offset b (omega arith)) ∙ under-zero log page e offset level s t p q

  -- the leaf
  module _ (s : Bytes) (t : ℕ) (et : t ≡ type_at e 0) (l : Result Block Refusal) (el : l ≡ counted e.dsize (look_up log t s)) where
    leaf-run : Row → Result Extent Refusal
    leaf-run r = leaf_run page e offset (place_of r)

    leaf_looked : run_in page e offset l ≡ fetched log t s e.dsize leaf-run
    unfolding leaf-run
    leaf_looked = go l refl
      where
        go : (x : Result Block Refusal) → l ≡ x → run_in page e offset x ≡ fetched log t s e.dsize leaf-run
        go (Err y) z = fetched-refused log t s e.dsize leaf-run y (sym z ∙ el)
        go (Ok b) z =
            let F = fetched-found log t s e.dsize b (sym z ∙ el) in
            ap (leaf_run page e offset) F.found.place-of-row ∙ F.goes_on leaf-run

    -- the zero score's block is the empty one, whose run is of zeros
    leaf-zero : (b : Bool) → same s zero_score ≡ b → fetched log t s e.dsize leaf-run ≡ under log page e offset 0 s
    unfolding under leaf-run
    leaf-zero false q = rw (q, et) refl
    leaf-zero true q =
        let h : held log t s ≡ some (empty_row t) = held-empty log t s (ap lawful et ∙ lawful-leaf e) q in
        rw (h, le-leb 0 e.dsize (omega arith)) (under-empty 0 s true (place_of (empty_row t)) refl (sym q) refl)

    pub leaf_looked_up : run_in page e offset l ≡ under log page e offset 0 s
    leaf_looked_up = leaf_looked ∙ leaf-zero (same s zero_score) refl

  -- a level above it
  module _ (level d : ℕ) (le : level ≡ suc d) (s : Bytes) (b : Bool) (p : b ≡ same s zero_score) (q : b ≡ false) (t : ℕ) (et : t ≡ type_at e level)
      (n : ℕ) (en : n ≡ count_at e level) (l : Result Block Refusal) (looked : l ≡ counted n (look_up log t s)) where
    -- above the leaves the type is a pointer block's, and the count psize
    above : eqb level 0 ≡ false
    above = ne_eqb level 0 (λ z. omega (arith, le, z))

    type_above : type_at e level ≡ 2 + level
    unfolding type_at
    type_above = rw above refl

    count_above : count_at e level ≡ e.psize
    unfolding count_at
    count_above = rw above refl

    el : l ≡ counted e.psize (look_up log (2 + level) s)
    el = looked ∙ ap₂ (λ (x y : ℕ). counted x (look_up log y s)) (en ∙ count_above) (et ∙ type_above)

    below : Row → Result Extent Refusal
    below r = cond (eqb (length r.bytes % 20) 0) (under log page e offset d (pointer r.bytes (pointer_index e offset d))) (Err why.Pointers)

    level-opened : fetched log (2 + level) s e.psize below ≡ under log page e offset level s
    unfolding under below
    level-opened = ap (λ (x : ℕ). fetched log (2 + x) s e.psize below) le ∙ sym (ap (λ (x : ℕ). under log page e offset x s) le ∙ rw (sym p ∙ q) refl)

    pub level-refused : (y : Refusal) → l ≡ Err y → run_in page e offset l ≡ under log page e offset level s
    level-refused y z = ap (run_in page e offset) z ∙ fetched-refused log (2 + level) s e.psize below y (sym z ∙ el) ∙ level-opened

    module _ (g : Block) (z : l ≡ Ok g) where
      F : Fetched log (2 + level) s e.psize g
      F = fetched-found log (2 + level) s e.psize g (sym z ∙ el)

      abbrev bytes : Bytes
      bytes = F.found.row.bytes

      size : length bytes ≡ g.size
      size = sym (found-size F.found)

      pub level-ragged : (g.size % 20 ≡ 0 → ⊥) → Err why.Pointers ≡ under log page e offset level s
      unfolding below
      level-ragged h =
          let k : length bytes % 20 ≡ 0 → ⊥ = λ x. h (rw size at x) in
          sym (rw (ne_eqb (length bytes % 20) 0 k) refl) ∙ F.goes_on below ∙ level-opened

      pub level-next : (i : ℕ) (next : Bytes) → g.size % 20 ≡ 0 → i ≡ pointer_index e offset d → next ≡ pointer (bytes_of log g) i
          → under log page e offset d next ≡ under log page e offset level s
      unfolding below
      level-next i next h ei en =
          let k : length bytes % 20 ≡ 0 = ap (λ (x : ℕ). x % 20) size ∙ h in
          ap (under log page e offset d) (en ∙ ap₂ pointer (sym (found-bytes F.found)) ei)
          ∙ sym (rw (eq-eqb (length bytes % 20) 0 k) refl) ∙ F.goes_on below ∙ level-opened
