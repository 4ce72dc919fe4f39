-- What an answer is: zeros, or bytes of a leaf that is held; and what the file's bytes are there.
use mathlib.Core.Path.{◌≡◌, refl, sym, ap, ◌∙◌}
use mathlib.Core.Bool.{Bool, true, false}
use mathlib.Core.Option.{Option, some}
use Prim.Native.Nat.{ℕ, zero, suc, ◌+◌, ◌/◌, ◌%◌, ◌^◌, ◌≤◌, ◌<◌, min}
use native.Mathlib.Omega.{arith}
use lib.Dec.{leb, ltb, eqb}
use borrow.Author.Tests.{leb-true, ltb-true, ltb-false}
use lib.ListN.{length, get_or, get_or-eq_default}
use Rattle.buffer.specs.Bytes.{Bytes, same}
use Rattle.kind.specs.Kind.{zero_score}
use Rattle.refusal.specs.declared.Refusal.TheVariants as why
use Rattle.block.specs.Block.{Row, place_of}
use Rattle.sector_log.specs.LookUp.{held}
use Rattle.entry.specs.declared.Entry.{Entry}
use Rattle.entry.specs.Entry.{entry_of, score_of, pointers}
use Rattle.leaf.specs.declared.Extent.{Extent}
use Rattle.tree.specs.Tree.{pointer, type_at}
use Rattle.leaf.specs.Leaf.{zero_run, stored_run, leaf_run, pointer_index, under}
use Rattle.file.specs.File.{page_allowed, entry_readable, extent_at}
use Rattle.leaf.specs.Fetch.{Open}
use Rattle.file_laws.specs.Bytes.{byte_under}
use Rattle.leaf.proofs.Steps.{leaf_in, leaf-past, under-zero}
use Rattle.file.proofs.Tests.{opened, goes_down}
use Rattle.file_laws.proofs.Extents.{Reads}
use Rattle.file_laws.proofs.Missing.{tested, passed, looked, held_if}
use Rattle.std.specs.Prelude.{Result}
use Rattle.refusal.specs.declared.Refusal.{Refusal}

-- ---- the least of three

pub least_pos : (a b c : ℕ) → 0 < a → 0 < b → 0 < c → 0 < min a (min b c)
least_pos a b c p q r = omega arith

pub least-below : (a b c : ℕ) → (min a (min b c) ≤ a) × (min a (min b c) ≤ b) × (min a (min b c) ≤ c)
least-below a b c = (omega arith, omega arith, omega arith)

-- ---- the tests before the tree

pub record Through (lent : Bool) (log page entry : Bytes) (offset : ℕ) : Type 0 where
  pub zeros : page_allowed page ≡ true
  pub bounds : Open (entry_of entry) offset
  pub goes_down_to : under log (length page) (entry_of entry) offset (entry_of entry).depth (score_of entry) ≡ extent_at lent log page entry offset

pub through : (lent : Bool) (log page entry : Bytes) (offset : ℕ) → Reads (extent_at lent log page entry offset) → Through lent log page entry offset
unfolding extent_at
through lent log page entry offset a =
    let b = passed (lent) _ why.LogLength a in
    let c = passed (page_allowed page) _ why.Page b in
    let d = passed (entry_readable entry) _ why.Entry c in
    let l = tested (lent) _ why.LogLength a in
    let p = tested (page_allowed page) _ why.Page b in
    let r = tested (entry_readable entry) _ why.Entry c in
    let o = ltb-true offset (entry_of entry).size (tested (ltb offset (entry_of entry).size) _ why.Offset d) in
    record {
      zeros = p;
      bounds = opened entry (entry_of entry) offset true (sym r) refl refl o;
      goes_down_to = goes_down lent log page entry offset true (sym l) refl true (sym p) refl true (sym r) refl (entry_of entry) refl o;
    }

-- ---- the tree

-- o is in the leaf of the offset, there or further on
abbrev pub Onward : Entry → ℕ → ℕ → Type 0
Onward e offset o = (o / e.dsize ≡ offset / e.dsize) × (offset % e.dsize ≤ o % e.dsize)

-- an answer x, where `byte` gives the file's bytes
pub data Run (log : Bytes) (page : ℕ) (e : Entry) (offset : ℕ) (byte : ℕ → Option ℕ) (x : Result Extent Refusal) : Type 0 where
  nothing : x ≡ zero_run page e offset → ((o : ℕ) → Onward e offset o → byte o ≡ some 0) → Run log page e offset byte x
  block : (t : ℕ) (s : Bytes) (r : Row) → held log t s ≡ some r → offset % e.dsize < length r.bytes → length r.bytes ≤ e.dsize
      → x ≡ stored_run e offset (place_of r) → ((o : ℕ) → Onward e offset o → byte o ≡ some (get_or r.bytes (o % e.dsize) 0))
      → Run log page e offset byte x

module _ (log : Bytes) (page : ℕ) (e : Entry) (offset : ℕ) where
  -- the same run, by other names
  rename : (f g : ℕ → Option ℕ) (x y : Result Extent Refusal) → y ≡ x → ((o : ℕ) → Onward e offset o → g o ≡ f o) → Run log page e offset f x → Run log page e offset g y
  rename f g x y p q (nothing a b) = nothing (p ∙ a) (λ o h. q o h ∙ b o h)
  rename f g x y p q (block t s r a k m b c) = block t s r a k m (p ∙ b) (λ o h. q o h ∙ c o h)

  pub below-zero : (level : ℕ) (s : Bytes) (o : ℕ) → same s zero_score ≡ true → byte_under log e o level s ≡ some 0
  unfolding byte_under
  below-zero zero s o q = rw q
  below-zero (suc d) s o q = rw q

  zero-run : (level : ℕ) (s : Bytes) → same s zero_score ≡ true → Run log page e offset (λ o. byte_under log e o level s) (under log page e offset level s)
  zero-run level s q = nothing (sym (under-zero log page e offset level s true (sym q) refl)) (λ o h. below-zero level s o q)

  leaf-run : (t : ℕ) (s : Bytes) (r : Row) → held log t s ≡ some r → length r.bytes ≤ e.dsize
      → Run log page e offset (λ o. some (get_or r.bytes (o % e.dsize) 0)) (leaf_run page e offset (place_of r))
  leaf-run t s r h k = go (ltb (offset % e.dsize) (length r.bytes)) refl
    where
      go : (b : Bool) → ltb (offset % e.dsize) (length r.bytes) ≡ b
          → Run log page e offset (λ o. some (get_or r.bytes (o % e.dsize) 0)) (leaf_run page e offset (place_of r))
      go true q =
          let lt = ltb-true (offset % e.dsize) (length r.bytes) q in
          block t s r h lt k (sym (leaf_in page e offset (place_of r) lt)) (λ o g. refl)
      go false q =
          let le = ltb-false (offset % e.dsize) (length r.bytes) q in
          nothing (sym (leaf-past page e offset (place_of r) le))
          (λ o g. let past : length r.bytes ≤ o % e.dsize = omega (arith, g.1) in ap (λ (x : ℕ). some x) (get_or-eq_default r.bytes 0 past))

  -- one level, where the score is not zero and its block is held
  module _ (s : Bytes) (q : same s zero_score ≡ false) (r : Row) where
    pub leaf-is : held log (type_at e 0) s ≡ some r → leb (length r.bytes) e.dsize ≡ true → under log page e offset 0 s ≡ leaf_run page e offset (place_of r)
    unfolding under
    leaf-is h k = rw (q, h, k)

    pub leaf-byte : held log (type_at e 0) s ≡ some r → (o : ℕ) → byte_under log e o 0 s ≡ some (get_or r.bytes (o % e.dsize) 0)
    unfolding byte_under
    leaf-byte h o = rw (q, h)

    pub level-is : (d : ℕ) → held log (2 + suc d) s ≡ some r → leb (length r.bytes) e.psize ≡ true → eqb (length r.bytes % 20) 0 ≡ true
        → under log page e offset (suc d) s ≡ under log page e offset d (pointer r.bytes (pointer_index e offset d))
    unfolding under
    level-is d h k w = rw (q, h, k, w)

    pub level-byte : (d : ℕ) → held log (2 + suc d) s ≡ some r → (o : ℕ) → o / e.dsize ≡ offset / e.dsize
        → byte_under log e o (suc d) s ≡ byte_under log e o d (pointer r.bytes (pointer_index e offset d))
    unfolding byte_under
    level-byte d h o g = rw (q, h) (ap (λ (n : ℕ). byte_under log e o d (pointer r.bytes (n / pointers e ^ d % pointers e))) g)

  pub under-run : (level : ℕ) (s : Bytes) → Reads (under log page e offset level s)
      → Run log page e offset (λ o. byte_under log e o level s) (under log page e offset level s)
  unfolding under
  under-run zero s a = go (same s zero_score) refl
    where
      go : (b : Bool) → same s zero_score ≡ b → Run log page e offset (λ o. byte_under log e o 0 s) (under log page e offset 0 s)
      go true q = zero-run 0 s q
      go false q =
          let h = held_if log (type_at e 0) s e.dsize (λ (r : Row). leaf_run page e offset (place_of r)) (looked (same s zero_score) (zero_run page e offset) _ q a) in
          rename _ _ _ _ (leaf-is s q h.0 h.1 h.3) (λ o g. leaf-byte s q h.0 h.1 o)
          (leaf-run (type_at e 0) s h.0 h.1 (leb-true (length h.0.bytes) e.dsize h.3))
  under-run (suc d) s a = go (same s zero_score) refl (under-run d)
    where
      go : (b : Bool) → same s zero_score ≡ b
          → ((s' : Bytes) → Reads (under log page e offset d s') → Run log page e offset (λ o. byte_under log e o d s') (under log page e offset d s'))
          → Run log page e offset (λ o. byte_under log e o (suc d) s) (under log page e offset (suc d) s)
      go true q f = zero-run (suc d) s q
      go false q f =
          let h = held_if log (2 + suc d) s e.psize _ (looked (same s zero_score) (zero_run page e offset) _ q a) in
          let whole = tested (eqb (length h.0.bytes % 20) 0) _ why.Pointers h.2 in
          let down = passed (eqb (length h.0.bytes % 20) 0) _ why.Pointers h.2 in
          rename _ _ _ _ (level-is s q h.0 d h.1 h.3 whole) (λ o g. level-byte s q h.0 d h.1 o g.0) (f _ down)
