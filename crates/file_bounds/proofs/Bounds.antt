-- What locating a file's bytes gives is small: a start within the longest log and waiting part, a length of at most 57,344, a sector of theirs.
use mathlib.Core.Bool.{Bool, true}
use mathlib.Core.Path.{◌≡◌, refl, sym, ◌∙◌}
use Prim.Native.Nat.{ℕ, ◌-◌, ◌*◌, ◌%◌, ◌≤◌, ◌<◌, min}
use native.Mathlib.Nat.{min-le_left, min-le_right, mod-lt}
use native.Mathlib.Omega.{arith}
use lib.Dec.{ltb}
use borrow.Author.Tests.{ltb-true}
use lib.ListN.{length}
use Rattle.bedrock.proofs.Choices.{cond_ind}
use Rattle.buffer.specs.Bytes.{Bytes}
use Rattle.refusal.specs.Number.{told_sector}
use Rattle.refusal.specs.declared.Refusal.{Refusal}
use Rattle.kind.specs.Kind.{longest}
use Rattle.block.specs.Block.{Row, place_of, Inside}
use Rattle.block.specs.declared.Block.{Block}
use Rattle.block.specs.Log.{sectors, used}
use Rattle.sector_log.specs.LookUp.{lent_allowed}
use Rattle.sector_log.specs.Parts.{tape}
use Rattle.lookup.proofs.Held.{Stands}
use Rattle.entry.specs.declared.Entry.{Entry}
use Rattle.entry.specs.Entry.{entry_of, score_of}
use Rattle.file.specs.declared.Located.{Located}
use Rattle.file.specs.declared.Located.TheVariants.{Stored, Waiting, Zeros}
use Rattle.leaf.specs.declared.Extent.{Extent}
use Rattle.leaf.specs.declared.Extent.TheVariants as ext
use Rattle.leaf.specs.Leaf.{zero_run, stored_run, payload_in, place_in, leaf_run, under}
use Rattle.file.specs.File.{page_allowed, entry_readable, extent_at, split, located}
use Rattle.leaf.proofs.Under.{under_ind}
use Rattle.block.proofs.Facts.{part_of}
use Rattle.file.proofs.Tests.{opened}
use Rattle.results.specs.Sizes.{most_both}
use Rattle.results.proofs.Doubts.{absence-told, both_few}
use Rattle.std.specs.Prelude.{Ok, Err, Result}

abbrev pub SmallIn : Result Extent Refusal → Type 0
SmallIn (Ok (ext.Stored at n)) = (at < 512 * most_both) × (n ≤ longest)
SmallIn (Ok (ext.Zeros n)) = n ≤ longest
SmallIn (Err w) = told_sector w ≤ most_both

abbrev pub Small : Result Located Refusal → Type 0
Small (Ok (Stored at n)) = (at < 512 * most_both) × (n ≤ longest)
Small (Ok (Waiting at n)) = (at < 512 * most_both) × (n ≤ longest)
Small (Ok (Zeros n)) = n ≤ longest
Small (Err w) = told_sector w ≤ most_both

place-small : (l k : ℕ) (b : Block) → sectors l ≤ most_both → Inside (sectors l) b → k < b.size → place_in b k < 512 * most_both
place-small l k b h r g =
    let pos : 0 < payload_in b = omega (arith, r.1) in
    omega (arith, part_of (payload_in b) pos k b.size g, mod-lt k pos, r.0, r.1)

module _ (log : Bytes) (page : ℕ) (e : Entry) (offset : ℕ) (h : sectors (length log) ≤ most_both) (d : e.dsize ≤ longest) where
  zero-small : SmallIn (zero_run page e offset)
  zero-small =
      let b = e.dsize - offset % e.dsize in
      let c = e.size - offset in
      omega (arith, min-le_right page (min b c), min-le_left b c)

  stored-small : (r : Row) → Stands log r → offset % e.dsize < length r.bytes → SmallIn (stored_run e offset (place_of r))
  stored-small r P g =
      let k = offset % e.dsize in (
        place-small (length log) k (place_of r) h P.within g,
        omega (arith, min-le_left (payload_in (place_of r) - k % payload_in (place_of r)) (min (length r.bytes - k) (e.size - offset))),
      )

  leaf-small : (r : Row) → Stands log r → SmallIn (leaf_run page e offset (place_of r))
  unfolding leaf_run
  leaf-small r P =
      cond_ind SmallIn (ltb (offset % e.dsize) (length r.bytes)) _ _
      (λ q. stored-small r P (ltb-true (offset % e.dsize) (length r.bytes) q)) (λ _. zero-small)

  under-small : (level : ℕ) (s : Bytes) → SmallIn (under log page e offset level s)
  under-small = under_ind log page e offset SmallIn (absence-told most_both log h) (omega arith) (omega arith) zero-small leaf-small

extent-small : (lent : Bool) (log page b : Bytes) (offset : ℕ) → (lent ≡ true → sectors (length log) ≤ most_both) → SmallIn (extent_at lent log page b offset)
unfolding extent_at
extent-small lent log page b offset few =
    cond_ind SmallIn lent _ _
    (λ p. cond_ind SmallIn (page_allowed page) _ _
    (λ _. cond_ind SmallIn (entry_readable b) _ _
    (λ q. cond_ind SmallIn (ltb offset (entry_of b).size) _ _
    (λ o. let w = opened b (entry_of b) offset _ refl q refl (ltb-true offset (entry_of b).size o) in
    under-small log (length page) (entry_of b) offset (few p) w.dsize-to (entry_of b).depth (score_of b))
    (λ _. omega arith))
    (λ _. omega arith))
    (λ _. omega arith))
    (λ _. omega arith)

split-small : (u : ℕ) (x : Result Extent Refusal) → SmallIn x → Small (split u x)
split-small u (Ok (ext.Stored at n)) h = cond_ind Small (ltb at u) _ _ (λ _. h) (λ _. (omega (arith, h.0), h.1))
split-small u (Ok (ext.Zeros n)) h = h
split-small u (Err w) h = h

pub located-small : (log waiting page b : Bytes) (offset : ℕ) → Small (located log waiting page b offset)
unfolding located
located-small log waiting page b offset =
    split-small (512 * used log) (extent_at (lent_allowed (length log) (length waiting)) (tape log waiting) page b offset)
    (extent-small (lent_allowed (length log) (length waiting)) (tape log waiting) page b offset (both_few log waiting))

-- of the code's answer
module _ (log waiting page b : Bytes) (offset : ℕ) (w : Result Located Refusal) (e : w ≡ located log waiting page b offset) where
  pub stored-within : (at n : ℕ) → w ≡ Ok (Stored at n) → (at < 512 * most_both) × (n ≤ longest)
  stored-within at n q = rw (sym e ∙ q) at (located-small log waiting page b offset)

  pub waiting-within : (at n : ℕ) → w ≡ Ok (Waiting at n) → (at < 512 * most_both) × (n ≤ longest)
  waiting-within at n q = rw (sym e ∙ q) at (located-small log waiting page b offset)

  pub zeros_within : (n : ℕ) → w ≡ Ok (Zeros n) → n ≤ longest
  zeros_within n q = rw (sym e ∙ q) at (located-small log waiting page b offset)

  pub refused-within : (r : Refusal) → w ≡ Err r → told_sector r ≤ most_both
  refused-within r q = rw (sym e ∙ q) at (located-small log waiting page b offset)
