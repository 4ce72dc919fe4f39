-- The bytes of a leaf that was found, and the refusal where none was.
use mathlib.Core.Path.{◌≡◌, refl, sym, ap, ◌∙◌}
use mathlib.Core.Bool.{Bool, true, false}
use Prim.Native.Nat.{ℕ, ◌+◌, ◌*◌, ◌/◌, ◌%◌, ◌≤◌, ◌<◌}
use native.Mathlib.Nat.{div-add-mod, mul-add-div, mul-add-mod_self_left, mod-eq_of_lt, div-eq_of_lt}
use native.Mathlib.Omega.{arith}
use lib.Dec.{ltb}
use borrow.Author.Tests.{ltb-true, ltb-false}
use lib.ListN.{length, get_or, get_or-eq_default}
use Rattle.buffer.specs.Bytes.{Bytes}
use Rattle.refusal.specs.declared.Refusal.{Refusal}
use Rattle.block.specs.declared.Block.{Block}
use Rattle.block.specs.Block.{Inside}
use Rattle.block.specs.Log.{sectors, bytes_of}
use Rattle.reader.proofs.Pieces.{length-bytes}
use Rattle.entry.specs.declared.Entry.{Entry}
use Rattle.leaf.specs.Leaf.{leaf_run, under}
use Rattle.leaf.specs.Fetch.{run_in}
use Rattle.leaf.proofs.Places.{byte-place}
use Rattle.leaf.proofs.Steps.{leaf_in, leaf-past}
use Rattle.fill.specs.Fill.{byte, refused, byte_of, byte_below}
use Rattle.std.specs.Prelude.{Ok, Err, Result}

sum_front : (x r j o : ℕ) → x + r ≡ o → o + j ≡ x + (r + j)
sum_front x r j o e = omega arith

-- j bytes on, in the same leaf
pub same-leaf : (w o j : ℕ) → 0 < w → o % w + j < w → ((o + j) / w ≡ o / w) × ((o + j) % w ≡ o % w + j)
same-leaf w o j pos h =
    let e : o + j ≡ w * (o / w) + (o % w + j) = sum_front (w * (o / w)) (o % w) j o (div-add-mod o w) in
    let z : o / w + 0 ≡ o / w = omega arith in (
      ap (λ (x : ℕ). x / w) e ∙ mul-add-div pos (o / w) (o % w + j) ∙ ap (λ (x : ℕ). o / w + x) (div-eq_of_lt h) ∙ z,
      ap (λ (x : ℕ). x % w) e ∙ mul-add-mod_self_left w (o / w) (o % w + j) ∙ mod-eq_of_lt h,
    )

-- the first byte of a leaf's run is the leaf's byte there, and zero past its end
first_byte : (log : Bytes) (e : Entry) (o : ℕ) (b : Block) → Inside (sectors (length log)) b
    → byte_of log (leaf_run 1 e o b) ≡ byte (get_or (bytes_of log b) (o % e.dsize) 0)
first_byte log e o b h = go (ltb (o % e.dsize) b.size) refl
  where
    go : (t : Bool) → ltb (o % e.dsize) b.size ≡ t → byte_of log (leaf_run 1 e o b) ≡ byte (get_or (bytes_of log b) (o % e.dsize) 0)
    go true q =
        let lt = ltb-true (o % e.dsize) b.size q in
        ap (byte_of log) (sym (leaf_in 1 e o b lt)) ∙ ap byte (sym (byte-place log b h (o % e.dsize) lt))
    go false q =
        let ge = ltb-false (o % e.dsize) b.size q in
        let past : length (bytes_of log b) ≤ o % e.dsize = omega (arith, length-bytes log b h.1) in
        ap (byte_of log) (sym (leaf-past 1 e o b ge)) ∙ ap byte (sym (get_or-eq_default (bytes_of log b) 0 past))

module _ (log : Bytes) (e : Entry) (top : Bytes) (offset : ℕ) (l : Result Block Refusal)
    (found : (page o : ℕ) → o / e.dsize ≡ offset / e.dsize → run_in page e o l ≡ under log page e o e.depth top) where
  pub leaf-refused : (w : Refusal) → l ≡ Err w → byte_below log e top offset ≡ refused w
  leaf-refused w z = ap (byte_of log) (sym (found 1 offset refl) ∙ ap (run_in 1 e offset) z)

  pub leaf-bytes : (b : Block) → l ≡ Ok b → Inside (sectors (length log)) b → 0 < e.dsize
      → (j : ℕ) → offset % e.dsize + j < e.dsize → byte_below log e top (offset + j) ≡ byte (get_or (bytes_of log b) (offset % e.dsize + j) 0)
  leaf-bytes b z room pos j h =
      let s = same-leaf e.dsize offset j pos h in
      ap (byte_of log) (sym (found 1 (offset + j) s.0) ∙ ap (run_in 1 e (offset + j)) z)
      ∙ first_byte log e (offset + j) b room
      ∙ ap (λ (x : ℕ). byte (get_or (bytes_of log b) x 0)) s.1
