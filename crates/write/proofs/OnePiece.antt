-- The part of a buffer that is one piece of it.
use mathlib.Core.Path.{◌≡◌, refl, sym, ap, ◌∙◌}
use mathlib.Core.Bool.{Bool, true, false}
use Prim.Native.Nat.{ℕ, ◌+◌, ◌-◌, ◌*◌, ◌/◌, ◌%◌, ◌≤◌, ◌<◌, min}
use native.Mathlib.Nat.{mul_assoc, mul-le-mul_right}
use native.Mathlib.Omega.{arith}
use lib.Dec.{leb}
use lib.ListN.{length, take, drop, length-take, length-drop}
use lib.Seq.{take_all, drop-drop}
use borrow.Author.Tests.{leb-true, leb-false}
use Rattle.buffer.specs.Bytes.{Bytes}
use Rattle.tree.specs.Tree.{piece}
use Rattle.block.specs.Block.{parts_of}
use Rattle.append.proofs.Images.{part_start}
use Rattle.cut.proofs.Multiples.{times, times_mod}

-- the code's part ends where the piece does, or the bytes
pub part_piece : (w i to : ℕ) (b : Bytes) → to ≡ min (w * i + w) (length b) → take (to - w * i) (drop (w * i) b) ≡ piece w i b
part_piece w i to b e = go (leb (w * i + w) (length b)) refl
  where
    go : (t : Bool) → leb (w * i + w) (length b) ≡ t → take (to - w * i) (drop (w * i) b) ≡ piece w i b
    go true q = let h = leb-true (w * i + w) (length b) q in let f : to - w * i ≡ w = omega arith in ap (λ (n : ℕ). take n (drop (w * i) b)) f
    go false q =
        let h = leb-false (w * i + w) (length b) q in
        take_all (to - w * i) (drop (w * i) b) (omega (arith, length-drop (w * i) b)) ∙ sym (take_all w (drop (w * i) b) (omega (arith, length-drop (w * i) b)))

-- a piece of a buffer of which only bytes before it have changed
pub piece-unchanged : (w i : ℕ) (b b' : Bytes) → 20 ≤ w → drop (20 * i) b' ≡ drop (20 * i) b → piece w i b' ≡ piece w i b
piece-unchanged w i b b' h f =
    let m : 20 * i ≤ w * i = mul-le-mul_right i h in
    let s : w * i ≡ 20 * i + (w * i - 20 * i) = omega arith in
    let back : (x : Bytes) → drop (w * i) x ≡ drop (w * i - 20 * i) (drop (20 * i) x) = λ x. ap (λ (n : ℕ). drop n x) s ∙ sym (drop-drop (w * i - 20 * i) (20 * i) x) in
    ap (take w) (back b' ∙ ap (drop (w * i - 20 * i)) f ∙ sym (back b))

-- whole scores are cut into whole scores
module _ (w i size : ℕ) (hw : w % 20 ≡ 0) (hs : size % 20 ≡ 0) where
  start-whole : (w * i) % 20 ≡ 0
  start-whole = times_mod 20 (w / 20 * i) (w * i) (ap (λ (n : ℕ). n * i) (times 20 w hw) ∙ mul_assoc 20 (w / 20) i)

  pub piece-whole : (b : Bytes) → length b ≡ size → length (piece w i b) % 20 ≡ 0
  piece-whole b e = simp (length-take, length-drop) (omega (arith, start-whole))

  -- and the score of a piece has room before its end
  pub score-room : 20 ≤ w → i < parts_of w size → 20 * i + 20 ≤ size
  score-room h lt = omega (arith, start-whole, part_start w size i (omega arith) lt, mul-le-mul_right i h)
