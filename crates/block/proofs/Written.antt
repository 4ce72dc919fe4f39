-- A log with a row written: its length, and each of its sectors.
use mathlib.Core.Path.{◌≡◌, refl, sym, ap, ◌∙◌}
use mathlib.Core.Bool.{Bool, true, false, cond, ◌&&◌}
use mathlib.Core.List.{◌++◌}
use mathlib.Core.Logic.{◌⊎◌, inl, inr}
use Prim.Native.Nat.{ℕ, zero, suc, ◌+◌, ◌-◌, ◌*◌, ◌≤◌, ◌<◌}
use native.Mathlib.Omega.{arith}
use lib.Dec.{leb, ltb}
use borrow.Author.Tests.{leb-true, leb-false, ltb-true, ltb-false}
use lib.ListN.{length, take, drop, length-append, length-take, length-drop, take-append-drop}
use lib.Seq.{take_at, length-take-le, drop-drop}
use Rattle.buffer.specs.Bytes.{Bytes}
use Rattle.block.specs.Block.{Row, parts, image, images, written, valid}
use Rattle.block.specs.Log.{sectors, at}
use Rattle.block.proofs.At.{piece, piece_skip, at_middle, at_aside}
use Rattle.block.proofs.Facts.{label-bounds, score-length}
use Rattle.block.proofs.Image.{length-images, image-length}
use Rattle.block.specs.Promises.{WritesItsSectors}

-- images as sectors
module _ (r : Row) (v : valid r ≡ true) where
  pub images-piece : (k i j : ℕ) → j < k → piece (images r k i) j ≡ image r (i + j)
  unfolding images
  images-piece zero i j g = absurd (omega arith)
  images-piece (suc k) i zero g =
      let n : i ≡ i + 0 = omega arith in
      take_at (image r i) (images r k (suc i)) 512 (image-length r i v) ∙ ap (image r) n
  images-piece (suc k) i (suc j) g =
      let n : suc i + j ≡ i + suc j = omega arith in
      let m : suc j - 1 ≡ j = omega arith in
      piece_skip (image r i) (images r k (suc i)) 1 (suc j) (image-length r i v) (omega arith)
      ∙ ap (piece (images r k (suc i))) m ∙ images-piece k (suc i) j (omega arith) ∙ ap (image r) n

module _ (log : Bytes) (r : Row) (v : valid r ≡ true) (room : r.first + parts r ≤ sectors (length log)) where
  front : Bytes
  front = take (512 * r.first) log

  old : Bytes
  old = take (512 * parts r) (drop (512 * r.first) log)

  back : Bytes
  back = drop (512 * (r.first + parts r)) log

  new : Bytes
  new = images r (parts r) 0

  length_front : length front ≡ 512 * r.first
  unfolding front
  length_front = length-take-le (512 * r.first) log (omega arith)

  length_old : length old ≡ 512 * parts r
  unfolding old
  length_old = simp (length-take, length-drop) (omega arith)

  length-new : length new ≡ 512 * parts r
  unfolding new
  length-new = length-images r (score-length r v) (omega (arith, label-bounds r v)) (parts r) 0

  three : log ≡ front ++ (old ++ back)
  unfolding front old back
  three =
      let n : 512 * r.first + 512 * parts r ≡ 512 * (r.first + parts r) = omega arith in
      sym (take-append-drop (512 * r.first) log)
      ∙ ap (λ (x : Bytes). front ++ x) (sym (take-append-drop (512 * parts r) (drop (512 * r.first) log))
      ∙ ap (λ (x : Bytes). old ++ x) (drop-drop (512 * parts r) (512 * r.first) log ∙ ap (λ (x : ℕ). drop x log) n))

  pub length-written : length (written log r) ≡ length log
  unfolding written front back new
  length-written = omega (arith, length-append front (new ++ back), length-append new back, length-new, ap length three, length-append front (old ++ back), length-append old back, length_old)

  pub at-written : (n : ℕ) → at (written log r) n ≡ cond (leb r.first n && ltb n (r.first + parts r)) (image r (n - r.first)) (at log n)
  unfolding written front back new
  at-written n = go (leb r.first n) (ltb n (r.first + parts r)) refl refl
    where
      aside : (n < r.first) ⊎ (r.first + parts r ≤ n) → at (front ++ (new ++ back)) n ≡ at log n
      aside h = at_aside front new old back r.first (parts r) n length_front length-new length_old h ∙ ap (λ (x : Bytes). at x n) (sym three)

      go : (a b : Bool) → leb r.first n ≡ a → ltb n (r.first + parts r) ≡ b
          → at (front ++ (new ++ back)) n ≡ cond (leb r.first n && ltb n (r.first + parts r)) (image r (n - r.first)) (at log n)
      go false b p q = rw p (aside (inl (leb-false r.first n p)))
      go true false p q = rw (p, q) (aside (inr (ltb-false n (r.first + parts r) q)))
      go true true p q =
          let h : r.first ≤ n = leb-true r.first n p in
          let g : n < r.first + parts r = ltb-true n (r.first + parts r) q in
          let z : 0 + (n - r.first) ≡ n - r.first = omega arith in
          rw (p, q) (at_middle front new back r.first (parts r) n length_front length-new h g
          ∙ images-piece r v (parts r) 0 (n - r.first) (omega arith) ∙ ap (image r) z)

pub writes_its_sectors : WritesItsSectors
writes_its_sectors log r v room = (length-written log r v room, at-written log r v room)
