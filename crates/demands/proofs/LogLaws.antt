-- Laws of a log of bytes that the ledger's theorem asks for: growth, a block's sectors are inside.
use mathlib.Core.Path.{◌≡◌, refl, sym, ap, ◌∙◌}
use mathlib.Core.Bool.{Bool, true, false, cond}
use mathlib.Core.Option.{some}
use Prim.Native.Nat.{ℕ, ◌+◌, ◌-◌, ◌*◌, ◌%◌, ◌<◌}
use native.Mathlib.Nat.{le_antisymm}
use native.Mathlib.Omega.{arith}
use lib.Dec.{ltb, eqb}
use lib.ListN.{length, replicate, length-append, length-replicate}
use borrow.Author.Tests.{ltb-true, ltb-false, eqb-true}
use Rattle.buffer.specs.Bytes.{Bytes, zeros}
use Rattle.sector.specs.Sector.{blank}
use Rattle.block.specs.Block.{Row, parts, image, valid}
use Rattle.block.specs.Log.{sectors, at, used, sound}
use Rattle.block.proofs.At.{piece-front, piece_skip, at_piece, at-past, at-void}
use Rattle.block.proofs.Used.{lt_used, used_le, used_le_sectors, blank-past, at-beyond}
use Rattle.block.proofs.Facts.{parts_pos}
use Rattle.block.proofs.Image.{image-used}
use Rattle.block.proofs.Sound as sounds
use Rattle.demands.specs.Instance.{grown}

-- a block's sectors are not blank, so that they are inside
pub sound_finds : (log : Bytes) (r : Row) → valid r ≡ true → ((k : ℕ) → k < parts r → at log (r.first + k) ≡ image r k) → sound log r.first ≡ some r
sound_finds log r v f =
    let p : 0 < parts r = parts_pos r v in
    let last : r.first + (parts r - 1) < used log = lt_used log (r.first + (parts r - 1)) (ap zeros (f (parts r - 1) (omega arith)) ∙ image-used r (parts r - 1)) in
    sounds.sound_finds log r v (omega (arith, last, used_le_sectors log)) f

pub length-grown : (k : ℕ) (log : Bytes) → length (grown k log) ≡ length log + 512 * k
unfolding grown
length-grown k log = length-append log (replicate (512 * k) 0) ∙ ap (λ (n : ℕ). length log + n) (length-replicate {A = ℕ} (512 * k) 0)

pub at-grown : (k : ℕ) (log : Bytes) (n : ℕ) → eqb (length log % 512) 0 ≡ true → at (grown k log) n ≡ at log n
unfolding grown
at-grown k log n whole = go (ltb n (sectors (length log))) refl (ltb n (sectors (length (grown k log)))) refl
  where
    f : length log ≡ 512 * sectors (length log)
    f = omega (arith, eqb-true (length log % 512) 0 whole)

    more : Bytes
    more = replicate (512 * k) 0

    go : (b : Bool) → ltb n (sectors (length log)) ≡ b → (c : Bool) → ltb n (sectors (length (grown k log))) ≡ c → at (grown k log) n ≡ at log n
    go true q c p =
        let h = ltb-true n (sectors (length log)) q in
        at_piece (grown k log) n (omega (arith, length-grown k log, h))
        ∙ piece-front log more (sectors (length log)) n f h
        ∙ sym (at_piece log n h)
    go false q true p =
        let h = ltb-false n (sectors (length log)) q in
        let i = ltb-true n (sectors (length (grown k log))) p in
        at_piece (grown k log) n i
        ∙ piece_skip log more (sectors (length log)) n f h
        ∙ sym (at_piece more (n - sectors (length log)) (omega (arith, f, i, h, length-grown k log, length-replicate {A = ℕ} (512 * k) 0)))
        ∙ at-void (512 * k) (n - sectors (length log))
        ∙ sym (at-past log n h)
    go false q false p = at-past (grown k log) n (ltb-false n (sectors (length (grown k log))) p) ∙ sym (at-past log n (ltb-false n (sectors (length log)) q))

pub used-grown : (k : ℕ) (log : Bytes) → eqb (length log % 512) 0 ≡ true → used (grown k log) ≡ used log
used-grown k log whole = le_antisymm
    (used_le (grown k log) (used log) (λ n h. ap zeros (at-grown k log n whole) ∙ blank-past log n h))
    (used_le log (used (grown k log)) (λ n h. ap zeros (sym (at-grown k log n whole)) ∙ blank-past (grown k log) n h))

-- nothing stands behind the used part
pub at-alone : (log : Bytes) (n : ℕ) → at log n ≡ cond (ltb n (used log)) (at log n) blank
at-alone log n = go (ltb n (used log)) refl
  where
    go : (b : Bool) → ltb n (used log) ≡ b → at log n ≡ cond b (at log n) blank
    go true q = refl
    go false q = at-beyond log n (ltb-false n (used log) q)
