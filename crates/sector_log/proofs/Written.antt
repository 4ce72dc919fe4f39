-- Appending a block hides nothing: on any log, what look-up found it finds again, at the same place; and the block is found.
use mathlib.Core.Path.{◌≡◌, refl, sym, ap, ◌∙◌}
use mathlib.Core.Bool.{Bool, true, false, cond, ◌&&◌}
use mathlib.Core.List.{List, [], ◌∷◌, ◌++◌}
use mathlib.Core.Option.{Option, none, some}
use Prim.Native.Nat.{ℕ, zero, suc, ◌+◌, ◌-◌, ◌≤◌, ◌<◌}
use native.Mathlib.Omega.{arith}
use lib.Dec.{eqb, leb}
use borrow.Author.Tests.{lt-leb, le-leb, lt-ltb, leb-true, leb-false, eq-eqb}
use lib.ListN.{length}
use Rattle.bedrock.specs.Places.{found_from}
use Rattle.buffer.specs.Bytes.{Bytes, same}
use Rattle.buffer.proofs.Bytes.{same_refl}
use Rattle.kind.specs.Kind.{lawful, zero_score}
use Rattle.block.specs.Block.{Row, parts, image, valid, written}
use Rattle.block.specs.Log.{sectors, at, used, sound}
use Rattle.block.proofs.Facts.{parts_pos}
use Rattle.block.proofs.Image.{label}
use Rattle.block.proofs.Used.{used_le_sectors}
use Rattle.block.proofs.Written.{length-written, at-written}
use Rattle.block.proofs.Sound.{sound-reads, sound_finds}
use Rattle.block.proofs.Apart.{sound-used}
use Rattle.sector_log.specs.LookUp.{blocks, first_of, empty_row, held}
use Rattle.sector_log.proofs.Blocks.{blocks-append, blocks-used, one-some}
use Rattle.sector_log.specs.Promises.{HeldStays, AppendedIsHeld}

-- rows behind do not hide the first of a type and score
pub first-front : (t : ℕ) (s : Bytes) (xs ys : List Row) (r : Row) → first_of t s xs ≡ some r → first_of t s (xs ++ ys) ≡ some r
unfolding first_of
first-front t s [] ys r e = let z : ◌≡◌ {A = ℕ} 0 1 = cc in absurd (omega arith)
first-front t s (x ∷ xs) ys r e = go (eqb x.kind t && same x.score s) e (first-front t s xs ys r)
  where
    go : (b : Bool) → cond b (some x) (first_of t s xs) ≡ some r → (first_of t s xs ≡ some r → first_of t s (xs ++ ys) ≡ some r) → cond b (some x) (first_of t s (xs ++ ys)) ≡ some r
    go true e f = e
    go false e f = f e

-- where none is, the first of those behind is the first
first-behind : (t : ℕ) (s : Bytes) (xs ys : List Row) → first_of t s xs ≡ none → first_of t s (xs ++ ys) ≡ first_of t s ys
unfolding first_of
first-behind t s [] ys e = refl
first-behind t s (x ∷ xs) ys e = go (eqb x.kind t && same x.score s) e (first-behind t s xs ys)
  where
    go : (b : Bool) → cond b (some x) (first_of t s xs) ≡ none → (first_of t s xs ≡ none → first_of t s (xs ++ ys) ≡ first_of t s ys) → cond b (some x) (first_of t s (xs ++ ys)) ≡ first_of t s ys
    go true e f = let z : ◌≡◌ {A = ℕ} 0 1 = cc in absurd (omega arith)
    go false e f = f e

-- the same sound blocks at each of k sectors
pub same_blocks : (log log' : Bytes) (k n : ℕ) → ((m : ℕ) → m < n + k → sound log' m ≡ sound log m) → found_from (sound log') k n ≡ found_from (sound log) k n
unfolding found_from
same_blocks log log' zero n f = refl
same_blocks log log' (suc k) n f = rw (f n (omega arith), same_blocks log log' k (suc n) (λ m h. f m (omega arith)))

module _ (log : Bytes) (r : Row) (v : valid r ≡ true) (end : r.first ≡ used log) (room : r.first + parts r ≤ sectors (length log)) where
  -- the used part stays, and behind it the block's parts stand
  kept : (n : ℕ) → n < used log → at (written log r) n ≡ at log n
  kept n h = at-written log r v room n ∙ rw (lt-leb r.first n (omega arith))

  written_at : (k : ℕ) → k < parts r → at (written log r) (r.first + k) ≡ image r k
  written_at k h =
      let z : r.first + k - r.first ≡ k = omega arith in
      at-written log r v room (r.first + k) ∙ rw (le-leb r.first (r.first + k) (omega arith), lt-ltb (r.first + k) (r.first + parts r) (omega arith), z)

  -- the block is sound at its place
  pub new-sound : sound (written log r) r.first ≡ some r
  new-sound = sound_finds (written log r) r v (omega (arith, ap sectors (length-written log r v room))) written_at

  start : at (written log r) r.first ≡ image r 0
  start =
      let z : r.first + 0 ≡ r.first = omega arith in
      ap (at (written log r)) (sym z) ∙ written_at 0 (parts_pos r v)

  -- a sound block in the used part is sound still
  pub still : (n : ℕ) (x : Row) → sound log n ≡ some x → sound (written log r) n ≡ some x
  still n x e =
      let p = sound-reads log n x e in
      let here : x.first ≡ n = p.1 in
      let in_used : n + parts x ≤ used log = sound-used log n x e in
      ap (sound (written log r)) (sym here)
      ∙ sound_finds (written log r) x p.0 (omega (arith, p.2, ap sectors (length-written log r v room)))
      (λ k h. ap (λ (m : ℕ). at (written log r) (m + k)) here ∙ kept (n + k) (omega arith) ∙ p.3 k h)

  -- a block that reached past the used part would have the new block's part 0 as a later part
  short : (n : ℕ) (x : Row) → n < used log → sound (written log r) n ≡ some x → n + parts x ≤ used log
  short n x h e = go (leb (n + parts x) (used log)) refl
    where
      go : (b : Bool) → leb (n + parts x) (used log) ≡ b → n + parts x ≤ used log
      go true q = leb-true (n + parts x) (used log) q
      go false q =
          let p = sound-reads (written log r) n x e in
          let over : used log < n + parts x = leb-false (n + parts x) (used log) q in
          let j : n + (used log - n) ≡ r.first = omega arith in
          let lt : used log - n < parts x = omega arith in
          let l = label x r (used log - n) 0 p.0 v lt (parts_pos r v) (sym (p.3 (used log - n) lt) ∙ ap (at (written log r)) j ∙ start) in
          absurd (omega (arith, l.1))

  -- so none becomes sound there
  before : (n : ℕ) (x : Row) → n < used log → sound (written log r) n ≡ some x → sound log n ≡ some x
  before n x h e =
      let p = sound-reads (written log r) n x e in
      let here : x.first ≡ n = p.1 in
      let in_used : n + parts x ≤ used log = short n x h e in
      ap (sound log) (sym here)
      ∙ sound_finds log x p.0 (omega (arith, used_le_sectors log))
      (λ k g. ap (λ (m : ℕ). at log (m + k)) here ∙ sym (kept (n + k) (omega arith)) ∙ p.3 k g)

  pub same-sound : (n : ℕ) → n < used log → sound (written log r) n ≡ sound log n
  same-sound n h = go (sound log n) (sound (written log r) n) refl refl
    where
      go : (a b : Option Row) → sound log n ≡ a → sound (written log r) n ≡ b → b ≡ a
      go (some x) b p q = sym q ∙ still n x p
      go none none p q = refl
      go none (some x) p q = sym (before n x h q) ∙ p

  pub same-front : blocks (written log r) ≡ blocks log ++ found_from (sound (written log r)) (sectors (length log) - used log) (0 + used log)
  unfolding blocks
  same-front =
      let k = sectors (length log) - used log in
      let a : sectors (length (written log r)) ≡ used log + k = ap sectors (length-written log r v room) ∙ omega (arith, used_le_sectors log) in
      ap (λ (x : ℕ). found_from (sound (written log r)) x 0) a
      ∙ blocks-append (written log r) (used log) k 0
      ∙ ap (λ (l : List Row). l ++ found_from (sound (written log r)) k (0 + used log)) (same_blocks log (written log r) (used log) 0 (λ m h. same-sound m (omega arith)) ∙ blocks-used log)

pub held-written : HeldStays
unfolding held
held-written log r v end room t s x e = go (lawful t && same s zero_score) e
  where
    go : (b : Bool) → cond b (some (empty_row t)) (first_of t s (blocks log)) ≡ some x → cond b (some (empty_row t)) (first_of t s (blocks (written log r))) ≡ some x
    go true q = q
    go false q = ap (first_of t s) (same-front log r v end room) ∙ first-front t s (blocks log) (found_from (sound (written log r)) (sectors (length log) - used log) (0 + used log)) x q

pub held-appended : AppendedIsHeld
unfolding held first_of
held-appended log r v end room e = go (lawful r.kind && same r.score zero_score) e
  where
    k : ℕ
    k = sectors (length log) - used log - 1

    more : sectors (length log) - used log ≡ suc k
    more = omega (arith, end, room, parts_pos r v)

    behind : first_of r.kind r.score (found_from (sound (written log r)) (sectors (length log) - used log) (0 + used log)) ≡ some r
    behind =
        let here : sound (written log r) (0 + used log) ≡ some r = ap (sound (written log r)) (omega (arith, end)) ∙ new-sound log r v end room in
        ap (λ (n : ℕ). first_of r.kind r.score (found_from (sound (written log r)) n (0 + used log))) more
        ∙ ap (first_of r.kind r.score) (one-some (written log r) k (0 + used log) r here)
        ∙ rw (eq-eqb r.kind r.kind refl, same_refl r.score)

    go : (b : Bool) → cond b (some (empty_row r.kind)) (first_of r.kind r.score (blocks log)) ≡ none
        → cond b (some (empty_row r.kind)) (first_of r.kind r.score (blocks (written log r))) ≡ some r
    go true q = let z : ◌≡◌ {A = ℕ} 0 1 = cc in absurd (omega arith)
    go false q =
        ap (first_of r.kind r.score) (same-front log r v end room)
        ∙ first-behind r.kind r.score (blocks log) (found_from (sound (written log r)) (sectors (length log) - used log) (0 + used log)) q
        ∙ behind
