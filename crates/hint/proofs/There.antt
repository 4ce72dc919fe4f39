-- A block is sound where its sectors are its image, whatever stands elsewhere: so it is in every log that has them. Of a log's own sectors they lie before the
-- end of its used part, so it is sound also where others wait behind that.
use mathlib.Core.Path.{◌≡◌, refl, sym, ap, ap₂, ◌∙◌, subst}
use mathlib.Core.Bool.{Bool, true, false}
use mathlib.Core.Option.{Option, none, some}
use Prim.Native.Nat.{ℕ, ◌+◌, ◌-◌, ◌≤◌, ◌<◌}
use native.Mathlib.Omega.{arith}
use lib.Dec.{leb, ltb}
use lib.ListN.{length}
use borrow.Author.Tests.{leb-true, leb-false, ltb-true, ltb-false}
use Rattle.buffer.specs.Bytes.{Bytes}
use Rattle.block.specs.Block.{Row, parts}
use Rattle.block.specs.Log.{sectors, at, used, sound}
use Rattle.block.proofs.Apart.{apart, sound-used}
use Rattle.block.proofs.Joined.{at-log, sectors-joined}
use Rattle.block.proofs.Sound.{sound-reads, sound_finds}
use Rattle.block.proofs.Used.{used_le_sectors}
use Rattle.sector_log.specs.LookUp.{blocks, first_of}
use Rattle.sector_log.specs.Parts.{tape}
use Rattle.sector_log.proofs.First.{first-sound, least}
use Rattle.hint.specs.Hint.{sound_with}
use Rattle.hint.proofs.Leads.{first_finds}
use Rattle.hint.proofs.Sound.{with_reads, with_finds}

module _ (log other : Bytes) (n : ℕ) (r : Row) (room : n + parts r ≤ sectors (length log)) (each : (k : ℕ) → k < parts r → at log (n + k) ≡ at other (n + k)) where
  pub sound-there : sound other n ≡ some r → sound log n ≡ some r
  sound-there e =
      let p = sound-reads other n r e in
      let here : r.first ≡ n = p.1 in
      subst (λ (m : ℕ). sound log m ≡ some r) here
      (sound_finds log r p.0 (omega (arith, here, room)) (λ k h. ap (λ (m : ℕ). at log (m + k)) here ∙ each k h ∙ p.3 k h))

  pub with_there : (t : ℕ) (s : Bytes) → sound_with other n t s ≡ some r → sound_with log n t s ≡ some r
  with_there t s e =
      let w = with_reads other n t s r e in
      ap₂ (λ (k : ℕ) (x : Bytes). sound_with log n k x) (sym w.1) (sym w.2) ∙ with_finds log n r (sound-there w.0)

module _ (log waiting : Bytes) where
  -- before the end of the used part nothing is changed by what waits
  before : (n : ℕ) → n < used log → at (tape log waiting) n ≡ at log n
  before n h = at-log (used log) log waiting (used_le_sectors log) n h

  -- a block's sectors are used ones
  pub sound-waiting : (n : ℕ) (r : Row) → sound log n ≡ some r → sound (tape log waiting) n ≡ some r
  sound-waiting n r e =
      let u = sound-used log n r e in
      sound-there (tape log waiting) log n r (omega (arith, u, sectors-joined (used log) log waiting (used_le_sectors log))) (λ k l. before (n + k) (omega arith)) e

  pub with_waiting : (n t : ℕ) (s : Bytes) (r : Row) → sound_with log n t s ≡ some r → sound_with (tape log waiting) n t s ≡ some r
  with_waiting n t s r e =
      let w = with_reads log n t s r e in
      ap₂ (λ (k : ℕ) (x : Bytes). sound_with (tape log waiting) n k x) (sym w.1) (sym w.2) ∙ with_finds (tape log waiting) n r (sound-waiting n r w.0)

  -- one that starts before a block of the log's own sectors ends before it, so it is among them too
  sound-before : (x r : Row) → sound (tape log waiting) x.first ≡ some x → sound log r.first ≡ some r → x.first < r.first → sound log x.first ≡ some x
  sound-before x r e q h =
      let u = sound-used log r.first r q in
      let l = used_le_sectors log in
      let ends = ends_before in
      sound-there log (tape log waiting) x.first x (omega (arith, u, l, ends)) (λ k g. sym (before (x.first + k) (omega (arith, u, ends)))) e
    where
      there : sound (tape log waiting) (x.first + (r.first - x.first)) ≡ some r
      there = let n : x.first + (r.first - x.first) ≡ r.first = omega arith in ap (sound (tape log waiting)) n ∙ sound-waiting r.first r q

      ends_before : x.first + parts x ≤ r.first
      ends_before = go (leb (x.first + parts x) r.first) refl
        where
          go : (b : Bool) → leb (x.first + parts x) r.first ≡ b → x.first + parts x ≤ r.first
          go true y = leb-true (x.first + parts x) r.first y
          go false y = let g = leb-false (x.first + parts x) r.first y in absurd (apart (tape log waiting) x.first (r.first - x.first) x r e (omega arith) (omega (arith, g)) there)

  -- the first of a type and score among the log's own sectors is the first whatever waits
  pub first-waiting : (t : ℕ) (s : Bytes) (r : Row) → first_of t s (blocks log) ≡ some r → first_of t s (blocks (tape log waiting)) ≡ some r
  first-waiting t s r e = go (first_of t s (blocks both)) refl
    where
      both : Bytes
      both = tape log waiting

      p : (sound log r.first ≡ some r) × (r.kind ≡ t) × (r.score ≡ s)
      p = first-sound log t s r e

      there : sound both r.first ≡ some r
      there = sound-waiting r.first r p.0

      go : (o : Option Row) → first_of t s (blocks both) ≡ o → first_of t s (blocks both) ≡ some r
      go none z = absurd (first_finds both r there (ap₂ (λ (k : ℕ) (v : Bytes). first_of k v (blocks both)) p.1 p.2 ∙ z))
      go (some x) z = turn (ltb x.first r.first) refl
        where
          u : (sound both x.first ≡ some x) × (x.kind ≡ t) × (x.score ≡ s)
          u = first-sound both t s x z

          turn : (b : Bool) → ltb x.first r.first ≡ b → first_of t s (blocks both) ≡ some r
          turn true y =
              let h = ltb-true x.first r.first y in
              let l = least log t s r x e (sound-before x r u.0 p.0 h) u.1 u.2 in
              absurd (omega (arith, h, l))
          turn false y =
              let h = ltb-false x.first r.first y in
              let l = least both t s x r z there p.1 p.2 in
              let same_place : x.first ≡ r.first = omega (arith, h, l) in
              z ∙ sym u.0 ∙ ap (sound both) same_place ∙ there
