-- A block is sound at n exactly if its sectors are the image of its type and data at n; and the sound block of one type and score
-- at n is exactly the sound block there that has both.
use mathlib.Core.Path.{◌≡◌, refl, sym, ap, ap₂, ◌∙◌, subst}
use mathlib.Core.Bool.{true, false, ◌&&◌}
use mathlib.Core.Option.{none, some}
use Prim.Native.Nat.{ℕ}
use lib.Dec.{eqb}
use borrow.Author.Tests.{eqb-true}
use lib.ListN.{length, take, drop}
use Rattle.bedrock.proofs.Choices.{and-true, false_unless, some-not-none}
use Rattle.buffer.specs.Bytes.{Bytes, same}
use Rattle.buffer.proofs.Bytes.{same_true, same_refl}
use Rattle.hexadecimal.specs.Hex.{hex, hex_bytes}
use Rattle.sector.specs.Sector.{label_length, date_field, behind, kind_field, size_field, score_field, score_digits}
use Rattle.block.specs.Block.{Row, parts, place_of, image}
use Rattle.block.specs.Log.{at, payloads, bytes_of, sound_as, sound}
use Rattle.block.proofs.Image.{image-kind, image-score}
use Rattle.block.proofs.Payloads.{take-payloads}
use Rattle.block.proofs.Passed.{as_passed}
use Rattle.block.proofs.Stands.{Stands, passed_stands, first_sector, stands_as, stands-sound}
use Rattle.block.specs.Promises.{SoundReads, SoundFinds}

pub as_stands : (log : Bytes) (n kind : ℕ) (score : Bytes) (r : Row) → sound_as log n kind score ≡ some r → Stands log n r × (r.kind ≡ kind) × (r.score ≡ score)
as_stands log n kind score r e =
    let p = as_passed log n kind score r e in
    subst (λ (s : Row). Stands log n s × (s.kind ≡ kind) × (s.score ≡ score)) p.1
    (passed_stands log n kind score (date_field (at log n)) (size_field (behind (at log n))) p.0, refl, refl)

pub sound-reads : SoundReads
unfolding sound
sound-reads log n r e = (as_stands log n (kind_field (behind (at log n))) (score_field (behind (at log n))) r e).0

pub sound_finds : SoundFinds
sound_finds log r v h f = stands-sound log r.first r (v, refl, h, f)

pub as_reads : (log : Bytes) (n kind : ℕ) (score : Bytes) (r : Row) → sound_as log n kind score ≡ some r → (sound log n ≡ some r) × (r.kind ≡ kind) × (r.score ≡ score)
as_reads log n kind score r e = let p = as_stands log n kind score r e in (stands-sound log n r p.0, p.1, p.2)

pub as_finds : (log : Bytes) (n : ℕ) (r : Row) → sound log n ≡ some r → sound_as log n r.kind r.score ≡ some r
as_finds log n r e = stands_as log n r (sound-reads log n r e)

-- its bytes are the payloads, up to the size
pub sound-bytes : (log : Bytes) (n : ℕ) (r : Row) → sound log n ≡ some r → r.bytes ≡ bytes_of log (place_of r)
sound-bytes log n r e =
    let p = sound-reads log n r e in
    sym (ap (λ (m : ℕ). take (length r.bytes) (payloads (label_length r.date) log (parts r) m)) p.1 ∙ take-payloads log n r p.0 p.3)

-- a sound block of another type or score
pub as_other : (log : Bytes) (n kind : ℕ) (score : Bytes) (r : Row) → sound log n ≡ some r → sound_as log n kind score ≡ none → (eqb r.kind kind && same r.score score) ≡ false
as_other log n kind score r e f = false_unless (eqb r.kind kind && same r.score score) (λ q.
    let p = and-true (eqb r.kind kind) (same r.score score) q in
    some-not-none r (sym (as_finds log n r e) ∙ ap₂ (sound_as log n) (eqb-true r.kind kind p.0) (same_true r.score score p.1) ∙ f))

-- a sector with other digits holds no block of that type and score
module _ (log : Bytes) (n kind : ℕ) (score : Bytes) (r : Row) (e : sound_as log n kind score ≡ some r) where
  S : Stands log n r
  S = (as_stands log n kind score r e).0

  here : at log n ≡ image r 0
  here = first_sector log n r S

  pub as_digits : same (score_digits (behind (at log n))) (hex_bytes score) ≡ true
  as_digits =
      let d : score_digits (behind (at log n)) ≡ hex_bytes score = ap (λ (x : Bytes). score_digits (behind x)) here ∙ image-score r 0 S.0 ∙ ap hex_bytes (as_stands log n kind score r e).2 in
      ap (λ (x : Bytes). same x (hex_bytes score)) d ∙ same_refl (hex_bytes score)

  pub kind-digits : take 2 (drop 36 (behind (at log n))) ≡ hex 2 kind
  kind-digits = ap (λ (x : Bytes). take 2 (drop 36 (behind x))) here ∙ image-kind r 0 S.0 ∙ ap (hex 2) (as_stands log n kind score r e).1
