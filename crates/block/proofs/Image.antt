-- The image of a row: 512 bytes that fit their check and are not blank, its label and payload read back, and damage that shows.
use mathlib.Core.Path.{◌≡◌, refl, sym, ap, ◌∙◌}
use mathlib.Core.Logic.{◌≢◌}
use mathlib.Core.Bool.{true, false}
use mathlib.Core.List.{◌++◌, append_assoc}
use Prim.Native.Nat.{ℕ, zero, suc, ◌-◌, ◌*◌, ◌≤◌, ◌<◌}
use native.Mathlib.Omega.{arith}
use lib.ListN.{length, take, drop, length-append}
use Rattle.buffer.specs.Bytes.{Bytes, zeros}
use Rattle.buffer.proofs.Bytes.{small-drop}
use Rattle.digits.specs.Number.{small}
use Rattle.hexadecimal.specs.Hex.{hex, hex_bytes}
use Rattle.hexadecimal.proofs.HexLaws.{hex_injective}
use Rattle.sector.specs.Sector.{label_of, label_length, date_field, behind, fits, check, filled, encode, blank, score_digits}
use Rattle.sector.specs.declared.Label.{Label}
use Rattle.sector.specs.Near.{Near}
use Rattle.sector.proofs.Encode.{length-encode, encode-fits, encode-label, encode-payload, small-encode}
use Rattle.sector.proofs.Editions.{length-dated, small-dated, dated-marked, lines-behind, date-is, behind-is}
use Rattle.sector.proofs.Fields.{rec_digits, part_digits, of-digits, kind-digits, size-digits, score-digits}
use Rattle.sector.proofs.Unfit.{near_unfit, blank-unfit}
use Rattle.block.specs.Block.{Row, payload, parts, label_at, row_label, image, images, valid}
use Rattle.block.proofs.Facts.{valid_facts, label-bounds, parts_lt, score-length}

-- the fields of a row's label
abbrev fields : Row → ℕ → Label
fields r k = label_at (parts r) r.first k r.kind (length r.bytes)

pub image-used : (r : Row) (k : ℕ) → zeros (image r k) ≡ false
unfolding image encode
image-used r k =
    let label : Bytes = row_label r k in
    let load : Bytes = filled (499 - length label) (drop (payload r * k) r.bytes) in
    ap zeros (append_assoc label load (check (label ++ load)))
    ∙ dated-marked r.date (fields r k) r.score (load ++ check (label ++ load))

-- lengths, of any row whose score has 20 bytes and whose label leaves room
module _ (r : Row) (h : length r.score ≡ 20) (short : label_length r.date < 499) where
  pub length-row-label : (k : ℕ) → length (row_label r k) ≡ label_length r.date
  length-row-label k = length-dated r.date (fields r k) r.score h

  pub length-image : (k : ℕ) → length (image r k) ≡ 512
  unfolding image
  length-image k = length-encode (row_label r k) (drop (payload r * k) r.bytes) (omega (arith, length-row-label k))

  pub length-images : (k i : ℕ) → length (images r k i) ≡ 512 * k
  unfolding images
  length-images zero i = refl
  length-images (suc k) i = omega (arith, length-append (image r i) (images r k (suc i)), length-image i, length-images k (suc i))

module _ (r : Row) (k : ℕ) (v : valid r ≡ true) where
  short-label : label_length r.date < 499
  short-label = omega (arith, label-bounds r v)

  label-length : length (row_label r k) ≡ label_length r.date
  label-length = length-row-label r (score-length r v) short-label k

  room : length (row_label r k) ≤ 499
  room = omega (arith, label-length, short-label)

  pub image-length : length (image r k) ≡ 512
  image-length = length-image r (score-length r v) short-label k

  pub image-fits : fits (image r k) ≡ true
  unfolding image
  image-fits = encode-fits (row_label r k) (drop (payload r * k) r.bytes) room

  pub image-small : small (image r k) ≡ true
  unfolding image
  image-small =
      small-encode (row_label r k) (drop (payload r * k) r.bytes) room
      (small-dated r.date (fields r k) r.score (valid_facts r v).dated)
      (small-drop (payload r * k) r.bytes (valid_facts r v).of-bytes)

  pub image-label : take (label_length r.date) (image r k) ≡ row_label r k
  unfolding image
  image-label = ap (λ (w : ℕ). take w (image r k)) (sym label-length) ∙ encode-label (row_label r k) (drop (payload r * k) r.bytes) room

  pub image-payload : take (payload r) (drop (label_length r.date) (image r k)) ≡ filled (payload r) (drop (payload r * k) r.bytes)
  unfolding image
  image-payload =
      ap (λ (w : ℕ). take (499 - w) (drop w (image r k))) (sym label-length)
      ∙ encode-payload (row_label r k) (drop (payload r * k) r.bytes) room
      ∙ ap (λ (w : ℕ). filled (499 - w) (drop (payload r * k) r.bytes)) label-length

  -- its date, and the six lines behind it
  pub image-date : date_field (image r k) ≡ r.date
  image-date = date-is (image r k) r.date (fields r k) r.score (valid_facts r v).dated image-label

  image-lines : take 96 (behind (image r k)) ≡ label_of (fields r k) r.score
  image-lines =
      ap (take 96) (behind-is (image r k) r.date (fields r k) r.score (valid_facts r v).dated image-label)
      ∙ lines-behind (image r k) r.date (fields r k) r.score (valid_facts r v).dated image-label (score-length r v)

  pub image_rec : take 8 (drop 4 (behind (image r k))) ≡ hex 8 r.first
  image_rec = rec_digits (behind (image r k)) (fields r k) r.score image-lines

  pub image_part : take 4 (drop 18 (behind (image r k))) ≡ hex 4 k
  image_part = part_digits (behind (image r k)) (fields r k) r.score image-lines

  pub image-of : take 4 (drop 26 (behind (image r k))) ≡ hex 4 (parts r)
  image-of = of-digits (behind (image r k)) (fields r k) r.score image-lines

  pub image-kind : take 2 (drop 36 (behind (image r k))) ≡ hex 2 r.kind
  image-kind = kind-digits (behind (image r k)) (fields r k) r.score image-lines

  pub image-size : take 4 (drop 44 (behind (image r k))) ≡ hex 4 (length r.bytes)
  image-size = size-digits (behind (image r k)) (fields r k) r.score image-lines

  pub image-score : score_digits (behind (image r k)) ≡ hex_bytes r.score
  image-score = score-digits (behind (image r k)) (fields r k) r.score image-lines (score-length r v)

  -- damage within four neighbouring bytes shows
  pub image_near : (s : Bytes) → Near (image r k) s → s ≢ image r k → fits s ≡ false
  image_near s N d = near_unfit (image r k) s image-length image-small image-fits N d

pub blank_near : (s : Bytes) → Near blank s → zeros s ≡ false → fits s ≡ false
blank_near = blank-unfit

-- the label of one sector tells where the block starts, which part the sector is, and of how many
pub label : (r s : Row) (k m : ℕ) → valid r ≡ true → valid s ≡ true → k < parts r → m < parts s
    → image r k ≡ image s m → (r.first ≡ s.first) × (k ≡ m) × (parts r ≡ parts s)
label r s k m v w a b e = (
  hex_injective 8 r.first s.first (omega (arith, (valid_facts r v).can_be_named)) (omega (arith, (valid_facts s w).can_be_named))
      (sym (image_rec r k v) ∙ ap (λ (x : Bytes). take 8 (drop 4 (behind x))) e ∙ image_rec s m w),
  hex_injective 4 k m (omega (arith, parts_lt r v)) (omega (arith, parts_lt s w))
      (sym (image_part r k v) ∙ ap (λ (x : Bytes). take 4 (drop 18 (behind x))) e ∙ image_part s m w),
  hex_injective 4 (parts r) (parts s) (parts_lt r v) (parts_lt s w)
      (sym (image-of r k v) ∙ ap (λ (x : Bytes). take 4 (drop 26 (behind x))) e ∙ image-of s m w),
)
