-- Payloads laid end to end, byte by byte; and those of a run of sectors that is the image of a row.
use mathlib.Core.Path.{◌≡◌, refl, sym, ap, ap₂, ◌∙◌}
use mathlib.Core.Bool.{Bool, true, false}
use mathlib.Core.List.{[], ◌∷◌, ◌++◌}
use Prim.Native.Nat.{ℕ, zero, suc, ◌+◌, ◌*◌, ◌/◌, ◌%◌, ◌≤◌, ◌<◌}
use native.Mathlib.Nat.{mul-suc, mul-zero, mod-lt, div-add-mod}
use native.Mathlib.Omega.{arith}
use lib.Dec.{ltb}
use borrow.Author.Tests.{ltb-true, ltb-false}
use lib.ListN.{length, get_or, take, drop, replicate, length-append, length-take, length-drop, get_or-append, get_or-eq_default}
use lib.Seq.{ext_get_or, get_or-take, get_or-drop, get_or-append-add, length-take-le}
use Rattle.buffer.specs.Bytes.{Bytes, zeros}
use Rattle.buffer.proofs.Bytes.{zeros_get_d, zeros-all, zeros-replicate}
use Rattle.sector.specs.Sector.{label_length, payload_of, filled}
use Rattle.block.specs.Block.{Row, payload, parts, image, valid}
use Rattle.block.specs.Log.{at, payloads}
use Rattle.block.proofs.At.{length_at}
use Rattle.block.proofs.Facts.{parts-bounds, part_index, label-bounds, payload_pos}
use Rattle.block.proofs.Image.{image-payload}

-- zeros behind do not show
pub zero-tail : (b z : Bytes) (j : ℕ) → zeros z ≡ true → get_or (b ++ z) j 0 ≡ get_or b j 0
zero-tail [] z j e = zeros_get_d z j e
zero-tail (a ∷ b) z zero e = refl
zero-tail (a ∷ b) z (suc j) e = zero-tail b z j e

pub filled_get_d : (w : ℕ) (d : Bytes) (i : ℕ) → i < w → get_or (filled w d) i 0 ≡ get_or d i 0
unfolding filled
filled_get_d w d i h = get_or-take w (d ++ replicate w 0) i 0 h ∙ zero-tail d (replicate w 0) i (zeros-replicate w)

one_more : (p k : ℕ) → p + p * k ≡ p * suc k
one_more p k = omega (arith, mul-suc p k)

-- behind labels of one length, which leave room for a payload
module _ (label : ℕ) (short : label < 499) where
  -- the payload of a sector
  abbrev pub load : Bytes → ℕ → Bytes
  load log n = take (payload_of label) (drop label (at log n))

  pub length-load : (log : Bytes) (n : ℕ) → length (load log n) ≡ payload_of label
  length-load log n = simp (length-take, length-drop, length_at) (omega arith)

  pub length-payloads : (log : Bytes) (k n : ℕ) → length (payloads label log k n) ≡ payload_of label * k
  unfolding payloads
  length-payloads log zero n = sym (mul-zero (payload_of label))
  length-payloads log (suc k) n =
      length-append (load log n) (payloads label log k (suc n)) ∙ ap₂ ◌+◌ (length-load log n) (length-payloads log k (suc n)) ∙ one_more (payload_of label) k

  -- byte i of the payload of sector n + j
  pub payloads_get_d : (log : Bytes) (k n j i : ℕ) → j < k → i < payload_of label
      → get_or (payloads label log k n) (payload_of label * j + i) 0 ≡ get_or (load log (n + j)) i 0
  unfolding payloads
  payloads_get_d log zero n j i h g = absurd (omega arith)
  payloads_get_d log (suc k) n zero i h g =
      let m : n ≡ n + 0 = omega arith in
      let z : payload_of label * 0 + i ≡ i = ap (λ (x : ℕ). x + i) (mul-zero (payload_of label)) ∙ omega arith in
      ap (λ (x : ℕ). get_or (payloads label log (suc k) n) x 0) z
      ∙ get_or-append (load log n) (payloads label log k (suc n)) 0 i (omega (arith, length-load log n)) ∙ ap (λ (x : ℕ). get_or (load log x) i 0) m
  payloads_get_d log (suc k) n (suc j) i h g =
      let m : suc n + j ≡ n + suc j = omega arith in
      let z : payload_of label * suc j + i ≡ length (load log n) + (payload_of label * j + i) =
      ap (λ (x : ℕ). x + i) (sym (one_more (payload_of label) j)) ∙ ap (λ (x : ℕ). x + payload_of label * j + i) (sym (length-load log n)) ∙ omega arith in
      ap (λ (x : ℕ). get_or (payloads label log (suc k) n) x 0) z ∙ get_or-append-add (load log n) (payloads label log k (suc n)) (payload_of label * j + i) 0
      ∙ payloads_get_d log k (suc n) j i (omega arith) g ∙ ap (λ (x : ℕ). get_or (load log x) i 0) m

-- a run of sectors that is the image of a row: its payloads are the row's bytes, and zeros behind them
module _ (log : Bytes) (n : ℕ) (r : Row) (v : valid r ≡ true) (reads : (k : ℕ) → k < parts r → at log (n + k) ≡ image r k) where
  abbrev ℓ : ℕ
  ℓ = label_length r.date

  short : label_length r.date < 499
  short = omega (arith, label-bounds r v)

  pub payloads-image : (j : ℕ) → get_or (payloads ℓ log (parts r) n) j 0 ≡ get_or r.bytes j 0
  payloads-image j = go (ltb j (payload r * parts r)) refl
    where
      go : (b : Bool) → ltb j (payload r * parts r) ≡ b → get_or (payloads ℓ log (parts r) n) j 0 ≡ get_or r.bytes j 0
      go true q =
          let lt : j < payload r * parts r = ltb-true j (payload r * parts r) q in
          let z : j ≡ payload r * (j / payload r) + j % payload r = sym (div-add-mod j (payload r)) in
          let k : j / payload r < parts r = part_index (payload r) (payload_pos r v) j (parts r) lt in
          let i : j % payload r < payload r = mod-lt j (payload_pos r v) in
          ap (λ (x : ℕ). get_or (payloads ℓ log (parts r) n) x 0) z
          ∙ payloads_get_d ℓ short log (parts r) n (j / payload r) (j % payload r) k i
          ∙ ap (λ (x : Bytes). get_or (take (payload r) (drop ℓ x)) (j % payload r) 0) (reads (j / payload r) k)
          ∙ ap (λ (x : Bytes). get_or x (j % payload r) 0) (image-payload r (j / payload r) v)
          ∙ filled_get_d (payload r) (drop (payload r * (j / payload r)) r.bytes) (j % payload r) i
          ∙ get_or-drop (payload r * (j / payload r)) r.bytes (j % payload r) 0
          ∙ ap (λ (x : ℕ). get_or r.bytes x 0) (sym z)
      go false q =
          let ge : payload r * parts r ≤ j = ltb-false j (payload r * parts r) q in
          let a : length (payloads ℓ log (parts r) n) ≤ j = omega (arith, length-payloads ℓ short log (parts r) n) in
          let b : length r.bytes ≤ j = omega (arith, parts-bounds (payload r) (payload_pos r v) (length r.bytes)) in
          get_or-eq_default (payloads ℓ log (parts r) n) 0 a ∙ sym (get_or-eq_default r.bytes 0 b)

  pub take-payloads : take (length r.bytes) (payloads ℓ log (parts r) n) ≡ r.bytes
  take-payloads =
      let e : length (take (length r.bytes) (payloads ℓ log (parts r) n)) ≡ length r.bytes =
      length-take-le (length r.bytes) (payloads ℓ log (parts r) n)
      (omega (arith, length-payloads ℓ short log (parts r) n, parts-bounds (payload r) (payload_pos r v) (length r.bytes))) in
      ext_get_or 0 (take (length r.bytes) (payloads ℓ log (parts r) n)) r.bytes e
      (λ i h. get_or-take (length r.bytes) (payloads ℓ log (parts r) n) i 0 (omega arith) ∙ payloads-image i)

  pub drop-payloads : zeros (drop (length r.bytes) (payloads ℓ log (parts r) n)) ≡ true
  drop-payloads =
      zeros-all (drop (length r.bytes) (payloads ℓ log (parts r) n))
      (λ i h. let g : length r.bytes ≤ length r.bytes + i = omega arith in
      get_or-drop (length r.bytes) (payloads ℓ log (parts r) n) i 0 ∙ payloads-image (length r.bytes + i) ∙ get_or-eq_default r.bytes 0 g)
