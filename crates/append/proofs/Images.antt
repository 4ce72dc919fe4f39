-- What a part of the log is after a sector of a block is written to it, after several, and what the log is then.
use mathlib.Core.Path.{◌≡◌, refl, sym, ap, ap₂, ◌∙◌}
use mathlib.Core.List.{[], ◌∷◌, ◌++◌, append_assoc, append-nil}
use Prim.Native.Nat.{ℕ, zero, suc, ◌+◌, ◌-◌, ◌*◌, ◌≤◌, ◌<◌, min}
use native.Mathlib.Omega.{arith}
use native.Mathlib.Nat.{zero-add, mul-suc, mul-le-mul_left}
use native.Mathlib.Numerals.{add-one}
use lib.ListN.{length, take, drop, replicate, length-take, length-drop}
use Rattle.buffer.specs.Bytes.{Bytes, put}
use Rattle.buffer.proofs.Parts.{take_upto}
use Rattle.buffer.proofs.Put.{put_next, put_mid_lem, put-tail}
use Rattle.sector.specs.Sector.{line, date_name, label_of, front_of, label_length, payload_of, filled, check, encode}
use Rattle.sector.specs.declared.Label.{Label}
use Rattle.sector.proofs.Dates.{front-is, front-eight}
use Rattle.sector.proofs.Dates.{length-date}
use Rattle.block.specs.Block.{Row, parts_of, payload, parts, label_at, row_label, image, images}
use Rattle.block.specs.Log.{sectors}
use Rattle.block.proofs.Facts.{parts-bounds}
use Rattle.block.proofs.Image.{length-row-label, length-image, length-images}
use Rattle.sector_log.specs.Parts.{written_from}
use Rattle.sector_log.specs.Store.{parts_for}
use Rattle.append.specs.Append.{row_of, parts_behind}

-- a sector takes no more of its data than fills it up
take_cut : (n : ℕ) (d z : Bytes) → take n (take n d ++ z) ≡ take n (d ++ z)
take_cut zero d z = refl
take_cut (suc n) [] z = refl
take_cut (suc n) (a ∷ d) z = ap (λ (x : Bytes). a ∷ x) (take_cut n d z)

filled_cut : (n : ℕ) (d : Bytes) → filled n (take n d) ≡ filled n d
unfolding filled
filled_cut n d = take_cut n d (replicate n 0)

encode_cut : (label d : Bytes) (n : ℕ) → n ≡ 499 - length label → encode label (take n d) ≡ encode label d
unfolding encode
encode_cut label d n e =
    ap (λ (x : Bytes). (label ++ x) ++ check (label ++ x))
    (ap (λ (w : ℕ). filled (499 - length label) (take w d)) e ∙ filled_cut (499 - length label) d)

-- one image more, at the end
images-more : (r : Row) (k i : ℕ) → images r (suc k) i ≡ images r k i ++ image r (i + k)
unfolding images
images-more r zero i = let e : i ≡ i + 0 = omega arith in append-nil (image r i) ∙ ap (image r) e
images-more r (suc k) i =
    let e : suc i + k ≡ i + suc k = omega arith in
    ap (λ (x : Bytes). image r i ++ x) (images-more r k (suc i) ∙ ap (λ (n : ℕ). images r k (suc i) ++ image r n) e)
    ∙ sym (append_assoc (image r i) (images r k (suc i)) (image r (i + suc k)))

-- part k starts among the bytes
pub part_start : (p size k : ℕ) → 0 < p → k < parts_of p size → p * k < size
part_start p size k pos h =
    let a : p * suc k ≤ p * parts_of p size = mul-le-mul_left p h in
    omega (arith, mul-suc p k, parts-bounds p pos size)

pub start-behind : (front d : Bytes) (k p : ℕ) → length front + 96 < 499 → k < parts_behind front d → p ≡ payload_of (length front + 96) → p * k < length d
start-behind front d k p h w e =
    ap_lt (part_start (payload_of (length front + 96)) (length d) k (omega arith) w)
  where
    ap_lt : payload_of (length front + 96) * k < length d → p * k < length d
    ap_lt g = rw e g

module _ (r : Row) (part : Bytes) (k : ℕ) (h : length r.score ≡ 20) (short : label_length r.date < 499) (room : 512 * parts r ≤ length part) (within : k < parts r) where
  -- the fields of the label of part k, as the code has the count
  abbrev fields : ℕ → Label
  fields of = label_at of r.first k r.kind (length r.bytes)

  pos : 0 < payload r
  pos = omega (arith, short)

  -- the bytes of part k
  piece : (to : ℕ) → to ≡ min (payload r * k + payload r) (length r.bytes)
      → take (to - payload r * k) (drop (payload r * k) r.bytes) ≡ take (payload r) (drop (payload r * k) r.bytes)
  piece to e =
      let b = part_start (payload r) (length r.bytes) k pos within in
      take_upto (to - payload r * k) (payload r) (drop (payload r * k) r.bytes) (omega (arith, length-drop (payload r * k) r.bytes))

  -- sector k, in a part that was lent
  pub part_written : (front ys : Bytes) (p of to : ℕ) → front_of r.date ≡ front → p ≡ payload r → of ≡ parts r → to ≡ min (p * k + p) (length r.bytes)
      → ys ≡ encode (front ++ label_of (fields of) r.score) (take (to - p * k) (drop (p * k) r.bytes))
      → take (512 * k) part ++ (ys ++ drop (512 * k + 512 - 512 * k) (drop (512 * k) part)) ≡ put part (512 * k) (image r k)
  unfolding image
  part_written front ys p of to f g o q e =
      let to_is : to ≡ min (payload r * k + payload r) (length r.bytes) = q ∙ ap (λ (x : ℕ). min (x * k + x) (length r.bytes)) g in
      let made : ys ≡ image r k =
      e
      ∙ ap₂ (λ (x : Bytes) (w : ℕ). encode (x ++ label_of (fields w) r.score) (take (to - p * k) (drop (p * k) r.bytes))) (sym f) o
      ∙ ap (λ (x : ℕ). encode (row_label r k) (take (to - x * k) (drop (x * k) r.bytes))) g
      ∙ ap (encode (row_label r k)) (piece to to_is)
      ∙ encode_cut (row_label r k) (drop (payload r * k) r.bytes) (payload r) (ap (λ (x : ℕ). 499 - x) (sym (length-row-label r h short k))) in
      put_mid_lem part ys (512 * k) (512 * k + 512) (omega arith) (omega (arith, ap length made, length-image r h short k))
      ∙ ap (put part (512 * k)) made

  -- one sector more
  pub part_more : (x y : Bytes) → x ≡ put part 0 (images r k 0) → y ≡ put x (512 * k) (image r k) → y ≡ put part 0 (images r (k + 1) 0)
  part_more x y e g =
      g
      ∙ ap (λ (z : Bytes). put z (512 * k) (image r k)) e
      ∙ put_next part 0 (512 * k) (images r k 0) (image r k) (omega (arith, length-images r h short k 0)) (omega (arith, length-images r h short k 0, length-image r h short k))
      ∙ ap (put part 0) (ap (λ (n : ℕ). images r k 0 ++ image r n) (sym (zero-add k)) ∙ sym (images-more r k 0) ∙ ap (λ (n : ℕ). images r n 0) (sym (add-one k)))

-- the same of a row whose date's line is `front`, as the code has it
module _ (r : Row) (part front : Bytes) (k : ℕ) (f : front_of r.date ≡ front) (h : length r.score ≡ 20) (short : length front + 96 < 499)
    (room : 512 * parts_behind front r.bytes ≤ length part) (within : k < parts_behind front r.bytes) where
  label-short : label_length r.date < 499
  label-short = omega (arith, ap length f)

  pub parts-behind : parts r ≡ parts_behind front r.bytes
  parts-behind = ap (λ (x : Bytes). parts_behind x r.bytes) f

  pub sector_made : (ys : Bytes) (p of to : ℕ) → p ≡ payload_of (length front + 96) → of ≡ parts_behind front r.bytes → to ≡ min (p * k + p) (length r.bytes)
      → ys ≡ encode (front ++ label_of (label_at of r.first k r.kind (length r.bytes)) r.score) (take (to - p * k) (drop (p * k) r.bytes))
      → take (512 * k) part ++ (ys ++ drop (512 * k + 512 - 512 * k) (drop (512 * k) part)) ≡ put part (512 * k) (image r k)
  sector_made ys p of to g o q e =
      part_written r part k h label-short (omega (arith, parts-behind)) (omega (arith, parts-behind)) front ys p of to f
      (g ∙ ap (λ (x : Bytes). payload_of (length x + 96)) (sym f)) (o ∙ sym parts-behind) q e

  pub sectors-more : (x y : Bytes) → x ≡ put part 0 (images r k 0) → y ≡ put x (512 * k) (image r k) → y ≡ put part 0 (images r (k + 1) 0)
  sectors-more = part_more r part k h label-short (omega (arith, parts-behind)) (omega (arith, parts-behind))

-- the block, in what lies from its place on of a part whose sectors are numbered on from sector `from`
pub block_written : (from : ℕ) (part ys : Bytes) (r : Row) → length r.score ≡ 20 → label_length r.date < 499 → r.first - from + parts r ≤ sectors (length part)
    → ys ≡ put (take (length part - 512 * (r.first - from)) (drop (512 * (r.first - from)) part)) 0 (images r (parts r) 0)
    → take (512 * (r.first - from)) part ++ (ys ++ drop (length part - 512 * (r.first - from)) (drop (512 * (r.first - from)) part)) ≡ written_from from part r
unfolding written_from
block_written from part ys r h short room e =
    let at = 512 * (r.first - from) in
    let new = images r (parts r) 0 in
    let m : at + length new ≡ 512 * (r.first - from + parts r) = omega (arith, length-images r h short (parts r) 0) in
    put-tail part ys new at e ∙ ap (λ (b : ℕ). take at part ++ (new ++ drop b part)) m

-- a block of a date
module _ (date front d part : Bytes) (k : ℕ) (h : length date ≡ 8) (e : front ≡ line date_name date) where
  pub front_of_lem : front_of date ≡ front
  front_of_lem = front-is date h ∙ sym e

  pub front-short : length front + 96 < 499
  front-short = omega (arith, ap length e, length-date date)

  pub room-behind : k + parts_for date d ≤ sectors (length part) → 512 * parts_behind front d ≤ length (take (length part - 512 * k) (drop (512 * k) part))
  room-behind g =
      let q : parts_for date d ≡ parts_behind front d = ap (λ (x : Bytes). parts_behind x d) front_of_lem in
      omega (arith, length-take (length part - 512 * k) (drop (512 * k) part), length-drop (512 * k) part)

pub dated-written : (from kind first : ℕ) (part ys score d date front : Bytes) → length date ≡ 8 → front ≡ line date_name date → length score ≡ 20
    → first - from + parts_for date d ≤ sectors (length part)
    → ((x : Bytes) → front_of x ≡ front
    → ys ≡ put (take (length part - 512 * (first - from)) (drop (512 * (first - from)) part)) 0 (images (row_of kind score d first x) (parts_behind front d) 0))
    → take (512 * (first - from)) part ++ (ys ++ drop (length part - 512 * (first - from)) (drop (512 * (first - from)) part))
    ≡ written_from from part (row_of kind score d first date)
dated-written from kind first part ys score d date front h e s room w =
    let r = row_of kind score d first date in
    let f = front_of_lem date front d part 0 h e in
    let q : parts_behind front d ≡ parts r = ap (λ (x : Bytes). parts_behind x d) (sym f) in
    block_written from part ys r s (omega (arith, front-eight date h)) room
    (w date f ∙ ap (λ (n : ℕ). put (take (length part - 512 * (first - from)) (drop (512 * (first - from)) part)) 0 (images r n 0)) q)
