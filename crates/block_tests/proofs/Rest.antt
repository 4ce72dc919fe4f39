-- Where the rest of a block's payloads lies, and how many bytes its parts can hold.
use mathlib.Core.Path.{◌≡◌, sym, ap, ap₂, ◌∙◌}
use mathlib.Core.List.{◌++◌, append-nil}
use Prim.Native.Nat.{ℕ, zero, suc, ◌+◌, ◌-◌, ◌*◌, ◌/◌, ◌%◌, ◌≤◌, ◌<◌}
use native.Mathlib.Nat.{add-zero, add-suc, suc-add, zero-add, mul-zero, mul-suc, div-add-mod, mod-lt, add-mul-div_left, mul-le-mul_right}
use native.Mathlib.Numerals.{add-one}
use native.Mathlib.Omega.{arith}
use lib.ListN.{length, take, drop}
use lib.Seq.{drop-drop, drop-append-add}
use Rattle.buffer.specs.Bytes.{Bytes}
use Rattle.buffer.proofs.Parts.{drop-take}
use Rattle.sector.specs.Sector.{payload_of}
use Rattle.block.specs.Block.{parts_of, parts_in}
use Rattle.block.specs.declared.Block.{Block}
use Rattle.block.specs.Log.{at, payloads}
use Rattle.block.proofs.Facts.{parts-bounds}
use Rattle.block.proofs.Payloads.{load, length-load}

-- the last part begins behind a whole number of payloads
module _ (p : ℕ) (pos : 0 < p) (size : ℕ) (h : 0 < size) where
  pub last_part : suc ((size - 1) / p) ≡ parts_of p size
  unfolding parts_of
  last_part =
      let e : size + (p - 1) ≡ size - 1 + p * 1 = omega arith in
      sym (ap (λ (x : ℕ). x / p) e ∙ add-mul-div_left (size - 1) 1 pos ∙ add-one ((size - 1) / p))

  pub last-bounds : (p * ((size - 1) / p) < size) × (size ≤ p * ((size - 1) / p) + p)
  last-bounds =
      let e : p * ((size - 1) / p) + (size - 1) % p ≡ size - 1 = div-add-mod (size - 1) p in
      let m : (size - 1) % p < p = mod-lt (size - 1) pos in
      (omega arith, omega arith)

module _ (label : ℕ) (short : label < 499) where
  -- behind k whole payloads and u bytes of the next there is only the rest of that one
  rest-last : (log : Bytes) (k u n : ℕ) → drop (payload_of label * k + u) (payloads label log (suc k) n) ≡ drop u (load label short log (n + k))
  unfolding payloads
  rest-last log zero u n =
      let z : payload_of label * 0 + u ≡ u = ap (λ (x : ℕ). x + u) (mul-zero (payload_of label)) ∙ zero-add u in
      ap₂ drop z (append-nil (load label short log n)) ∙ ap (λ (m : ℕ). drop u (load label short log m)) (sym (add-zero n))
  rest-last log (suc k) u n =
      let q = load label short log n in
      let e : payload_of label * suc k + u ≡ length q + (payload_of label * k + u) = omega (arith, length-load label short log n, mul-suc (payload_of label) k) in
      ap (λ (m : ℕ). drop m (q ++ payloads label log (suc k) (suc n))) e
      ∙ drop-append-add q (payloads label log (suc k) (suc n)) (payload_of label * k + u)
      ∙ rest-last log k u (suc n)
      ∙ ap (λ (m : ℕ). drop u (load label short log m)) (suc-add n k ∙ sym (add-suc n k))

  -- the bytes of the last sector from there to its check
  pub rest-zeros : (log s : Bytes) (n size p : ℕ) → 0 < size → p ≡ payload_of label → s ≡ at log (n + (size - 1) / p)
      → take (499 - (label + (size - p * ((size - 1) / p)))) (drop (label + (size - p * ((size - 1) / p))) s) ≡ drop size (payloads label log (parts_of (payload_of label) size) n)
  rest-zeros log s n size p h g e =
      let pos : 0 < p = omega arith in
      let k = (size - 1) / p in
      let u = size - p * k in
      let left : 499 - (label + u) ≡ p - u = omega arith in
      let whole : p * k + u ≡ size = omega (arith, last-bounds p pos size h) in
      ap (λ (m : ℕ). take m (drop (label + u) s)) left
      ∙ sym (drop-take u p (drop label s) ∙ ap (take (p - u)) (drop-drop u label s))
      ∙ ap₂ (λ (x : Bytes) (m : ℕ). drop u (take m (drop label x))) e g
      ∙ sym (rest-last log k u n)
      ∙ ap (λ (x : ℕ). drop (x * k + u) (payloads label log (suc k) n)) (sym g)
      ∙ ap₂ (λ (m j : ℕ). drop m (payloads label log j n)) whole (last_part p pos size h ∙ ap (λ (x : ℕ). parts_of x size) g)

-- how many bytes its parts can hold
pub size_bound : (b : Block) → b.label < 499 → b.size ≤ 499 * parts_in b
size_bound b short =
    let p = payload_of b.label in
    let pos : 0 < p = omega arith in
    let le : p ≤ 499 = omega arith in
    omega (arith, parts-bounds p pos b.size, mul-le-mul_right (parts_in b) le)
