-- The pieces of a block: how its bytes split.
use mathlib.Core.Path.{◌≡◌, refl, sym, ap, ap₂, ◌∙◌}
use mathlib.Core.Bool.{Bool, true, false, cond}
use mathlib.Core.List.{[], ◌∷◌, ◌++◌}
use Prim.Native.Nat.{ℕ, zero, suc, ◌+◌, ◌-◌, ◌*◌, ◌/◌, ◌≤◌, ◌<◌, min}
use native.Mathlib.Nat.{sub-zero, zero-sub, suc-sub-suc}
use native.Mathlib.Numerals.{add-one}
use native.Mathlib.Omega.{arith}
use lib.Dec.{ltb, leb}
use borrow.Author.Tests.{ltb-true, leb-true, leb-false}
use lib.ListN.{length, take, drop, length-take}
use lib.Seq.{take-nil, take_all, take-take, length-take-le}
use Rattle.buffer.specs.Bytes.{Bytes}
use Rattle.buffer.proofs.Bytes.{small-append, small-take, small-drop, small-replicate}
use Rattle.digits.specs.Number.{small}
use Rattle.sector.specs.Sector.{blank, payload_of}
use Rattle.block.specs.Block.{parts_of, parts_in}
use Rattle.block.specs.declared.Block.{Block}
use Rattle.block.specs.Log.{sectors, at, payloads, bytes_of}
use Rattle.block.proofs.Facts.{parts-bounds, parts_none, parts-one, parts_more, some-parts}
use Rattle.block.proofs.Payloads.{load, length-load, length-payloads}

pub take-append : (n : ℕ) (x y : Bytes) → take n (x ++ y) ≡ take n x ++ take (n - length x) y
take-append n [] y = rw (take-nil, sub-zero)
take-append zero (a ∷ x) y = rw zero-sub
take-append (suc n) (a ∷ x) y = rw suc-sub-suc (ap (λ (z : Bytes). a ∷ z) (take-append n x y))

-- ---- one sector

module _ (log : Bytes) (n : ℕ) where
  -- what holds of a blank sector, and of one within the log
  at_cases : (P : Bytes → Type 0) → (n < sectors (length log) → P (take 512 (drop (512 * n) log))) → P blank → P (at log n)
  unfolding at
  at_cases P f g = go (ltb n (length log / 512)) refl
    where
      go : (b : Bool) → ltb n (length log / 512) ≡ b → P (cond b (take 512 (drop (512 * n) log)) blank)
      go true q = f (ltb-true n (length log / 512) q)
      go false q = g

  pub small_at : small log ≡ true → small (at log n) ≡ true
  unfolding blank
  small_at e = at_cases (λ (s : Bytes). small s ≡ true) (λ h. small-take 512 (drop (512 * n) log) (small-drop (512 * n) log e)) (small-replicate 512)

-- ---- the payloads of several, behind labels of one length

small-payloads : (label : ℕ) (log : Bytes) → small log ≡ true → (k n : ℕ) → small (payloads label log k n) ≡ true
unfolding payloads
small-payloads label log e zero n = refl
small-payloads label log e (suc k) n =
    let s = drop label (at log n) in
    small-append (take (payload_of label) s) (payloads label log k (suc n)) (small-take (payload_of label) s (small-drop label (at log n) (small_at log n e))) (small-payloads label log e k (suc n))

-- ---- a piece

-- the part of a sector that holds the first size bytes of its payload
module _ (label : ℕ) (log : Bytes) (n : ℕ) (s : Bytes) (size : ℕ) (e : s ≡ at log n) where
  pub piece-whole : payload_of label ≤ size → take (499 - label) (drop label s) ≡ take size (take (payload_of label) (drop label (at log n)))
  piece-whole h =
      let x = drop label (at log n) in
      ap (λ (y : Bytes). take (payload_of label) (drop label y)) e ∙ sym (take_all size (take (payload_of label) x) (omega (arith, length-take (payload_of label) x)))

  pub piece_part : size < payload_of label → take (label + size - label) (drop label s) ≡ take size (take (payload_of label) (drop label (at log n)))
  piece_part h =
      let w : label + size - label ≡ size = omega arith in
      ap (λ (m : ℕ). take m (drop label s)) w ∙ ap (λ (x : Bytes). take size (drop label x)) e
      ∙ sym (take-take size (payload_of label) (drop label (at log n)) (omega arith))

-- ---- a block's bytes

pub length-bytes : (log : Bytes) (b : Block) → b.label < 499 → length (bytes_of log b) ≡ b.size
length-bytes log b short =
    let p = payload_of b.label in
    let pos : 0 < p = omega arith in
    length-take-le b.size (payloads b.label log (parts_in b) b.first.0)
    (omega (arith, length-payloads b.label short log (parts_in b) b.first.0, parts-bounds p pos b.size))

pub small_bytes : (log : Bytes) (b : Block) → small log ≡ true → small (bytes_of log b) ≡ true
small_bytes log b e = small-take b.size (payloads b.label log (parts_in b) b.first.0) (small-payloads b.label log e (parts_in b) b.first.0)

-- the block of `size` bytes from sector n on
abbrev pub block_at : ℕ → ℕ → ℕ → Block
block_at label n size = record { first = record { 0 = n }; size = size; label = label }

-- while bytes are left, sector n is one of those of which m are there
pub piece-here : (label n size done m : ℕ) → label < 499 → done < size → n + parts_of (payload_of label) (size - done) ≤ m → n < m
piece-here label n size done m short h g = omega (arith, some-parts (payload_of label) (omega arith) (size - done) (omega arith))

-- behind `done` bytes of a block of `size`, from sector n on: the next piece, and what is left after it
module _ (label : ℕ) (short : label < 499) (log : Bytes) (n size done : ℕ) (h : done < size) (p : Bytes) (e : p ≡ take (size - done) (take (payload_of label) (drop label (at log n)))) where
  pub piece-length : length p ≡ min (size - done) (payload_of label)
  piece-length = ap length e ∙ length-take (size - done) (load label short log n) ∙ ap (min (size - done)) (length-load label short log n)

  parts-left : (a m : ℕ) → 0 < a → m ≡ min a (payload_of label) → parts_of (payload_of label) a ≡ suc (parts_of (payload_of label) (a - m))
  parts-left a m g q = go (leb a (payload_of label)) refl
    where
      go : (t : Bool) → leb a (payload_of label) ≡ t → parts_of (payload_of label) a ≡ suc (parts_of (payload_of label) (a - m))
      go true r =
          let le = leb-true a (payload_of label) r in
          let z : a - m ≡ 0 = omega arith in
          parts-one (payload_of label) (omega arith) a g le ∙ sym (ap (λ (x : ℕ). suc (parts_of (payload_of label) x)) z ∙ ap suc (parts_none (payload_of label) (omega arith)))
      go false r =
          let lt = leb-false a (payload_of label) r in
          let z : a ≡ a - m + payload_of label = omega arith in
          ap (parts_of (payload_of label)) z ∙ parts_more (payload_of label) (omega arith) (a - m)

  piece-parts : parts_of (payload_of label) (size - done) ≡ suc (parts_of (payload_of label) (size - (done + length p)))
  piece-parts =
      let z : size - done - length p ≡ size - (done + length p) = omega arith in
      parts-left (size - done) (length p) (omega arith) piece-length ∙ ap (λ (x : ℕ). suc (parts_of (payload_of label) x)) z

  pub piece-room : (m : ℕ) → n + parts_of (payload_of label) (size - done) ≤ m → n + 1 + parts_of (payload_of label) (size - (done + length p)) ≤ m
  piece-room m g = omega (arith, piece-parts)

  pub piece-next : bytes_of log (block_at label n (size - done)) ≡ p ++ bytes_of log (block_at label (n + 1) (size - (done + length p)))
  unfolding payloads
  piece-next =
      let q = load label short log n in
      let left : size - done - length q ≡ size - (done + length p) = omega (arith, piece-length, length-load label short log n) in
      let k = parts_of (payload_of label) (size - (done + length p)) in
      ap (λ (j : ℕ). take (size - done) (payloads label log j n)) piece-parts
      ∙ ap (λ (m : ℕ). take (size - done) (q ++ payloads label log k m)) (sym (add-one n))
      ∙ take-append (size - done) q (payloads label log k (n + 1))
      ∙ ap₂ (λ (x : Bytes) (m : ℕ). x ++ take m (payloads label log k (n + 1))) (sym e) left

-- nothing is left
pub piece-none : (label : ℕ) (log : Bytes) (n size done : ℕ) → size ≤ done → bytes_of log (block_at label n (size - done)) ≡ []
piece-none label log n size done h = let z : size - done ≡ 0 = omega arith in ap (λ (m : ℕ). bytes_of log (block_at label n m)) z
