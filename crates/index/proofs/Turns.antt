-- What the code's turns and writes are: one turn of the search for a free place, an entry as it is written and put into its place.
use mathlib.Core.Path.{◌≡◌, sym, ap, ap₂, ◌∙◌}
use mathlib.Core.Bool.{Bool, true, false}
use mathlib.Core.List.{[], ◌∷◌, ◌++◌}
use Prim.Native.Nat.{ℕ, suc, ◌+◌, ◌-◌, ◌*◌, ◌/◌, ◌≤◌, ◌<◌}
use native.Mathlib.Omega.{arith}
use native.Mathlib.Numerals.{add-one}
use lib.Dec.{ltb}
use borrow.Author.Tests.{lt-ltb, le-ltb}
use lib.ListN.{length, take, drop, set, replicate, length-take, length-drop}
use Rattle.buffer.specs.Bytes.{Bytes, zeros, put}
use Rattle.buffer.proofs.Put.{length-put, put_next, put_mid_lem, put_one, put_whole}
use Rattle.digits.specs.Number.{be_bytes}
use Rattle.digits.proofs.NumberLaws.{length_digits}
use Rattle.index.specs.declared.Bucket.{Bucket}
use Rattle.index.specs.Index.{bucket_of, place_at, named, entry_bytes, free, first_free, free_place, entered, cleared}
use Rattle.index.proofs.Places.{length-named, length-entry}

-- ---- the search for a free place

module _ (index : Bytes) (p to : ℕ) (z : Bool) (e : z ≡ zeros (take (25 * p + 25 - 25 * p) (drop (25 * p) index))) (h : p < to) where
  tested : z ≡ free index p
  unfolding place_at
  tested = let k : 25 * p + 25 - 25 * p ≡ 25 = omega arith in rw k at e

  more : to - p ≡ suc (to - (p + 1))
  more = omega arith

  pub free-here : z ≡ true → first_free index (to - p) p ≡ p
  unfolding first_free
  free-here q = ap (λ (k : ℕ). first_free index k p) more ∙ rw (sym tested ∙ q)

  pub free-next : z ≡ false → first_free index (to - (p + 1)) (p + 1) ≡ first_free index (to - p) p
  unfolding first_free
  free-next q = sym (ap (λ (k : ℕ). first_free index k p) more ∙ rw (sym tested ∙ q) (ap (first_free index (to - (p + 1))) (sym (add-one p))))

pub free-end : (index : Bytes) (p to : ℕ) → to ≤ p → first_free index (to - p) p ≡ p
unfolding first_free
free-end index p to h = let z : to - p ≡ 0 = omega arith in ap (λ (k : ℕ). first_free index k p) z

-- ---- an entry, written to its place

module _ (d d₁ score : Bytes) (kind : ℕ) (l : length d ≡ 25) (h : length score ≡ 20) (e₁ : d₁ ≡ put d 0 score) where
  named-written : set d₁ 20 kind ≡ put d 0 (named score kind)
  named-written =
      ap (λ (x : Bytes). set x 20 kind) e₁
      ∙ put_one (put d 0 score) 20 kind (omega (arith, length-put d 0 score (omega arith)))
      ∙ put_next d 0 20 score (kind ∷ []) (omega arith) (omega arith)

  pub named-length : length (set d₁ 20 kind) ≡ 25
  named-length = ap length named-written ∙ length-put d 0 (named score kind) (omega (arith, length-named score kind h)) ∙ l

  module _ (ys : Bytes) (first : ℕ) (e₂ : ys ≡ be_bytes (length (take 4 (drop 21 (set d₁ 20 kind)))) first) where
    four : length (take 4 (drop 21 (set d₁ 20 kind))) ≡ 4
    four = simp (length-take, length-drop) (omega (arith, named-length))

    digits : ys ≡ be_bytes 4 first
    digits = e₂ ∙ ap (λ (w : ℕ). be_bytes w first) four

    length_ys : length ys ≡ 4
    length_ys = ap length digits ∙ length_digits 256 4 first

    pub entry-written : take 21 (set d₁ 20 kind) ++ (ys ++ drop 4 (drop 21 (set d₁ 20 kind))) ≡ entry_bytes score kind first
    entry-written =
        put_mid_lem (set d₁ 20 kind) ys 21 25 (omega arith) length_ys
        ∙ ap₂ (λ (x y : Bytes). put x 21 y) named-written digits
        ∙ put_next d 0 21 (named score kind) (be_bytes 4 first) (omega (arith, length-named score kind h)) (omega (arith, length-named score kind h, length_digits 256 4 first))
        ∙ put_whole d (entry_bytes score kind first) (omega (arith, length-entry score kind first h))

    pub entry_length_lem : length (take 21 (set d₁ 20 kind) ++ (ys ++ drop 4 (drop 21 (set d₁ 20 kind)))) ≡ length d
    entry_length_lem = ap length entry-written ∙ omega (arith, l, length-entry score kind first h)

-- ---- the entry is put into the first free place of its bucket

module _ (index score : Bytes) (kind first : ℕ) (b : Bucket) (e : b ≡ bucket_of index score) (p : ℕ) (f : p ≡ first_free index (b.to - b.from) b.from) where
  found : p ≡ free_place index score
  found = f ∙ ap (λ (x : Bucket). first_free index (x.to - x.from) x.from) e

  pub entered-free : (ys : Bytes) → 25 * b.to ≤ length index → p < b.to → length score ≡ 20 → ys ≡ entry_bytes score kind first
      → take (25 * p) index ++ (ys ++ drop (25 * p + 25 - 25 * p) (drop (25 * p) index)) ≡ entered index score kind first
  unfolding entered
  entered-free ys h l k q =
      let t : ltb (free_place index score) (bucket_of index score).to ≡ true = sym (ap₂ ltb found (ap (λ (x : Bucket). x.to) e)) ∙ lt-ltb p b.to l in
      put_mid_lem index ys (25 * p) (25 * p + 25) (omega arith) (omega (arith, ap length q ∙ length-entry score kind first k))
      ∙ ap₂ (λ (n : ℕ) (x : Bytes). put index (25 * n) x) found q
      ∙ rw t

  pub entered-full : b.to ≤ p → index ≡ entered index score kind first
  unfolding entered
  entered-full l =
      let t : ltb (free_place index score) (bucket_of index score).to ≡ false = sym (ap₂ ltb found (ap (λ (x : Bucket). x.to) e)) ∙ le-ltb p b.to l in
      rw t

-- ---- the buckets cleared

front-cleared : (index ys : Bytes) (n : ℕ) → n ≤ length index → ys ≡ replicate (length (take (n - 0) index)) 0 → ys ++ drop (n - 0) index ≡ replicate n 0 ++ drop n index
front-cleared index ys n h e =
    let z : n - 0 ≡ n = omega arith in
    let k : length (take n index) ≡ n = simp length-take (omega arith) in
    ap (λ (m : ℕ). ys ++ drop m index) z
    ∙ ap (λ (x : Bytes). x ++ drop n index) (e ∙ ap (λ (m : ℕ). replicate (length (take m index)) 0) z ∙ ap (λ (m : ℕ). replicate m 0) k)

pub cleared-is : (index ys : Bytes) → ys ≡ replicate (length (take (6400 * (length index / 6400) - 0) index)) 0
    → ys ++ drop (6400 * (length index / 6400) - 0) index ≡ cleared index
unfolding cleared
cleared-is index ys e = front-cleared index ys (6400 * (length index / 6400)) (omega arith) e
