-- The bytes of an entry, each set at its place.
use mathlib.Core.Path.{◌≡◌, ap, ◌∙◌}
use mathlib.Core.List.{◌∷◌, ◌++◌, append-nil}
use Prim.Native.Nat.{ℕ, ◌+◌, ◌*◌, ◌/◌, ◌%◌, ◌≤◌}
use native.Mathlib.Omega.{arith}
use lib.ListN.{length, take, drop, replicate, set}
use borrow.Author.Tests.{eq-eqb, ne_eqb}
use Rattle.buffer.specs.Bytes.{Bytes, put}
use Rattle.digits.specs.Number.{digits}
use Rattle.kind.specs.Kind.{longest, zero_score}
use Rattle.entry.specs.Made.{made_entry}
use Rattle.writer.specs.Blocks.{top_of}

module _ (psize dsize depth size : ℕ) where
  abbrev pub set_bytes : Bytes
  set_bytes =
      set (set (set (set (set (set (set (replicate 40 0) 4 (psize / 256)) 5 (psize % 256)) 6 (dsize / 256)) 7 (dsize % 256)) 8 (1 + 4 * depth)) 18 (size / 256)) 19 (size % 256)

  pub entry-bytes : psize ≤ longest → dsize ≤ longest → size ≤ longest → (score : Bytes) → length score ≡ 20
      → put set_bytes 20 score ≡ made_entry psize dsize depth size score
  unfolding digits
  entry-bytes hp hd hs score l =
      let p : psize / 256 ≡ psize / 256 % 256 = omega arith in
      let d : dsize / 256 ≡ dsize / 256 % 256 = omega arith in
      let s : size / 256 ≡ size / 256 % 256 = omega arith in
      let s2 : 0 ≡ size / 256 / 256 % 256 = omega arith in
      let s3 : 0 ≡ size / 256 / 256 / 256 % 256 = omega arith in
      let s4 : 0 ≡ size / 256 / 256 / 256 / 256 % 256 = omega arith in
      let s5 : 0 ≡ size / 256 / 256 / 256 / 256 / 256 % 256 = omega arith in
      ap (λ (k : ℕ). take 20 set_bytes ++ (score ++ drop (20 + k) set_bytes)) l
      ∙ ap (λ (x : Bytes). take 20 set_bytes ++ x) (append-nil score)
      ∙ (λ i. 0 ∷ 0 ∷ 0 ∷ 0 ∷ p i ∷ psize % 256 ∷ d i ∷ dsize % 256 ∷ (1 + 4 * depth) ∷ 0 ∷ 0 ∷ 0 ∷ 0 ∷ 0 ∷ s5 i ∷ s4 i ∷ s3 i ∷ s2 i ∷ s i ∷ size % 256 ∷ score)

-- the top score
pub top-none : (s : Bytes) → length s ≡ 0 → zero_score ≡ top_of s
unfolding top_of
top-none s h = rw (eq-eqb (length s) 0 h)

pub top-some : (s : Bytes) → (length s ≡ 0 → ⊥) → take 20 s ≡ top_of s
unfolding top_of
top-some s h = rw (ne_eqb (length s) 0 h)
