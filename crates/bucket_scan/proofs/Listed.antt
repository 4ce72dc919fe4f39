-- What the code's turns say of the entries of a bucket.
use mathlib.Core.Path.{◌≡◌, sym, ap, ◌∙◌}
use mathlib.Core.Bool.{Bool, true, false, ◌&&◌, ◌||◌}
use Prim.Native.Nat.{ℕ, suc, ◌+◌, ◌-◌, ◌≤◌, ◌<◌}
use native.Mathlib.Omega.{arith}
use native.Mathlib.Numerals.{add-one}
use lib.Dec.{eqb}
use lib.ListN.{take}
use borrow.Author.Tests.{eq-eqb, ne_eqb}
use Rattle.buffer.specs.Bytes.{Bytes, same}
use Rattle.index.specs.Index.{place_at, named, sector_at, bucket_of}
use Rattle.index.specs.declared.Bucket.{Bucket}
use Rattle.known.specs.Known.{listed_from, listed}

module _ (index score : Bytes) (kind first : ℕ) where
  pub list_starts : (b : Bucket) → b ≡ bucket_of index score → listed_from index score kind first (b.to - b.from) b.from ≡ listed index score kind first
  unfolding listed
  list_starts b e = ap (λ (x : Bucket). listed_from index score kind first (x.to - x.from) x.from) e

  -- the entry at a place is one
  abbrev here : ℕ → Bool
  here p = same (take 21 (place_at index p)) (named score kind) && eqb (sector_at index p) first

  module _ (p to : ℕ) (h : p < to) (all : listed_from index score kind first (to - p) p ≡ listed index score kind first) where
    one_turn : (here p || listed_from index score kind first (to - (p + 1)) (p + 1)) ≡ listed index score kind first
    unfolding listed_from
    one_turn =
        ap (λ (n : ℕ). here p || listed_from index score kind first (to - (p + 1)) n) (add-one p)
        ∙ ap (λ (n : ℕ). listed_from index score kind first n p) (sym more) ∙ all
      where
        more : to - p ≡ suc (to - (p + 1))
        more = omega arith

    module _ (a : Bool) (e : a ≡ same (take 21 (place_at index p)) (named score kind)) where
      pub list_here : (n : ℕ) → a ≡ true → n ≡ sector_at index p → n ≡ first → true ≡ listed index score kind first
      list_here n q f g =
          let z : here p ≡ true = rw (sym e ∙ q, eq-eqb (sector_at index p) first (sym f ∙ g)) in
          sym (ap (λ (b : Bool). b || listed_from index score kind first (to - (p + 1)) (p + 1)) z) ∙ one_turn

      pub list_unnamed : a ≡ false → listed_from index score kind first (to - (p + 1)) (p + 1) ≡ listed index score kind first
      list_unnamed q =
          let z : here p ≡ false = rw (sym e ∙ q) in
          sym (ap (λ (b : Bool). b || listed_from index score kind first (to - (p + 1)) (p + 1)) z) ∙ one_turn

      pub list_elsewhere : (n : ℕ) → a ≡ true → n ≡ sector_at index p → (n ≡ first → ⊥)
          → listed_from index score kind first (to - (p + 1)) (p + 1) ≡ listed index score kind first
      list_elsewhere n q f g =
          let z : here p ≡ false = rw (sym e ∙ q, ne_eqb (sector_at index p) first (λ x. g (f ∙ x))) in
          sym (ap (λ (b : Bool). b || listed_from index score kind first (to - (p + 1)) (p + 1)) z) ∙ one_turn

  pub list_ends : (p to : ℕ) → to ≤ p → listed_from index score kind first (to - p) p ≡ listed index score kind first → false ≡ listed index score kind first
  unfolding listed_from
  list_ends p to h e = let z : to - p ≡ 0 = omega arith in sym (ap (λ (k : ℕ). listed_from index score kind first k p) z) ∙ e
