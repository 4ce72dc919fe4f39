-- Sectors in a list of blocks, and the number of those outside of it.
use mathlib.Core.Path.{◌≡◌, refl, sym, ap, ◌∙◌}
use mathlib.Core.Bool.{Bool, true, false}
use mathlib.Core.List.Memᴰ
use mathlib.Core.List.{List, [], ◌∷◌, Memᴰ}
use mathlib.Core.Logic.{◌⊎◌, inl, inr}
use Prim.Native.Nat.{ℕ, zero, suc, ◌≤◌, ◌<◌}
use native.Mathlib.Omega.{arith}
use lib.Dec.{eqb}
use borrow.Author.Tests.{eqb-true, eqb-false}
use Rattle.bedrock.specs.Places.{within}
use Rattle.bedrock.proofs.Choices.{cond_ind, or_right, true_unless}
use Rattle.block.specs.Block.{Row, parts}
use Rattle.sector_log.specs.LookUp.{in_block, outside}

-- sector n is one of the row's
abbrev pub covers : Row → ℕ → Bool
covers r n = within r.first (parts r) n

pub in_none : (rows : List Row) (n : ℕ) → ((r : Row) → Memᴰ r rows → covers r n ≡ false) → in_block rows n ≡ false
unfolding in_block
in_none [] n f = refl
in_none (r ∷ rows) n f = rw (f r (Memᴰ.head refl)) (in_none rows n (λ s m. f s (Memᴰ.tail m)))

pub in_some : (rows : List Row) (r : Row) (n : ℕ) → Memᴰ r rows → covers r n ≡ true → in_block rows n ≡ true
unfolding in_block
in_some [] r n m e = absurd (Memᴰ.not-nil m)
in_some (s ∷ rows) r n m e = go (Memᴰ.cases_cons m) (λ m'. in_some rows r n m' e)
  where
    go : (r ≡ s) ⊎ Memᴰ r rows → (Memᴰ r rows → in_block rows n ≡ true) → in_block (s ∷ rows) n ≡ true
    go (inl q) f = rw (ap (λ (x : Row). covers x n) (sym q) ∙ e)
    go (inr m') f = or_right (covers s n) (in_block rows n) (f m')

-- ---- the number of sectors outside, of the first k

pub outside_in : (rows : List Row) (k : ℕ) → in_block rows k ≡ true → outside rows (suc k) ≡ outside rows k
unfolding outside
outside_in rows k e = rw e

pub outside_out : (rows : List Row) (k : ℕ) → in_block rows k ≡ false → outside rows (suc k) ≡ suc (outside rows k)
unfolding outside
outside_out rows k e = rw e

outside-more : (rows : List Row) (k : ℕ) → outside rows k ≤ outside rows (suc k)
unfolding outside
outside-more rows k = cond_ind (λ (u : ℕ). outside rows k ≤ u) (in_block rows k) (outside rows k) (suc (outside rows k)) (λ _. omega arith) (λ _. omega arith)

pub outside_mono : (rows : List Row) (j k : ℕ) → j ≤ k → outside rows j ≤ outside rows k
outside_mono rows j zero h = let z : j ≡ 0 = omega arith in omega (arith, ap (outside rows) z)
outside_mono rows j (suc k) h = go (eqb j (suc k)) refl (outside_mono rows j k)
  where
    go : (b : Bool) → eqb j (suc k) ≡ b → (j ≤ k → outside rows j ≤ outside rows k) → outside rows j ≤ outside rows (suc k)
    go true q f = omega (arith, ap (outside rows) (eqb-true j (suc k) q))
    go false q f = omega (arith, f (omega (arith, eqb-false j (suc k) q)), outside-more rows k)

-- none is outside exactly if each is in a block
pub outside-zero : (rows : List Row) (k : ℕ) → outside rows k ≡ 0 → (n : ℕ) → n < k → in_block rows n ≡ true
outside-zero rows k e n h = true_unless (in_block rows n) (λ q. omega (arith, outside_out rows n q, outside_mono rows (suc n) k h))

pub zero-outside : (rows : List Row) (k : ℕ) → ((n : ℕ) → n < k → in_block rows n ≡ true) → outside rows k ≡ 0
unfolding outside
zero-outside rows zero f = refl
zero-outside rows (suc k) f = outside_in rows k (f k (omega arith)) ∙ zero-outside rows k (λ n h. f n (omega arith))
