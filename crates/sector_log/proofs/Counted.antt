-- Look-up with a count, taken apart: a block that is found is no longer than the count, a refusal is the look-up's own or 13.
use mathlib.Core.Path.{◌≡◌, refl, ap}
use mathlib.Core.Bool.{Bool, true, false, cond}
use mathlib.Core.Logic.{◌⊎◌, inl, inr}
use Prim.Native.Nat.{ℕ, ◌≤◌, ◌<◌}
use native.Mathlib.Omega.{arith}
use lib.Dec.{ltb}
use borrow.Author.Tests.{ltb-true, ltb-false}
use Rattle.refusal.specs.declared.Refusal.{Refusal}
use Rattle.refusal.specs.declared.Refusal.TheVariants.{OverCount}
use Rattle.block.specs.declared.Block.{Block}
use Rattle.sector_log.specs.LookUp.{counted}
use Rattle.std.specs.Prelude.{Ok, Err, Result}

pub counted-found : (count : ℕ) (l : Result Block Refusal) (b : Block) → counted count l ≡ Ok b → (l ≡ Ok b) × (b.size ≤ count)
counted-found count (Err w) b e = let z : ◌≡◌ {A = ℕ} 0 1 = cc in absurd (omega arith)
counted-found count (Ok g) b e = go (ltb count g.size) refl e
  where
    go : (t : Bool) → ltb count g.size ≡ t → ◌≡◌ {A = Result Block Refusal} (cond t (Err OverCount) (Ok g)) (Ok b) → ◌≡◌ {A = Result Block Refusal} (Ok g) (Ok b) × (b.size ≤ count)
    go true q d = let z : ◌≡◌ {A = ℕ} 0 1 = cc in absurd (omega arith)
    go false q d = let z : g ≡ b = cc in (d, omega (arith, ltb-false count g.size q, ap (λ (x : Block). x.size) z))

-- why a look-up with a count refuses
pub record Over (count : ℕ) (l : Result Block Refusal) (w : Refusal) : Type 0 where
  pub place : Block
  pub found : l ≡ Ok place
  pub long : count < place.size
  pub why : w ≡ OverCount

pub counted-refused : (count : ℕ) (l : Result Block Refusal) (w : Refusal) → counted count l ≡ Err w → (l ≡ Err w) ⊎ Over count l w
counted-refused count (Err v) w e = inl e
counted-refused count (Ok g) w e = go (ltb count g.size) refl e
  where
    go : (b : Bool) → ltb count g.size ≡ b → ◌≡◌ {A = Result Block Refusal} (cond b (Err OverCount) (Ok g)) (Err w) → ◌≡◌ {A = Result Block Refusal} (Ok g) (Err w) ⊎ Over count (Ok g) w
    go true q d = let z : OverCount ≡ w = cc in inr (record { place = g; found = refl; long = ltb-true count g.size q; why = cc })
    go false q d = let z : ◌≡◌ {A = ℕ} 0 1 = cc in absurd (omega arith)
