-- What the code's tests say of doubt, and all that is learned.
use mathlib.Core.Path.{◌≡◌, refl, sym, ap, ◌∙◌}
use mathlib.Core.Bool.{Bool, true, false, cond}
use Prim.Native.Nat.{ℕ}
use native.Mathlib.Omega.{arith}
use lib.Dec.{eqb}
use Rattle.buffer.specs.Bytes.{Bytes}
use Rattle.sector_number.specs.declared.SectorNumber.{SectorNumber}
use Rattle.block.specs.Log.{joined, used}
use Rattle.refusal.specs.declared.Refusal.{Refusal}
use Rattle.refusal.specs.declared.Refusal.TheVariants.{NotHeld, NotKnown}
use Rattle.sector_log.specs.Parts.{tape}
use Rattle.sector_log.specs.LookUp.{doubtful, first_doubtful, absence}
use Rattle.known.specs.declared.Known.{Known}
use Rattle.known.specs.Known.{doubt_of, exactly, learned}
use Rattle.std.specs.Prelude.{Some, None, Option as Optional}

-- ---- doubt

module _ (log : Bytes) (w : Refusal) (e : w ≡ absence log) where
  pub doubt-at : (n : SectorNumber) → w ≡ NotKnown n → Some n ≡ doubt_of log
  unfolding doubt_of absence
  doubt-at n q = go (eqb (doubtful log) 0) (sym q ∙ e)
    where
      x : SectorNumber
      x = record { 0 = first_doubtful log }

      go : (b : Bool) → NotKnown n ≡ cond b NotHeld (NotKnown x) → Some n ≡ cond b None (Some x)
      go true d = let z : ◌≡◌ {A = ℕ} 0 1 = cc in absurd (omega arith)
      go false d = let z : n ≡ x = cc in ap Some z

  pub doubt_clear : ((n : SectorNumber) → w ≡ NotKnown n → ⊥) → None ≡ doubt_of log
  unfolding doubt_of absence
  doubt_clear f = go (eqb (doubtful log) 0) e
    where
      x : SectorNumber
      x = record { 0 = first_doubtful log }

      go : (b : Bool) → w ≡ cond b NotHeld (NotKnown x) → None ≡ cond b None (Some x)
      go true d = refl
      go false d = absurd (f x d)

-- ---- all of it

pub all-learned : (log w index : Bytes) (u v : SectorNumber) (d : Optional SectorNumber) (x : Bool) → u.0 ≡ used log → v.0 ≡ used w → d ≡ doubt_of (joined u.0 log w)
    → x ≡ exactly (joined u.0 log w) index → record { used = u; waits = v; doubt = d; exact = x } ≡ learned log w index
unfolding learned
all-learned log w index u v d x p q e f =
    known_is u v d x (record { 0 = used log }) (record { 0 = used w }) (doubt_of (tape log w)) (exactly (tape log w) index)
    (λ i. record { 0 = p i }) (λ i. record { 0 = q i }) (e ∙ ap (λ (n : ℕ). doubt_of (joined n log w)) p) (f ∙ ap (λ (n : ℕ). exactly (joined n log w) index) p)
  where
    known_is : (a b : SectorNumber) (c : Optional SectorNumber) (y : Bool) (a' b' : SectorNumber) (c' : Optional SectorNumber) (y' : Bool) → a ≡ a' → b ≡ b' → c ≡ c' → y ≡ y'
        → ◌≡◌ {A = Known} (record { used = a; waits = b; doubt = c; exact = y }) (record { used = a'; waits = b'; doubt = c'; exact = y' })
    known_is a b c y a' b' c' y' g h k l = λ i. record { used = g i; waits = h i; doubt = k i; exact = l i }
