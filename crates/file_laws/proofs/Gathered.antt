-- What is gathered: each byte is read, and it stops where the first offset refuses.
use mathlib.Core.Path.{◌≡◌, refl, ap, ◌∙◌}
use mathlib.Core.List.{[], ◌∷◌}
use Prim.Native.Nat.{ℕ, zero, suc, ◌+◌, ◌≤◌, ◌<◌}
use native.Mathlib.Omega.{arith}
use lib.ListN.{length, get_or}
use Rattle.refusal.specs.declared.Refusal.{Refusal}
use Rattle.fill.specs.Fill.{Read, Gathered, infront, gathered, byte, refused}
use Rattle.std.specs.Prelude.{Ok, Err}

pub record Gathers (read : ℕ → Read) (n o : ℕ) (g : Gathered) : Type 0 where
  pub few : length g.bytes ≤ n
  pub each : (j : ℕ) → j < length g.bytes → read (o + j) ≡ byte (get_or g.bytes j 0)
  pub done : g.stop ≡ Ok tt → length g.bytes ≡ n
  pub ends : (w : Refusal) → g.stop ≡ Err w → (length g.bytes < n) × (read (o + length g.bytes) ≡ refused w)

module _ (read : ℕ → Read) where
  none-gathered : (o : ℕ) → Gathers read 0 o (record { bytes = []; stop = (Ok tt) })
  none-gathered o = record {
    few = omega arith;
    each = λ j h. absurd (omega arith);
    done = λ e. refl;
    ends = λ w e. let z : ◌≡◌ {A = ℕ} 0 1 = cc in absurd (omega arith);
  }

  one-gathered : (n o : ℕ) (g : Gathered) → Gathers read n (suc o) g → (r : Read) → read o ≡ r → Gathers read (suc n) o (infront r g)
  one-gathered n o g G (refused w) e = record {
    few = omega arith;
    each = λ j h. absurd (omega arith);
    done = λ q. let z : ◌≡◌ {A = ℕ} 0 1 = cc in absurd (omega arith);
    ends = λ v q. let z : w ≡ v = cc in let o0 : o + 0 ≡ o = omega arith in (omega arith, ap read o0 ∙ e ∙ ap refused z);
  }
  one-gathered n o g G (byte b) e = record {
    few = omega (arith, G.few);
    each = λ j h. here j h;
    done = λ q. ap suc (G.done q);
    ends = λ w q. let t = G.ends w q in
        let s : o + suc (length g.bytes) ≡ suc o + length g.bytes = omega arith in (omega (arith, t.0), ap read s ∙ t.1);
  }
    where
      here : (j : ℕ) → j < suc (length g.bytes) → read (o + j) ≡ byte (get_or (b ∷ g.bytes) j 0)
      here zero h = let o0 : o + 0 ≡ o = omega arith in ap read o0 ∙ e
      here (suc j) h = let s : o + suc j ≡ suc o + j = omega arith in ap read s ∙ G.each j (omega arith)

  pub gathers : (n o : ℕ) → Gathers read n o (gathered read n o)
  unfolding gathered
  gathers zero o = none-gathered o
  gathers (suc n) o = one-gathered n o (gathered read n (suc o)) (gathers n (suc o)) (read o) refl
