-- Digits by repeated division.
use mathlib.Core.Path.{◌≡◌, sym, ap, ◌∙◌}
use Prim.Native.Nat.{ℕ, suc, ◌-◌, ◌/◌, ◌%◌, ◌^◌, ◌≤◌, ◌<◌}
use native.Mathlib.Nat.{div-one, div-div-eq-div-mul, pow-zero, pow-succ', mod-lt}
use native.Mathlib.Omega.{arith}
use Rattle.kind.specs.Kind.{longest}

pub digit_next : (q p k : ℕ) → 0 < k → q / p / p ^ (k - 1) ≡ q / p ^ k
digit_next q p k h =
    let e : suc (k - 1) ≡ k = omega arith in
    div-div-eq-div-mul q p (p ^ (k - 1)) ∙ ap (λ (x : ℕ). q / x) (sym (pow-succ' p (k - 1))) ∙ ap (λ (x : ℕ). q / p ^ x) e

pub digit_end : (q p k m : ℕ) → k ≡ 0 → q / p ^ k ≡ m → q % p ≡ m % p
digit_end q p k m z e = ap (λ (x : ℕ). x % p) (sym (ap (λ (x : ℕ). q / p ^ x) z ∙ ap (λ (x : ℕ). q / x) (pow-zero p) ∙ div-one q) ∙ e)

-- an index is below p
pub digit_small : (psize m r : ℕ) → 40 ≤ psize → psize ≤ longest → r ≡ m % (psize / 20) → r ≤ longest
digit_small psize m r a b e = let g : 0 < psize / 20 = omega arith in omega (arith, mod-lt m g)
