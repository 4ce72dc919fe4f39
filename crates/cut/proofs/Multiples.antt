-- Numbers that are multiples of another.
use mathlib.Core.Path.{◌≡◌, refl, sym, ap, ap₂, ◌∙◌}
use Prim.Native.Nat.{ℕ, zero, suc, ◌+◌, ◌*◌, ◌-◌, ◌/◌, ◌%◌, ◌≤◌, ◌<◌}
use native.Mathlib.Omega.{arith}
use native.Mathlib.Nat.{mul-zero, mul-suc, add-zero, div-add-mod, mul-div_right, mul-mod_right, mul-sub, mul-le-mul_left, lt_of_mul-lt-mul_left}

-- a multiple is so many times w
pub times : (w n : ℕ) → n % w ≡ 0 → n ≡ w * (n / w)
times w n h = sym (div-add-mod n w) ∙ ap (λ (r : ℕ). w * (n / w) + r) h ∙ add-zero (w * (n / w))

pub times_div : (w k n : ℕ) → 0 < w → n ≡ w * k → n / w ≡ k
times_div w k n p e = ap (λ (m : ℕ). m / w) e ∙ mul-div_right k p

pub times_mod : (w k n : ℕ) → n ≡ w * k → n % w ≡ 0
times_mod w k n e = ap (λ (m : ℕ). m % w) e ∙ mul-mod_right w k

-- the difference of two multiples is one
pub difference : (w m n : ℕ) → m % w ≡ 0 → n % w ≡ 0 → (m - n) % w ≡ 0
difference w m n hm hn =
    times_mod w (m / w - n / w) (m - n) (ap₂ ◌-◌ (times w m hm) (times w n hn) ∙ sym (mul-sub w (m / w) (n / w)))

-- the multiple before one that isn't 0
pub record Prior (w n : ℕ) : Type 0 where
  pub count : ℕ
  pub quotient : n / w ≡ suc count
  pub enough : w ≤ n
  pub rest : n - w ≡ w * count

pub prior : (w n : ℕ) → n % w ≡ 0 → 0 < n → Prior w n
prior w n h p = go (n / w) refl
  where
    go : (k : ℕ) → n / w ≡ k → Prior w n
    go zero e = let f : n ≡ w * zero = times w n h ∙ ap (λ (k : ℕ). w * k) e in absurd (omega (arith, f, mul-zero w))
    go (suc k) e =
        let f : n ≡ w * k + w = times w n h ∙ ap (λ (k : ℕ). w * k) e ∙ mul-suc w k in
        record { count = k; quotient = e; enough = omega arith; rest = omega arith }

-- the multiple after one
pub next_multiple : (w n : ℕ) → 0 < w → n % w ≡ 0 → ((n + w) / w ≡ suc (n / w)) × ((n + w) % w ≡ 0)
next_multiple w n p h =
    let e : n + w ≡ w * suc (n / w) = ap (λ (m : ℕ). m + w) (times w n h) ∙ sym (mul-suc w (n / w)) in
    (times_div w (suc (n / w)) (n + w) p e, times_mod w (suc (n / w)) (n + w) e)

-- is no more than any larger one
pub next_le : (w n m : ℕ) → n % w ≡ 0 → m % w ≡ 0 → n < m → n + w ≤ m
next_le w n m hn hm h =
    let i = n / w in
    let j = m / w in
    let ei : n ≡ w * i = times w n hn in
    let ej : m ≡ w * j = times w m hm in
    let l : w * i < w * j = omega arith in
    omega (arith, mul-suc w i, mul-le-mul_left w (lt_of_mul-lt-mul_left w l))
