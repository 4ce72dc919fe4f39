-- std's bytes of a number are its digits in base 256. Assumes nothing.
use mathlib.Core.Path.{◌≡◌, refl, sym, ap, ◌∙◌}
use mathlib.Core.List.{List, [], ◌∷◌, ◌++◌}
use Prim.Native.Nat.{ℕ, zero, suc, ◌*◌, ◌/◌, ◌%◌, ◌^◌}
use native.Mathlib.Nat.{div-div-eq-div-mul, pow-succ'}
use Rattle.std.specs.Int.{byte_at, bytes_high_first}
use Rattle.digits.specs.Number.{digits, be_bytes}

-- a byte above the lowest is one of the number without it
byte_above : (k n : ℕ) → byte_at (suc k) n ≡ byte_at k (n / 256)
byte_above zero n = refl
byte_above (suc k) n = ap (λ (x : ℕ). x % 256) (ap (λ (x : ℕ). n / x) (pow-succ' 256 (suc k)) ∙ sym (div-div-eq-div-mul n 256 (256 ^ suc k)))

-- the bytes but the lowest, and the lowest
lowest_last : (k n : ℕ) → bytes_high_first (suc k) n ≡ bytes_high_first k (n / 256) ++ (n % 256 ∷ [])
lowest_last zero n = refl
lowest_last (suc k) n = rw (lowest_last k n, byte_above k n)

pub be_bytes_are : (k n : ℕ) → bytes_high_first k n ≡ be_bytes k n
unfolding digits
be_bytes_are zero n = refl
be_bytes_are (suc k) n = lowest_last k n ∙ ap (λ (x : List ℕ). x ++ (n % 256 ∷ [])) (be_bytes_are k (n / 256))
