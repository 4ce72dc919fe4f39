-- The greatest size of a file: a product with a power, kept at most the size that it is compared with.
use mathlib.Core.Path.{◌≡◌, sym, ap, ◌∙◌}
use mathlib.Core.Bool.{true}
use Prim.Native.Nat.{ℕ, ◌+◌, ◌*◌, ◌/◌, ◌^◌, ◌≤◌, ◌<◌}
use native.Mathlib.Omega.{arith}
use native.Mathlib.Numerals.{add-one}
use native.Mathlib.Nat.{mul-one, mul_assoc, pow-zero, pow-suc, pow-le-pow_right, mul-le-mul_left, le-div_iff_mul-le, div-lt_iff_lt-mul}
use lib.Dec.{leb}
use borrow.Author.Tests.{le-leb}

-- before the first level
pub room-start : (d p : ℕ) → d ≡ d * p ^ 0
room-start d p = sym (ap (λ (x : ℕ). d * x) (pow-zero p) ∙ mul-one d)

module _ (size d p depth level product : ℕ) (pos : 0 < p) (e : product ≡ d * p ^ level) where
  -- one level more
  pub room_next : product * p ≡ d * p ^ (level + 1)
  room_next = ap (λ (x : ℕ). x * p) e ∙ mul_assoc d (p ^ level) p ∙ ap (λ (x : ℕ). d * x) (sym (pow-suc p level)) ∙ ap (λ (k : ℕ). d * p ^ k) (sym (add-one level))

  -- stays within the size
  pub room_within : product ≤ size / p → product * p ≤ size
  room_within h = (le-div_iff_mul-le {k = p} pos).0 h

  -- or passes it, and then so does every further one
  pub room_passed : level < depth → size / p < product → true ≡ leb size (d * p ^ depth)
  room_passed l h =
      let s : size < product * p = (div-lt_iff_lt-mul {k = p} pos).0 h in
      let m : level + 1 ≤ depth = omega arith in
      sym (le-leb size (d * p ^ depth) (omega (arith, room_next, mul-le-mul_left d (pow-le-pow_right pos m))))

  -- all levels
  pub room-end : level ≡ depth → leb size product ≡ leb size (d * p ^ depth)
  room-end q = ap (leb size) (e ∙ ap (λ (k : ℕ). d * p ^ k) q)
