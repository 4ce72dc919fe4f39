-- Where the first of a byte is, and what stands at the front of bytes.
use mathlib.Core.Path.{◌≡◌, sym}
use mathlib.Core.Bool.{false}
use Prim.Native.Nat.{ℕ, suc, ◌+◌, ◌-◌, ◌≤◌, ◌<◌}
use native.Mathlib.Omega.{arith}
use native.Mathlib.Numerals.{add-one}
use borrow.Author.Tests.{eq-eqb, ne_eqb}
use lib.ListN.{length, get_or, take, drop, drop_of_length-le, length-take, length-drop}
use lib.Seq.{drop-cons}
use Rattle.buffer.specs.Bytes.{Bytes, same}
use Rattle.buffer.proofs.Steps.{same-lengths}
use Rattle.card.specs.Card.{up_to, begins}

module _ (c : ℕ) (s : Bytes) (i : ℕ) where
  pub byte-here : i < length s → get_or s i 0 ≡ c → length (up_to c (drop i s)) ≡ 0
  unfolding up_to
  byte-here h e = rw (drop-cons s i 0, eq-eqb (get_or s i 0) c e)

  pub byte-on : i < length s → (get_or s i 0 ≡ c → ⊥) → length (up_to c (drop i s)) ≡ suc (length (up_to c (drop (i + 1) s)))
  unfolding up_to
  byte-on h n = rw (drop-cons s i 0, add-one, ne_eqb (get_or s i 0) c n)

  pub byte-none : length s ≤ i → length (up_to c (drop i s)) ≡ 0
  unfolding up_to
  byte-none h = rw (drop_of_length-le s h)

module _ (s : Bytes) (at : ℕ) (p : Bytes) where
  pub begins-short : length s - at < length p → false ≡ begins (drop at s) p
  begins-short h = sym (same-lengths (take (length p) (drop at s)) p (λ e. absurd (omega (arith, e, length-take (length p) (drop at s), length-drop at s))))

  pub begins_part : (e : ℕ) → e ≡ at + length p → same (take (e - at) (drop at s)) p ≡ begins (drop at s) p
  begins_part e q = let z : e - at ≡ length p = omega arith in rw z
