-- The digits of a date, one by one; how many they are.
use mathlib.Core.Path.{◌≡◌, refl, ap}
use mathlib.Core.List.{[], ◌∷◌}
use Rattle.std.specs.List.{list_all}
use mathlib.Core.Bool.{Bool, true, false, ◌&&◌}
use Prim.Native.Nat.{ℕ}
use lib.Dec.{leb, eqb}
use borrow.Author.Tests.{eqb-true, eq-eqb, ne_eqb}
use lib.ListN.{length}
use Rattle.bedrock.proofs.Choices.{and-true}
use Rattle.buffer.specs.Bytes.{Bytes}
use Rattle.date.specs.Date.{decimals, is_date}

-- one decimal digit
abbrev pub decimal : ℕ → Bool
decimal b = leb 48 b && leb b 57

-- the test of each digit, as one of all
pub decimals-all : (d : Bytes) → list_all decimal d ≡ decimals d
decimals-all [] = refl
decimals-all (b ∷ d) = ap (λ (t : Bool). decimal b && t) (decimals-all d)

pub of-eight : (d : Bytes) → length d ≡ 8 → is_date d ≡ decimals d
unfolding is_date
of-eight d e = rw (eq-eqb (length d) 8 e)

pub not_eight : (d : Bytes) → (length d ≡ 8 → ⊥) → is_date d ≡ false
unfolding is_date
not_eight d n = rw (ne_eqb (length d) 8 n)

pub date-length : (d : Bytes) → is_date d ≡ true → length d ≡ 8
unfolding is_date
date-length d e = eqb-true (length d) 8 (and-true (eqb (length d) 8) (decimals d) e).0

pub date-decimals : (d : Bytes) → is_date d ≡ true → decimals d ≡ true
unfolding is_date
date-decimals d e = (and-true (eqb (length d) 8) (decimals d) e).1
