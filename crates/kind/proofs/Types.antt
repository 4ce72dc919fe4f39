-- The ten types, and what the enumeration becomes, number by number.
use mathlib.Core.Path.{◌≡◌, refl}
use mathlib.Core.Bool.{Bool, true, false, ◌&&◌}
use mathlib.Core.List.{[], ◌∷◌, map}
use Prim.Native.Nat.{ℕ, ◌≤◌, ◌<◌}
use Rattle.std.specs.Prelude.{Ok, Err}
use native.Mathlib.Omega.{arith}
use lib.Dec.{leb}
use borrow.Author.Tests.{leb-true, le-leb, eqb-true}
use Rattle.bedrock.proofs.Choices.{and-true}
use Rattle.refusal.specs.declared.Refusal.TheVariants.{BlockType}
use Rattle.kind.specs.Kind.{lawful, is_pointer, wire_type}

-- a pointer type is one of the ten
pub pointer-lawful : (t : ℕ) → is_pointer t ≡ true → lawful t ≡ true
unfolding is_pointer lawful
pointer-lawful t e =
    let p = and-true (leb 3 t) (leb t 9) e in
    let h : 1 ≤ t = omega (arith, leb-true 3 t p.0) in
    rw (le-leb 1 t h, p.1)

-- a type is a byte
pub lawful_lt : (t : ℕ) → lawful t ≡ true → t < 256
unfolding lawful
lawful_lt t e = go (leb 1 t && leb t 9) refl
  where
    go : (b : Bool) → (leb 1 t && leb t 9) ≡ b → t < 256
    go true q = omega (arith, leb-true t 9 (and-true (leb 1 t) (leb t 9) q).1)
    go false q = omega (arith, eqb-true t 13 (rw q at e))

-- "0 to 13; 1..7 to 3..9; 8 to 2; 9..15 to 3..9; 16 to 1; anything else is refused with 9"
pub enumeration : map wire_type (0 ∷ 1 ∷ 2 ∷ 3 ∷ 4 ∷ 5 ∷ 6 ∷ 7 ∷ 8 ∷ 9 ∷ 10 ∷ 11 ∷ 12 ∷ 13 ∷ 14 ∷ 15 ∷ 16 ∷ 17 ∷ [])
    ≡ (Ok 13 ∷ Ok 3 ∷ Ok 4 ∷ Ok 5 ∷ Ok 6 ∷ Ok 7 ∷ Ok 8 ∷ Ok 9 ∷ Ok 2
    ∷ Ok 3 ∷ Ok 4 ∷ Ok 5 ∷ Ok 6 ∷ Ok 7 ∷ Ok 8 ∷ Ok 9 ∷ Ok 1 ∷ Err BlockType ∷ [])
unfolding wire_type
enumeration = refl
