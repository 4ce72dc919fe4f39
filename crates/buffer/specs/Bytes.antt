-- Byte strings: compared, tested for zeros, and one written into another.
use Rattle.std.specs.Prelude.{Bool, true, false, ◌&&◌, List, [], ◌∷◌, ◌++◌, ℕ, ◌+◌, eqb, length, take, drop}

abbrev pub Bytes : Type 0
Bytes = List ℕ

-- the same bytes
abbrev pub same : Bytes → Bytes → Bool
same [] [] = true
same [] (b ∷ y) = false
same (a ∷ x) [] = false
same (a ∷ x) (b ∷ y) = eqb a b && same x y

-- nothing but zeros
abbrev pub zeros : Bytes → Bool
zeros [] = true
zeros (a ∷ x) = eqb a 0 && zeros x

-- d with s written from `at` on
abbrev pub put : Bytes → ℕ → Bytes → Bytes
put d at s = take at d ++ (s ++ drop (at + length s) d)
