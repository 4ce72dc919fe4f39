-- Worked values of the definitions, each computed. Assumes nothing.
use mathlib.Core.Path.{◌≡◌, refl}
use mathlib.Core.List.{[], ◌∷◌}
use Rattle.digits.specs.Number.{digits, value_from, be_bytes, be_number}

-- 0x0102_0304_05ff in six bytes, and back
six : be_bytes 6 0x0102_0304_05ff ≡ 1 ∷ 2 ∷ 3 ∷ 4 ∷ 5 ∷ 255 ∷ []
unfolding digits
six = refl

six_back : be_number (1 ∷ 2 ∷ 3 ∷ 4 ∷ 5 ∷ 255 ∷ []) ≡ 0x0102_0304_05ff
unfolding value_from
six_back = refl
