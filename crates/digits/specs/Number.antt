-- Numbers in positional notation, the highest digit first. Assumes nothing: these are definitions.
use Rattle.std.specs.Prelude.{Bool, true, ◌&&◌, List, [], ◌∷◌, ◌++◌, ℕ, zero, suc, ◌+◌, ◌*◌, ◌/◌, ◌%◌, ◌<◌, ltb, get_or}

-- the w digits of n in base b
unfoldable pub digits : ℕ → ℕ → ℕ → List ℕ
digits b zero n = []
digits b (suc w) n = digits b w (n / b) ++ (n % b ∷ [])

-- the number that digits make in base b, after a
unfoldable pub value_from : ℕ → ℕ → List ℕ → ℕ
value_from b a [] = a
value_from b a (d ∷ s) = value_from b (b * a + d) s

-- n as w bytes
abbrev pub be_bytes : ℕ → ℕ → List ℕ
be_bytes w n = digits 256 w n

-- the number that bytes make
abbrev pub be_number : List ℕ → ℕ
be_number s = value_from 256 0 s

-- every element is below b, as a fact
abbrev pub Below : ℕ → List ℕ → Type 0
Below b s = (k : ℕ) → get_or s k 0 < b

-- every element is below b, as a test
abbrev pub below : ℕ → List ℕ → Bool
below b [] = true
below b (a ∷ s) = ltb a b && below b s

-- every element is a byte
abbrev pub small : List ℕ → Bool
small s = below 256 s
