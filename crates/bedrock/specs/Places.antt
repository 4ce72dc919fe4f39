-- The numbers of a range, and what is found at them.
use Rattle.std.specs.Prelude.{Bool, ◌&&◌, List, [], ◌∷◌, ℕ, zero, suc, ◌+◌, leb, ltb}
use Rattle.std.proofs.Math.Option.{Option}
use Rattle.bedrock.specs.Choice.{on}

-- n is one of the k numbers from f on
abbrev pub within : ℕ → ℕ → ℕ → Bool
within f k n = leb f n && ltb n (f + k)

-- what is found at one of the k numbers from n on, in their order
unfoldable pub found_from : {A : Type 0} → (ℕ → Option A) → ℕ → ℕ → List A
found_from f zero n = []
found_from f (suc k) n = on (f n) (found_from f k (suc n)) (λ r. r ∷ found_from f k (suc n))
