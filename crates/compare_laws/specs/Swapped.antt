-- The two sides swapped.
use Rattle.std.specs.Prelude.{◌≡◌, ℕ, Ok}
use Rattle.buffer.specs.Bytes.{Bytes}
use Rattle.comparison.specs.Differences.{differences_of}

-- a comparison that ends with number 0 does so from the other side, with the same count and units
abbrev pub SwappedAlike : Type 0
SwappedAlike = (log waiting x y : Bytes) (allowance : ℕ) → (differences_of log waiting x y allowance).end ≡ Ok tt
    → differences_of log waiting y x allowance ≡ differences_of log waiting x y allowance
