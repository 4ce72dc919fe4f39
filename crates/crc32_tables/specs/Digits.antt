-- The tables by which sixteen bytes are fed at once: a row for each of their hexadecimal digits. Assumes nothing.
use Rattle.std.specs.Prelude.{List, [], ◌∷◌, ◌++◌, ℕ, zero, suc, ◌+◌, ◌*◌}
use Rattle.crc32_rule.specs.Crc32.{bits}

-- n entries of a row from the digit k on: an entry is b bits of its digit
unfoldable pub row : ℕ → ℕ → ℕ → List ℕ
row b zero k = []
row b (suc n) k = bits b k ∷ row b n (suc k)

-- the rows of n digits, the lowest digit first: it goes through all 4 * n bits, and the highest through its own 4, and each through b more
unfoldable pub rows : ℕ → ℕ → List ℕ
rows b zero = []
rows b (suc n) = row (b + 4 * suc n) 16 0 ++ rows b n
