-- What the first entry of a bucket that names a type and score tells.
use Rattle.std.specs.Prelude.{Bool, false, cond, ℕ, zero, suc, ◌-◌, eqb, take}
use Rattle.buffer.specs.Bytes.{Bytes, same}
use Rattle.index.specs.Index.{bucket_of, place_at, named, sector_at}

-- of k places from p on one names this type and score, and the first that does tells sector n
unfoldable pub tells_from : Bytes → ℕ → Bytes → ℕ → ℕ → ℕ → Bool
tells_from index t s n zero p = false
tells_from index t s n (suc k) p = cond (same (take 21 (place_at index p)) (named s t)) (eqb (sector_at index p) n) (tells_from index t s n k (suc p))

-- the first entry of the bucket that names a type and score tells sector n
unfoldable pub tells : Bytes → ℕ → Bytes → ℕ → Bool
tells index t s n = let b = bucket_of index s in tells_from index t s n (b.to - b.from) b.from
