-- The first difference of two directory blocks, of "What changed between two days".
use Rattle.std.specs.Prelude.{Bool, cond, ◌&&◌, ℕ, zero, suc, ◌*◌, ◌/◌, ◌%◌, max, leb, eqb, length, take, drop, Ok, Err, Result}
use Rattle.buffer.specs.Bytes.{Bytes, same}
use Rattle.kind.specs.Kind.{longest}
use Rattle.refusal.specs.declared.Refusal.TheVariants.{Entry as IllFormed}
use Rattle.refusal.specs.Number.{number_of}
use Rattle.entry.specs.Entry.{entry_of}
use Rattle.difference.specs.declared.Side.{Side}
use Rattle.difference.specs.declared.Side.TheVariants as side
use Rattle.difference.specs.declared.Difference.{Difference}
use Rattle.difference.specs.declared.Difference.TheVariants.{First, Second, Nowhere}
use Rattle.refusal.specs.declared.Refusal.{Refusal}

-- the entry at a position; past the end no bytes
abbrev pub entry_at : Bytes → ℕ → Bytes
entry_at b i = take 40 (drop (40 * i) b)

-- "past the end counts as inactive": no bytes have no flag
abbrev pub active : Bytes → Bool
active x = (entry_of x).active

-- "where active entries differ or only one is active": which of the two is handed back, "the first unless only the second is active there"
unfoldable pub side_of : Bytes → Bytes → Side
side_of x y = cond (active x) (cond (active y && same x y) side.Neither side.First) (cond (active y) side.Second side.Neither)

-- the difference at byte k, by its side, else the rest's
abbrev pub or_else : Side → ℕ → Result Difference Refusal → Result Difference Refusal
or_else side.First k rest = Ok (First k)
or_else side.Second k rest = Ok (Second k)
or_else side.Neither k rest = rest

-- "At the first position": of the k positions from i on
unfoldable pub first_from : Bytes → Bytes → ℕ → ℕ → Result Difference Refusal
first_from a b zero i = Ok Nowhere
first_from a b (suc k) i = or_else (side_of (entry_at a i) (entry_at b i)) (40 * i) (first_from a b k (suc i))

-- "each a multiple of 40 bytes and at most 57,344"
unfoldable pub block_allowed : Bytes → Bool
block_allowed b = eqb (length b % 40) 0 && leb (length b) longest

-- "two lent directory blocks, each a multiple of 40 bytes and at most 57,344, else 16"
unfoldable pub difference_of : Bytes → Bytes → Result Difference Refusal
difference_of a b = cond (block_allowed a && block_allowed b) (first_from a b (max (length a) (length b) / 40) 0) (Err IllFormed)

-- "a second answer gives the number"
abbrev pub answer_of : Result Difference Refusal → ℕ
answer_of (Ok found) = 0
answer_of (Err w) = number_of w
