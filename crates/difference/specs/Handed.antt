-- The entry as a part of the first or of the second lent block: its bytes, and its place in memory.
use Rattle.std.specs.Prelude.{List, ℕ, Ok, Err, Result}
use Rattle.std.specs.Borrow.{Bor}
use Rattle.buffer.specs.Part.{Part}
use Rattle.difference.specs.declared.Difference.{Difference}
use Rattle.difference.specs.declared.Difference.TheVariants.{First, Second, Nowhere}
use Rattle.refusal.specs.declared.Refusal.{Refusal}

-- "hand back that entry as a part of the first or of the second lent block"; "with no difference or a refusal, an empty part", the first block's
abbrev pub part_of : Result Difference Refusal → Bor (List ℕ) → Bor (List ℕ) → Bor (List ℕ) → Type 0
part_of (Ok (First at)) a b r = Part a at 40 r
part_of (Ok (Second at)) a b r = Part b at 40 r
part_of (Ok Nowhere) a b r = Part a 0 0 r
part_of (Err w) a b r = Part a 0 0 r
