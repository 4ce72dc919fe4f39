-- Why an offset of a file is refused.
use Rattle.std.specs.Prelude.{◌≡◌, ℕ, ◌≤◌, Err}
use Rattle.buffer.specs.Bytes.{Bytes}
use Rattle.refusal.specs.declared.Refusal.{Refusal}
use Rattle.refusal.specs.Number.{number_of}
use Rattle.file.specs.File.{located}
use Rattle.file.specs.declared.Located.TheVariants as run

-- "Tests: 3, 19, 16, 17, then the tree", which refuses with 11, 12, 13 and 18: no number is above 19, so none is that of a card or a query
abbrev pub ReadingsReasons : Type 0
ReadingsReasons = (log waiting page entry : Bytes) (offset : ℕ) (w : Refusal) → located log waiting page entry offset ≡ Err w → number_of w ≤ 19
