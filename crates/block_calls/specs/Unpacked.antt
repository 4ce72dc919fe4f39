-- A block type and a cut: what a caller reads back from the number is what the definition says.
use Rattle.std.specs.Prelude.{◌≡◌, Result, Ok, Err, ℕ, ◌+◌, ◌≤◌, ◌<◌, length}
use Rattle.buffer.specs.Bytes.{Bytes}
use Rattle.refusal.specs.Number.{number_of}
use Rattle.refusal.specs.declared.Refusal.{Refusal}
use Rattle.kind.specs.Kind.{wire_type}
use Rattle.cut.specs.Cut.{cut_of}
use Rattle.block_calls.specs.Blocks.{type_result, cut_result}
use Rattle.results.specs.Unpacked.{number_in, answer_in}

-- a block type: the number, and the type
abbrev pub wire_number : Result ℕ Refusal → ℕ
wire_number (Ok t) = 0
wire_number (Err w) = number_of w

abbrev pub type_in : Result ℕ Refusal → ℕ
type_in (Ok t) = t
type_in (Err w) = 0

abbrev pub TypeUnpacks : Type 0
TypeUnpacks = (e : ℕ) → (number_in (type_result (wire_type e)) ≡ wire_number (wire_type e)) × (answer_in (type_result (wire_type e)) ≡ type_in (wire_type e))

-- a cut: a length that is kept is at most the block's, a refusal is more, by its number
abbrev pub CutUnpacks : Type 0
CutUnpacks = (kind : ℕ) (b : Bytes)
    → ((n : ℕ) → cut_of kind b ≡ Ok n → (cut_result (length b) (cut_of kind b) ≡ n) × (n ≤ length b))
    × ((w : Refusal) → cut_of kind b ≡ Err w → (cut_result (length b) (cut_of kind b) ≡ length b + number_of w) × (length b < cut_result (length b) (cut_of kind b)))
