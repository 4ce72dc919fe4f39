-- A file's outcome, by its number.
use mathlib.Core.Path.{◌≡◌, ap, ◌∙◌}
use Prim.Native.Nat.{ℕ}
use Rattle.buffer.specs.Bytes.{Bytes}
use Rattle.sector_log.specs.Parts.{Lent}
use Rattle.writer.specs.WriteFile.{end_number, WriteOutcome, outcome}
use Rattle.writer_calls.specs.Wrote.{wrote_file, wrote_result}
use Rattle.std.specs.Prelude.{Result, ⊤}
use Rattle.refusal.specs.declared.Refusal.{Refusal}

pub wrote_so : (e : Result ⊤ Refusal) (L : Lent) (entry scores : Bytes) (o : WriteOutcome) (k : ℕ) → outcome e L entry scores ≡ o → k ≡ end_number e
    → wrote_file k L entry scores ≡ wrote_result o
wrote_so e L entry scores o k p q = ap (λ (n : ℕ). wrote_file n L entry scores) q ∙ ap wrote_result p
