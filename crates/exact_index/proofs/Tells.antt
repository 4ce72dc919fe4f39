-- The index leads to the sound block that the first entry of its type and score tells.
use mathlib.Core.Path.{◌≡◌, sym, ap, ap₂, ◌∙◌}
use mathlib.Core.Bool.{Bool, true}
use mathlib.Core.Logic.{◌≢◌}
use mathlib.Core.Option.{Option, none}
use Prim.Native.Nat.{ℕ}
use native.Mathlib.Omega.{arith}
use borrow.Author.Tests.{le-leb}
use Rattle.bedrock.proofs.Choices.{is_some}
use Rattle.buffer.specs.Bytes.{Bytes}
use Rattle.block.specs.Block.{Row}
use Rattle.block.proofs.Sound.{sound-reads}
use Rattle.hint.specs.Hint.{sound_with, hint}
use Rattle.hint.specs.Tells.{tells}
use Rattle.hint.proofs.Sound.{with_reads}
use Rattle.hint.proofs.Tells.{hint-told}
use Rattle.exact_index.specs.Leads.{found_by}

-- a sound block of this type and score at sector n, and the first entry that names them, as they were read, tells n: the index leads to it
pub told-leads : (log index : Bytes) (t : ℕ) (s : Bytes) (n : ℕ) → sound_with log n t s ≢ none → (b : Bool) (u : ℕ) (v : Bytes) → b ≡ tells index u v n → u ≡ t → v ≡ s → b ≡ true
    → true ≡ found_by (hint log index t s) n
told-leads log index t s n ne b u v e p q h =
    let x = is_some (sound_with log n t s) ne in
    let r = x.0 in
    let here : r.first ≡ n = (sound-reads log n r (with_reads log n t s r x.1).0).1 in
    let told : tells index t s n ≡ true = sym (e ∙ ap₂ (λ (k : ℕ) (y : Bytes). tells index k y n) p q) ∙ h in
    sym (ap (λ (o : Option Row). found_by o n) (hint-told log index t s n r x.1 told) ∙ le-leb r.first n (omega arith))
