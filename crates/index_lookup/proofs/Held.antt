-- What look-up by index finds stands in the log at the place that it says: it is a sound block, or the empty one.
use mathlib.Core.Path.{◌≡◌}
use mathlib.Core.Logic.{⊎_elim}
use mathlib.Core.Option.{none, some}
use Prim.Native.Nat.{ℕ}
use Rattle.buffer.specs.Bytes.{Bytes}
use Rattle.refusal.specs.declared.Refusal.{Refusal}
use Rattle.block.specs.Block.{Row}
use Rattle.block.specs.declared.Block.{Block}
use Rattle.sector_log.specs.LookUp.{absence}
use Rattle.hint.specs.Hint.{held_by, look_up_by}
use Rattle.hint.proofs.Scan.{hint_holds}
use Rattle.lookup.proofs.Held.{Stands, sound-stands, empty_stands, FoundAt, answer-found, answer-absent}
use Rattle.std.specs.Prelude.{Ok, Err}

module _ (log index : Bytes) (t : ℕ) (s : Bytes) where
  pub held_by_stands : (r : Row) → held_by log index t s ≡ some r → Stands log r
  held_by_stands r e = ⊎_elim (λ p. rw p.1 (empty_stands log t)) (λ p. sound-stands log r p.0) (hint_holds log index t s r e)

  pub look_by_found : (b : Block) → look_up_by log index t s ≡ Ok b → FoundAt log (held_by log index t s) b
  unfolding look_up_by
  look_by_found b e = answer-found log (held_by log index t s) (absence log) held_by_stands b e

  pub look_by_absent : (w : Refusal) → look_up_by log index t s ≡ Err w → (held_by log index t s ≡ none) × (absence log ≡ w)
  unfolding look_up_by
  look_by_absent w e = answer-absent log (held_by log index t s) (absence log) w e
