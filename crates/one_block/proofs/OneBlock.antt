-- A block is sound where its sectors are its image, whatever stands elsewhere; so both logs have it, and the first entry leads both to it.
use mathlib.Core.Path.{◌≡◌, refl, sym, ap, ◌∙◌}
use mathlib.Core.Bool.{Bool, true, false, cond, ◌&&◌}
use mathlib.Core.Option.{Option, some}
use Prim.Native.Nat.{ℕ}
use Rattle.bedrock.specs.Choice.{on}
use Rattle.buffer.specs.Bytes.{Bytes, same}
use Rattle.kind.specs.Kind.{lawful, zero_score}
use Rattle.block.specs.Block.{Row}
use Rattle.sector_log.specs.LookUp.{blocks, first_of, empty_row}
use Rattle.hint.specs.Hint.{held_by}
use Rattle.hint.proofs.There.{with_there}
use Rattle.hint.proofs.Tells.{hint-told}
use Rattle.one_block.specs.OneBlock.{LedTo, AlsoHas, OneBlockSuffices}

led_too : (log other index : Bytes) (t : ℕ) (s : Bytes) (n : ℕ) (r : Row) → LedTo other index t s n r → AlsoHas log other n r → LedTo log index t s n r
led_too log other index t s n r led has = (led.0, with_there log other n r has.0 has.1 t s led.1)

-- what look-up finds where the first entry leads to a block: the empty one for the zero score
abbrev pub found_there : ℕ → Bytes → Row → Row
found_there t s r = cond (lawful t && same s zero_score) (empty_row t) r

pub held-there : (log index : Bytes) (t : ℕ) (s : Bytes) (n : ℕ) (r : Row) → LedTo log index t s n r → held_by log index t s ≡ some (found_there t s r)
unfolding held_by
held-there log index t s n r led =
    ap (λ (o : Option Row). cond (lawful t && same s zero_score) (some (empty_row t)) (on o (first_of t s (blocks log)) some)) (hint-told log index t s n r led.1 led.0)
    ∙ either (lawful t && same s zero_score)
  where
    either : (b : Bool) → cond b (some (empty_row t)) (some r) ≡ some (cond b (empty_row t) r)
    either true = refl
    either false = refl

pub held_also : (log other index : Bytes) (t : ℕ) (s : Bytes) (n : ℕ) (r : Row) → LedTo other index t s n r → AlsoHas log other n r
    → held_by log index t s ≡ some (found_there t s r)
held_also log other index t s n r led has = held-there log index t s n r (led_too log other index t s n r led has)

pub one-block_suffices : OneBlockSuffices
one-block_suffices log other index t s n r led has = held_also log other index t s n r led has ∙ sym (held-there other index t s n r led)
