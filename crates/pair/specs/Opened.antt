-- One block of a pair, "read and checked .. as in the walk".
use Rattle.std.specs.Prelude.{Bool, not, cond, ◌&&◌, ℕ, ◌%◌, eqb, ltb, length, Ok, Err, Result}
use Rattle.bedrock.specs.Choice.{on}
use Rattle.buffer.specs.Bytes.{Bytes}
use Rattle.refusal.specs.declared.Refusal.{Refusal}
use Rattle.refusal.specs.declared.Refusal.TheVariants.{OverCount, Pointers}
use Rattle.sector_log.specs.LookUp.{held, absence, look_up, counted}
use Rattle.entry.specs.declared.Entry.{Entry}
use Rattle.tree.specs.Tree.{type_at, count_at}
use Rattle.block.specs.declared.Block.{Block}

-- 18 is "pointer block not a multiple of 20"
abbrev pub ragged : ℕ → ℕ → Bool
ragged level size = not (eqb level 0) && not (eqb (size % 20) 0)

-- a block of an entry at a level: "A block that can't be read is its refusal", else what goes on has its bytes
unfoldable pub opened : {A : Type 0} → Bytes → Entry → ℕ → Bytes → (Refusal → A) → (Bytes → A) → A
opened log e level score refused next =
    on (held log (type_at e level) score) (refused (absence log))
    (λ r. cond (ltb (count_at e level) (length r.bytes)) (refused OverCount)
    (cond (ragged level (length r.bytes)) (refused Pointers) (next r.bytes)))

-- what it hands back in the program: its place, or the refusal
abbrev pub whole_scores : ℕ → Result Block Refusal → Result Block Refusal
whole_scores level (Ok b) = cond (ragged level b.size) (Err Pointers) (Ok b)
whole_scores level (Err w) = Err w

unfoldable pub place_at : Bytes → Entry → ℕ → Bytes → Result Block Refusal
place_at log e level score = whole_scores level (counted (count_at e level) (look_up log (type_at e level) score))
