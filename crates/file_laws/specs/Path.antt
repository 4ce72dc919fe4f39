-- The blocks on the path from a score down to an offset.
use Rattle.std.specs.Prelude.{◌≡◌, true, false, ◌⊎◌, ℕ, zero, suc, ◌%◌, ◌≤◌, ◌<◌, length, Ok, Err, Result}
use Rattle.std.proofs.Math.Option.{none, some}
use Rattle.buffer.specs.Bytes.{Bytes, same}
use Rattle.kind.specs.Kind.{zero_score}
use Rattle.block.specs.Block.{Row}
use Rattle.sector_log.specs.LookUp.{held, absence, lent_allowed}
use Rattle.sector_log.specs.Parts.{tape}
use Rattle.entry.specs.declared.Entry.{Entry}
use Rattle.entry.specs.Entry.{entry_of, score_of}
use Rattle.tree.specs.Tree.{pointer, pointer_type, type_at}
use Rattle.leaf.specs.Leaf.{pointer_index}
use Rattle.file.specs.File.{page_allowed, entry_readable, located}
use Rattle.file.specs.declared.Located.{Located}
use Rattle.file.specs.declared.Located.TheVariants.{Stored, Waiting, Zeros}
use Rattle.refusal.specs.declared.Refusal.{Refusal}

-- no block on the path is missing: each is held, down to the leaf or to a zero score
unfoldable pub Whole : Bytes → Entry → ℕ → ℕ → Bytes → Type 0
Whole log e offset zero s = same s zero_score ≡ false → (r : Row) × (held log (type_at e 0) s ≡ some r)
Whole log e offset (suc d) s =
    same s zero_score ≡ false
    → (r : Row) × (held log (pointer_type (suc d)) s ≡ some r) × Whole log e offset d (pointer r.bytes (pointer_index e offset d))

-- a block on the path is missing: it is not held, and those above it are, each no longer than its count and of whole scores
unfoldable pub Lacks : Bytes → Entry → ℕ → ℕ → Bytes → Type 0
Lacks log e offset zero s = (same s zero_score ≡ false) × (held log (type_at e 0) s ≡ none)
Lacks log e offset (suc d) s =
    (same s zero_score ≡ false)
    × ((held log (pointer_type (suc d)) s ≡ none)
    ⊎ ((r : Row) × (held log (pointer_type (suc d)) s ≡ some r) × (length r.bytes ≤ e.psize) × (length r.bytes % 20 ≡ 0)
    × Lacks log e offset d (pointer r.bytes (pointer_index e offset d))))

-- stored bytes or zeros, no refusal
abbrev pub Answers : Result Located Refusal → Type 0
Answers (Ok (Stored at n)) = Unit {0}
Answers (Ok (Waiting at n)) = Unit {0}
Answers (Ok (Zeros n)) = Unit {0}
Answers (Err w) = ⊥

-- "A missing block is refused, never zero": an answer comes only where every block on the path is held
abbrev pub ReadsWhole : Type 0
ReadsWhole = (log waiting page b : Bytes) (offset : ℕ) → Answers (located log waiting page b offset)
    → Whole (tape log waiting) (entry_of b) offset (entry_of b).depth (score_of b)

-- and the other way round: an offset on whose path a block is missing is refused as look-up refuses that block, with 12 and its sector or with 11
abbrev pub MissingIsRefused : Type 0
MissingIsRefused = (log waiting page b : Bytes) (offset : ℕ) → lent_allowed (length log) (length waiting) ≡ true → page_allowed page ≡ true → entry_readable b ≡ true
    → offset < (entry_of b).size → Lacks (tape log waiting) (entry_of b) offset (entry_of b).depth (score_of b)
    → located log waiting page b offset ≡ Err (absence (tape log waiting))
