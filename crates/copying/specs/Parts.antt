-- What the parts of a copy hand back in the program, by the definition.
use Rattle.std.specs.Prelude.{cond, ℕ, ◌-◌, ◌/◌, ◌%◌, eqb, length, Ok, Err}
use Rattle.buffer.specs.Bytes.{Bytes}
use Rattle.refusal.specs.declared.Refusal.TheVariants.{Entry as IllFormed, Pointers}
use Rattle.entry.specs.declared.Entry.{Entry}
use Rattle.entry.specs.Entry.{entry_of, score_of}
use Rattle.entry.specs.Root.{root_well_formed, root_score}
use Rattle.descent.specs.Descent.{nest_of}
use Rattle.copying.specs.Copy.{Copied, stopped, copy_in_order, judged_copy, copy_directory, copy_entry, copy_top}

-- one entry of a directory block, by its bytes x
abbrev pub copy_listed : ℕ → Bytes → Bytes → ℕ → Bytes → ℕ → Bytes → Copied
copy_listed f log date nest x left second =
    judged_copy x (copy_entry f log date (entry_of x) (entry_of x).depth (nest_of (entry_of x) nest) (score_of x) left second) second

-- the scores of a pointer block, by its bytes b: blocks at a level
abbrev pub copy_scores : ℕ → Bytes → Bytes → Entry → ℕ → ℕ → Bytes → ℕ → Bytes → Copied
copy_scores f log date e level nest b left second =
    copy_in_order (λ x a s. copy_entry f log date e level nest x a s) 20 b left (length b / 20) 0 0 second

-- what is below a block of an entry at a level, by its bytes b; `left` is what is left behind its visit
abbrev pub copy_below : ℕ → Bytes → Bytes → Entry → ℕ → ℕ → ℕ → Bytes → Bytes → Copied
copy_below f log date e level nest left b second =
    cond (eqb level 0)
    (cond e.directory (copy_directory f log date nest b left second) (stopped 0 (Ok tt) second))
    (cond (eqb (length b % 20) 0) (copy_scores f log date e (level - 1) nest b left second) (stopped 0 (Err Pointers) second))

-- what is below a root, by its bytes padded to 300
abbrev pub copy_below_root : Bytes → Bytes → ℕ → Bytes → Bytes → Copied
copy_below_root log date left x second =
    cond (root_well_formed x) (copy_top log date (root_score x) left second) (stopped 0 (Err IllFormed) second)
