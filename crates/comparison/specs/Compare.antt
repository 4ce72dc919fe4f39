-- Two directory trees compared, of "What changed between two days".
use Rattle.std.specs.Prelude.{cond, ℕ, zero, suc, ◌+◌, ◌-◌, ◌*◌, ◌/◌, max, eqb, ltb, length, drop, Ok}
use Rattle.buffer.specs.Bytes.{Bytes, same}
use Rattle.refusal.specs.declared.Refusal.TheVariants.{Entry as EntryRefused, Nest, Spent}
use Rattle.sector.specs.Sector.{filled}
use Rattle.entry.specs.declared.Entry.{Entry}
use Rattle.entry.specs.Entry.{entry_of, score_of}
use Rattle.tree.specs.Tree.{pointer}
use Rattle.descent.specs.Descent.{entries_of}
use Rattle.verdict.specs.declared.Verdict.{Verdict}
use Rattle.verdict.specs.declared.Verdict.TheVariants.{Skip, IllFormed, Open, Differ}
use Rattle.verdict.specs.Verdict.{verdict}
use Rattle.pair.specs.Opened.{opened}
use Rattle.comparison.specs.declared.Compared.{Compared}
use Rattle.comparison.specs.Compared.{compared, none, refused, one_unit, in_order}

-- how the blocks of two opened directories are compared: of an entry's shape, at a level and a nest, under two scores, with what is left
abbrev pub Blocks : Type 0
Blocks = Entry → ℕ → ℕ → Bytes → Bytes → ℕ → Compared

-- "skipped unread", "16", "counts one", or what their blocks give
abbrev pub by_verdict : Verdict → Compared → Compared
by_verdict Skip c = none
by_verdict IllFormed c = refused EntryRefused
by_verdict Open c = c
by_verdict Differ c = compared 1 0 (Ok tt)

-- two entries in directories at a nest: the blocks of opened ones are one deeper, "the two given entries' blocks at nest 1"
abbrev pub entries_by : Blocks → ℕ → Bytes → Bytes → ℕ → Compared
entries_by blocks nest x y left = by_verdict (verdict x y) (blocks (entry_of x) (entry_of x).depth (nest + 1) (score_of x) (score_of y) left)

-- "directory blocks padded too", "a missing one being .. inactive": entry i of a directory block's bytes, zeros past their end
abbrev pub listed : Bytes → ℕ → Bytes
listed b i = filled 40 (drop (40 * i) b)

-- "pointers and entries by position, a missing one being zero or inactive": position i of two blocks of a level
abbrev pub position_by : Blocks → Entry → ℕ → ℕ → Bytes → Bytes → ℕ → ℕ → Compared
position_by blocks e level nest b c i left =
    cond (eqb level 0) (entries_by blocks nest (listed b i) (listed c i) left) (blocks e (level - 1) nest (pointer b i) (pointer c i) left)

-- how many positions a block of a size has at a level: entries, or scores
unfoldable pub positions : ℕ → ℕ → ℕ
positions level size = cond (eqb level 0) (entries_of size) (size / 20)

-- "20 and 21 as in the walk .., one unit for each pair of blocks opened"
unfoldable pub spending : ℕ → ℕ → Compared → Compared
spending nest left c = cond (ltb 16 nest) (refused Nest) (cond (eqb left 0) (refused Spent) (one_unit c))

-- two blocks of a level, by their bytes, up to the end of the longer
abbrev pub below_by : Blocks → Entry → ℕ → ℕ → Bytes → Bytes → ℕ → Compared
below_by blocks e level nest b c left =
    in_order (λ i a. position_by blocks e level nest b c i a) left (max (positions level (length b)) (positions level (length c))) 0 0 0

-- "equal scores in opened trees are skipped unread"; else "its first block read and checked before its second"
abbrev pub pair_by : Blocks → Bytes → Entry → ℕ → ℕ → Bytes → Bytes → ℕ → Compared
pair_by blocks log e level nest s t left =
    cond (same s t) none
    (spending nest left
    (opened log e level s refused (λ b. opened log e level t refused (λ c. below_by blocks e level nest b c (left - 1)))))

-- The first number bounds the calls: one more than the allowance is enough, and where it is enough it changes nothing.
unfoldable pub compare_blocks : ℕ → Bytes → Entry → ℕ → ℕ → Bytes → Bytes → ℕ → Compared
compare_blocks zero log e level nest s t left = none
compare_blocks (suc f) log e level nest s t left = pair_by (λ e l n s t a. compare_blocks f log e l n s t a) log e level nest s t left

-- two entries in directories at a nest
abbrev pub compare_entries : ℕ → Bytes → ℕ → Bytes → Bytes → ℕ → Compared
compare_entries f log nest x y left = entries_by (λ e l n s t a. compare_blocks f log e l n s t a) nest x y left

-- one position of two blocks of a level, by their bytes; and all of them
abbrev pub compare_position : ℕ → Bytes → Entry → ℕ → ℕ → Bytes → Bytes → ℕ → ℕ → Compared
compare_position f log e level nest b c i left = position_by (λ e l n s t a. compare_blocks f log e l n s t a) e level nest b c i left

abbrev pub compare_below : ℕ → Bytes → Entry → ℕ → ℕ → Bytes → Bytes → ℕ → Compared
compare_below f log e level nest b c left = below_by (λ e l n s t a. compare_blocks f log e l n s t a) e level nest b c left

-- the longest leaf of a well-formed directory: the greatest multiple of 40 that is at most 57,344
abbrev pub most_leaf : ℕ
most_leaf = 57320
