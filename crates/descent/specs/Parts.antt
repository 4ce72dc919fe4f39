-- What the parts of a walk hand back in the program, by the definition of the walk.
use Rattle.std.specs.Prelude.{cond, ℕ, ◌*◌, ◌/◌, ◌%◌, eqb, length, Ok, Err, Result, ⊤}
use Rattle.buffer.specs.Bytes.{Bytes}
use Rattle.refusal.specs.declared.Refusal.TheVariants.{Entry as IllFormed, Pointers}
use Rattle.entry.specs.declared.Entry.{Entry}
use Rattle.entry.specs.Entry.{entry_of, well_formed, score_of}
use Rattle.visit.specs.declared.Walked.{Walked}
use Rattle.tree.specs.Tree.{piece}
use Rattle.descent.specs.declared.Judged.{Judged}
use Rattle.descent.specs.declared.Judged.TheVariants.{Ends as Unvisited, Visited}
use Rattle.descent.specs.declared.Below.{Below}
use Rattle.descent.specs.declared.Below.TheVariants.{Ends, Entries, Scores}
use Rattle.descent.specs.Descent.{padded_to, in_order, nest_of, entries_of, judged, visit_entry}
use Rattle.refusal.specs.declared.Refusal.{Refusal}

-- "A directory block is padded to whole entries": the bytes of entry i
abbrev pub entry_in : Bytes → ℕ → Bytes
entry_in b i = piece 40 i (padded_to (40 * entries_of (length b)) b)

-- one entry of a directory block, by its bytes x
abbrev pub visit_listed : ℕ → Bytes → ℕ → Bytes → ℕ → Walked
visit_listed f log nest x left = judged x (visit_entry f log (entry_of x) (entry_of x).depth (nest_of (entry_of x) nest) (score_of x) left)

-- the scores of a pointer block, by its bytes b: blocks at a level
abbrev pub visit_scores : ℕ → Bytes → Entry → ℕ → ℕ → Bytes → ℕ → Walked
visit_scores f log e level nest b left = in_order (λ x a. visit_entry f log e level nest x a) 20 b left (length b / 20) 0 0

-- what is done with an entry of a directory block
unfoldable pub judged_of : Entry → Judged
judged_of e = cond e.active (cond (well_formed e) Visited (Unvisited (Err IllFormed))) (Unvisited (Ok tt))

-- what goes on, by that
abbrev pub by_judged : {A : Type 0} → Judged → ((Result ⊤ Refusal) → A) → A → A
by_judged (Unvisited x) ends visited = ends x
by_judged Visited ends visited = visited

-- which part is below a block of an entry at a level, by its size
unfoldable pub below_of : Entry → ℕ → ℕ → Below
below_of e level size = cond (eqb level 0) (cond e.directory Entries (Ends (Ok tt))) (cond (eqb (size % 20) 0) Scores (Ends (Err Pointers)))

-- what goes on, by that part
abbrev pub by_below : {A : Type 0} → Below → ((Result ⊤ Refusal) → A) → A → A → A
by_below (Ends x) ends entries scores = ends x
by_below Entries ends entries scores = entries
by_below Scores ends entries scores = scores
