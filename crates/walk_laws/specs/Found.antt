-- All that is below a root is found: by look-up alone, without any count of calls or visits.
use Rattle.std.specs.Prelude.{◌≡◌, true, false, ℕ, zero, suc, ◌/◌, ◌%◌, ◌<◌, length, Ok}
use Rattle.std.proofs.Math.Option.{some}
use Rattle.buffer.specs.Bytes.{Bytes}
use Rattle.block.specs.Block.{Row}
use Rattle.sector_log.specs.LookUp.{held}
use Rattle.sector_log.specs.Parts.{tape}
use Rattle.entry.specs.declared.Entry.{Entry}
use Rattle.entry.specs.Entry.{entry_of, entry_allowed, score_of}
use Rattle.entry.specs.Root.{root_well_formed, root_score}
use Rattle.tree.specs.Tree.{piece, pointer_type}
use Rattle.visit.specs.Visit.{walked}
use Rattle.descent.specs.Descent.{padded_to, entries_of}
use Rattle.walk.specs.Walk.{walk_of}
use Rattle.descent.specs.Parts.{entry_in}

-- each active entry of a directory block's bytes is well-formed
abbrev pub EntriesFormed : Bytes → Type 0
EntriesFormed b = (i : ℕ) → i < entries_of (length b) → (entry_of (entry_in b i)).active ≡ true → entry_allowed (entry_in b i) ≡ true

-- the block of an entry under a score at a level is held, and all that is below it: "Level d is type 2+d, the leaf 13 or 2"
pub data Found (log : Bytes) : Entry → ℕ → Bytes → Type 0 where
  leaf : {e : Entry} {s : Bytes} (r : Row) → e.directory ≡ false → held log 13 s ≡ some r → Found log e zero s
  directory : {e : Entry} {s : Bytes} (r : Row) → e.directory ≡ true → held log 2 s ≡ some r → EntriesFormed r.bytes
      → ((i : ℕ) → i < entries_of (length r.bytes) → (entry_of (entry_in r.bytes i)).active ≡ true
      → Found log (entry_of (entry_in r.bytes i)) (entry_of (entry_in r.bytes i)).depth (score_of (entry_in r.bytes i))) → Found log e zero s
  pointers : {e : Entry} {d : ℕ} {s : Bytes} (r : Row) → held log (pointer_type (suc d)) s ≡ some r → length r.bytes % 20 ≡ 0
      → ((i : ℕ) → i < length r.bytes / 20 → Found log e d (piece 20 i r.bytes)) → Found log e (suc d) s

-- each active entry of a directory block is well-formed, and all that is below it is found
pub record FoundEntries (log b : Bytes) : Type 0 where
  pub formed : EntriesFormed b
  pub found : (i : ℕ) → i < entries_of (length b) → (entry_of (entry_in b i)).active ≡ true
      → Found log (entry_of (entry_in b i)) (entry_of (entry_in b i)).depth (score_of (entry_in b i))

-- "The root (count 300, padded to 300) leads to its directory block (type 2 ..)"
pub record FoundRoot (log score : Bytes) : Type 0 where
  pub root : Row
  pub root-held : held log 1 score ≡ some root
  pub formed : root_well_formed (padded_to 300 root.bytes) ≡ true
  pub top : Row
  pub top-held : held log 2 (root_score (padded_to 300 root.bytes)) ≡ some top
  pub below : FoundEntries log top.bytes

-- a walk that ends found every block below the root: "The first refusal stops all", so none was missing
abbrev pub WalkFinds : Type 0
WalkFinds = (log waiting score : Bytes) (n v : ℕ) → walk_of log waiting score n ≡ walked v (Ok tt) → FoundRoot (tape log waiting) score
