-- What it means that no difference was counted: by look-up alone, without any count of calls or units.
use Rattle.std.specs.Prelude.{◌≡◌, false, ℕ, zero, suc, Ok}
use Rattle.std.proofs.Math.Option.{some}
use Rattle.buffer.specs.Bytes.{Bytes}
use Rattle.block.specs.Block.{Row}
use Rattle.sector_log.specs.LookUp.{held}
use Rattle.sector_log.specs.Parts.{tape}
use Rattle.entry.specs.declared.Entry.{Entry}
use Rattle.entry.specs.Entry.{entry_of, score_of}
use Rattle.tree.specs.Tree.{type_at, pointer}
use Rattle.verdict.specs.declared.Verdict.TheVariants.{Open}
use Rattle.verdict.specs.Verdict.{verdict}
use Rattle.comparison.specs.Compare.{listed}
use Rattle.comparison.specs.Differences.{differences_of}

mutual
  -- two entries: the same 40 bytes, both inactive, or two directories that are opened (well-formed, of equal psize, dsize and depth; gen and
  -- size may differ) and whose blocks hold the same
  pub data Unchanged (log : Bytes) : Bytes → Bytes → Type 0 where
    same-entry : {x y : Bytes} → x ≡ y → Unchanged log x y
    both-inactive : {x y : Bytes} → (entry_of x).active ≡ false → (entry_of y).active ≡ false → Unchanged log x y
    same-below : {x y : Bytes} → verdict x y ≡ Open → UnchangedBlocks log (entry_of x) (entry_of x).depth (score_of x) (score_of y) → Unchanged log x y

  -- two blocks of a level under their scores: the same score, or both are held and are unchanged position by position, entries in a leaf,
  -- scores above it; past the end an entry is zeros and a score the zero score
  pub data UnchangedBlocks (log : Bytes) : Entry → ℕ → Bytes → Bytes → Type 0 where
    same-score : {e : Entry} {level : ℕ} {s t : Bytes} → s ≡ t → UnchangedBlocks log e level s t
    leaves : {e : Entry} {s t : Bytes} (r q : Row) → held log (type_at e 0) s ≡ some r → held log (type_at e 0) t ≡ some q
        → ((i : ℕ) → Unchanged log (listed r.bytes i) (listed q.bytes i)) → UnchangedBlocks log e zero s t
    pointers : {e : Entry} {d : ℕ} {s t : Bytes} (r q : Row) → held log (type_at e (suc d)) s ≡ some r → held log (type_at e (suc d)) t ≡ some q
        → ((i : ℕ) → UnchangedBlocks log e d (pointer r.bytes i) (pointer q.bytes i)) → UnchangedBlocks log e (suc d) s t

-- a comparison that ends with number 0 counts nothing exactly if the two trees are unchanged
abbrev pub NoneCountedUnchanged : Type 0
NoneCountedUnchanged = (log waiting x y : Bytes) (allowance : ℕ) → (differences_of log waiting x y allowance).end ≡ Ok tt
    → (differences_of log waiting x y allowance).count ≡ 0 → Unchanged (tape log waiting) x y

abbrev pub UnchangedNoneCounted : Type 0
UnchangedNoneCounted = (log waiting x y : Bytes) (allowance : ℕ) → (differences_of log waiting x y allowance).end ≡ Ok tt
    → Unchanged (tape log waiting) x y → (differences_of log waiting x y allowance).count ≡ 0
