-- An entry of a directory block: not visited, or copied.
use mathlib.Core.Path.{◌≡◌, sym, ap, ap₂, ◌∙◌}
use Prim.Native.Nat.{ℕ, zero, suc, ◌+◌, ◌-◌, ◌≤◌, ◌<◌}
use native.Mathlib.Omega.{arith}
use lib.ListN.{take, drop}
use Rattle.buffer.specs.Bytes.{Bytes}
use Rattle.block.specs.declared.Block.{Block}
use Rattle.block.specs.Log.{bytes_of}
use Rattle.reader.proofs.Pieces.{length-bytes}
use Rattle.entry.specs.declared.Entry.{Entry}
use Rattle.entry.specs.Entry.{score_of}
use Rattle.visit.specs.declared.Walked.{Walked}
use Rattle.descent.specs.declared.Judged.TheVariants.{Ends, Visited}
use Rattle.descent.specs.Descent.{nest_of, entries_of}
use Rattle.descent.specs.Parts.{entry_in, judged_of}
use Rattle.descent.proofs.InOrder.{OfAll}
use Rattle.descent.proofs.Listed.{wholes, EntryRead, bytes_are_piece, entry-of-piece, by_entry}
use Rattle.copying.specs.Copy.{Copied, copied, stopped, copy_in_order, judged_copy, copy_directory, copy_entry}
use Rattle.copying.specs.Parts.{copy_listed}
use Rattle.copy_below.proofs.InOrder.{copy_pieces}
use Rattle.std.specs.Prelude.{Result, ⊤}
use Rattle.refusal.specs.declared.Refusal.{Refusal}

-- the entries of a block at its place in the log, one after the other, are its directory
pub entries_are_directory : (log date : Bytes) (nest : ℕ) (b : Block) → b.label < 499 → (left : ℕ) (s₀ : Bytes) (v : Walked) (s : Bytes)
    → OfAll (copy_pieces (λ f. copy_listed f log date nest) 40 (wholes (bytes_of log b)) left) (entries_of b.size) s₀ v s
    → (v.visits ≤ left) × ((f : ℕ) → left + left + 2 ≤ f → copied v s ≡ copy_directory f log date nest (bytes_of log b) left s₀)
unfolding copy_directory
entries_are_directory log date nest b short left s₀ v s k = (k.0, go)
  where
    go : (f : ℕ) → left + left + 2 ≤ f → copied v s ≡ copy_directory f log date nest (bytes_of log b) left s₀
    go zero h = absurd (omega arith)
    go (suc f) h =
        k.1 f (omega arith)
        ∙ ap (λ (n : ℕ). copy_in_order (copy_listed f log date nest) 40 (wholes (bytes_of log b)) left (entries_of n) 0 0 s₀) (sym (length-bytes log b short))

module _ {b : Bytes} {i : ℕ} {x : Bytes} {e : Entry} (R : EntryRead b i x e) where
  pub ends_unvisited : (y : Result ⊤ Refusal) → Ends y ≡ judged_of e → (f : ℕ) (log date : Bytes) (nest left : ℕ) (s : Bytes)
      → stopped 0 y s ≡ copy_listed f log date nest (entry_in b i) left s
  unfolding judged_copy
  ends_unvisited y q f log date nest left s = by_entry R q (λ z. stopped 0 z s) _

  pub is-copied : Visited ≡ judged_of e → (log date : Bytes) (nest left : ℕ) (s : Bytes) {deep : ℕ} → deep ≡ nest_of e nest → (f : ℕ) {c : Copied}
      → c ≡ copy_entry f log date e e.depth deep (take (40 - 20) (drop 20 x)) left s → c ≡ copy_listed f log date nest (entry_in b i) left s
  unfolding judged_copy
  is-copied q log date nest left s d f v =
      v ∙ ap (λ (y : ℕ). copy_entry f log date e e.depth y (score_of x) left s) d
      ∙ ap₂ (λ (y : Entry) (u : Bytes). copy_entry f log date y y.depth (nest_of y nest) u left s) (entry-of-piece R) (ap score_of (bytes_are_piece R))
      ∙ by_entry R q (λ z. stopped 0 z s) _
