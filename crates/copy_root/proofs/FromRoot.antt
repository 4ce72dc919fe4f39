-- A copy from its root: the root, and its directory block.
use mathlib.Core.Path.{◌≡◌, sym, ap, ◌∙◌}
use mathlib.Core.Bool.{Bool, true, false}
use Prim.Native.Nat.{ℕ, ◌+◌, ◌-◌, ◌≤◌}
use native.Mathlib.Omega.{arith}
use lib.ListN.{take, drop}
use Rattle.buffer.specs.Bytes.{Bytes}
use Rattle.refusal.specs.declared.Refusal.{Refusal}
use Rattle.refusal.specs.declared.Refusal.TheVariants.{Entry as IllFormed}
use Rattle.kind.specs.Kind.{longest}
use Rattle.sector.specs.Sector.{filled}
use Rattle.block.specs.declared.Block.{Block}
use Rattle.block.specs.Log.{bytes_of}
use Rattle.reader.proofs.Pieces.{length-bytes}
use Rattle.entry.specs.Root.{root_well_formed}
use Rattle.visit.specs.declared.Walked.{Walked}
use Rattle.visit.specs.declared.Met.{Met}
use Rattle.visit.specs.Met.{met_of, answer_of}
use Rattle.visit.proofs.Visits.{found-known, spent-within}
use Rattle.descent.specs.Descent.{padded_to}
use Rattle.descent.proofs.Padded.{root-padded}
use Rattle.copying.specs.Copy.{Copied, copied, stopped, kept, copy_directory, copy_top, copy_root}
use Rattle.copying.specs.Parts.{copy_below_root}
use Rattle.copy_below.proofs.EntryBlocks.{refused_visit, found_visit}
use Rattle.std.specs.Prelude.{Ok, Err}

-- ---- the directory block of a root

module _ (log date score : Bytes) (left : ℕ) (s₀ : Bytes) (m : Met) (em : m ≡ met_of log 1 left 2 longest score) where
  pub top-refused : (why : Refusal) → m.look ≡ Err why → (r : Walked) → r ≡ answer_of m → (r.visits ≤ left) × (copied r s₀ ≡ copy_top log date score left s₀)
  unfolding copy_top
  top-refused why d r er = (
    rw er (spent-within log 1 left 2 longest score m em),
    refused_visit log date 1 left 2 longest score m em (λ b s. copy_directory (left + left + 2) log date 1 b (left - 1) s) s₀ why d r er,
  )

  pub top_kept : (b : Block) → m.look ≡ Ok b → (w : Walked) (s₁ : Bytes)
      → (w.visits ≤ left - 1) × ((f : ℕ) → (left - 1) + (left - 1) + 2 ≤ f → copied w s₁ ≡ copy_directory f log date 1 (bytes_of log b) (left - 1) s₀)
      → (r : Walked) (s : Bytes) → r.visits ≡ w.visits + 1 → copied r s ≡ kept date 2 (bytes_of log b) (copied w s₁)
      → (r.visits ≤ left) × (copied r s ≡ copy_top log date score left s₀)
  unfolding copy_top
  top_kept b d w s₁ B r s v q =
      let n = (found-known log 1 left 2 longest score m em b d).some_left in (
        omega (arith, n, B.0),
        q ∙ ap (kept date 2 (bytes_of log b)) (B.1 (left + left + 2) (omega arith))
            ∙ found_visit log date 1 left 2 longest score m em (λ b' s'. copy_directory (left + left + 2) log date 1 b' (left - 1) s') s₀ b d,
      )

-- ---- what is below a root

module _ (log date : Bytes) (left : ℕ) (x s₀ : Bytes) (f : Bool) (ef : f ≡ root_well_formed x) where
  pub ill-formed-root : f ≡ false → stopped 0 (Err IllFormed) s₀ ≡ copy_below_root log date left x s₀
  ill-formed-root z = rw (sym ef ∙ z)

  pub well_formed-root : f ≡ true → (c : Copied) → c ≡ copy_top log date (take 20 (drop 258 x)) left s₀ → c ≡ copy_below_root log date left x s₀
  well_formed-root z c e = rw (sym ef ∙ z) e

-- ---- the root

module _ (log date score : Bytes) (left : ℕ) (s₀ : Bytes) (m : Met) (em : m ≡ met_of log 0 left 1 300 score) where
  pub root-refused : (why : Refusal) → m.look ≡ Err why → (r : Walked) → r ≡ answer_of m → copied r s₀ ≡ copy_root log date score left s₀
  unfolding copy_root
  root-refused why d r er = refused_visit log date 0 left 1 300 score m em (λ b s. copy_below_root log date (left - 1) (padded_to 300 b) s) s₀ why d r er

  pub root_kept : (b : Block) → m.look ≡ Ok b → (x : Bytes) → x ≡ filled 300 (drop 0 (bytes_of log b)) → (w : Walked) (s₁ : Bytes)
      → copied w s₁ ≡ copy_below_root log date (left - 1) x s₀ → (r : Walked) (s : Bytes) → copied r s ≡ kept date 1 (bytes_of log b) (copied w s₁)
      → copied r s ≡ copy_root log date score left s₀
  unfolding copy_root
  root_kept b d x ex w s₁ B r s q =
      let K = found-known log 0 left 1 300 score m em b d in
      let y : x ≡ padded_to 300 (bytes_of log b) =
      ex ∙ sym (root-padded (bytes_of log b) (omega (arith, length-bytes log b K.in_log.1, K.counted_in))) in
      q ∙ ap (kept date 1 (bytes_of log b)) (B ∙ ap (λ (u : Bytes). copy_below_root log date (left - 1) u s₀) y)
      ∙ found_visit log date 0 left 1 300 score m em (λ b' s'. copy_below_root log date (left - 1) (padded_to 300 b') s') s₀ b d
