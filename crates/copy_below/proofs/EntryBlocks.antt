-- A block of an entry: refused, or kept behind what is below it.
use mathlib.Core.Path.{◌≡◌, sym, ap, ◌∙◌}
use Prim.Native.Nat.{ℕ, zero, suc, ◌+◌, ◌-◌, ◌/◌, ◌≤◌, ◌<◌}
use native.Mathlib.Omega.{arith}
use Rattle.buffer.specs.Bytes.{Bytes}
use Rattle.refusal.specs.declared.Refusal.{Refusal}
use Rattle.block.specs.declared.Block.{Block}
use Rattle.block.specs.Log.{bytes_of}
use Rattle.reader.proofs.Pieces.{length-bytes}
use Rattle.entry.specs.declared.Entry.{Entry}
use Rattle.visit.specs.declared.Walked.{Walked}
use Rattle.visit.specs.declared.Met.{Met}
use Rattle.tree.specs.Tree.{piece, pointer, type_at, count_at}
use Rattle.tree.proofs.Pointers.{pointer-piece}
use Rattle.visit.specs.Met.{met_of, end_of, answer_of}
use Rattle.visit.proofs.Visits.{any_refused, any_found, spent-within}
use Rattle.descent.specs.declared.Below.{Below as Part}
use Rattle.descent.specs.declared.Below.TheVariants.{Ends, Entries, Scores}
use Rattle.descent.specs.Parts.{below_of, by_below}
use Rattle.descent.proofs.InOrder.{OfAll}
use Rattle.descent.proofs.EntryBlocks.{by_part, block-known}
use Rattle.copying.specs.Copy.{Copied, copied, stopped, kept, copy_visit, copy_in_order, copy_directory, copy_entry}
use Rattle.copying.specs.Parts.{copy_scores, copy_below}
use Rattle.copy_below.proofs.InOrder.{copy_pieces}
use Rattle.std.specs.Prelude.{Ok, Err, Result, ⊤}

-- ---- a visit

module _ (log date : Bytes) (nest left kind count : ℕ) (score : Bytes) (m : Met) (e : m ≡ met_of log nest left kind count score) (below : Bytes → Bytes → Copied)
    (s : Bytes) where
  pub refused_visit : (why : Refusal) → m.look ≡ Err why → (r : Walked) → r ≡ answer_of m → copied r s ≡ copy_visit log date nest left kind count score below s
  unfolding copy_visit
  refused_visit why d r er =
      ap (λ (w : Walked). copied w s) (er ∙ ap (λ (l : Result Block Refusal). record { visits = m.spent; end = end_of l }) d)
      ∙ sym (any_refused log nest left kind count score m e (λ n y. stopped n (Err y) s) (λ r. kept date kind r.bytes (below r.bytes s)) why d)

  pub found_visit : (p : Block) → m.look ≡ Ok p → kept date kind (bytes_of log p) (below (bytes_of log p) s) ≡ copy_visit log date nest left kind count score below s
  unfolding copy_visit
  found_visit p d = sym (any_found log nest left kind count score m e (λ n y. stopped n (Err y) s) (λ b. kept date kind b (below b s)) p d)

-- ---- a block of an entry

-- a copy of an entry's block is exact, and spends no more than what is left
abbrev pub Entered : Bytes → Bytes → Entry → ℕ → ℕ → Bytes → ℕ → Bytes → Walked → Bytes → Type 0
Entered log date e level nest score left s₀ r s =
    (r.visits ≤ left) × ((f : ℕ) → left + left + 1 ≤ f → copied r s ≡ copy_entry f log date e level nest score left s₀)

-- and of what is below it
abbrev pub Below : Bytes → Bytes → Entry → ℕ → ℕ → ℕ → Bytes → Bytes → Walked → Bytes → Type 0
Below log date e level nest left b s₀ r s =
    (r.visits ≤ left) × ((f : ℕ) → left + left + 2 ≤ f → copied r s ≡ copy_below f log date e level nest left b s₀)

module _ (log date : Bytes) (e : Entry) (level nest : ℕ) (score : Bytes) (left : ℕ) (s₀ : Bytes) where
  visit_is-entry : (c : Copied)
      → ((g : ℕ) → left + left ≤ g
      → c ≡ copy_visit log date nest left (type_at e level) (count_at e level) score (λ b s. copy_below g log date e level nest (left - 1) b s) s₀)
      → (f : ℕ) → left + left + 1 ≤ f → c ≡ copy_entry f log date e level nest score left s₀
  unfolding copy_entry
  visit_is-entry c k zero h = absurd (omega arith)
  visit_is-entry c k (suc f) h = k f (omega arith)

  module _ (m : Met) (em : m ≡ met_of log nest left (type_at e level) (count_at e level) score) where
    pub refused_ends : (why : Refusal) → m.look ≡ Err why → (r : Walked) → r ≡ answer_of m → Entered log date e level nest score left s₀ r s₀
    refused_ends why d r er = (
      rw er (spent-within log nest left (type_at e level) (count_at e level) score m em),
      visit_is-entry (copied r s₀)
          (λ g h. refused_visit log date nest left (type_at e level) (count_at e level) score m em (λ b s. copy_below g log date e level nest (left - 1) b s) s₀ why d r er),
    )

    module _ (b : Block) (d : m.look ≡ Ok b) where
      pub kept-behind : (w : Walked) (s₁ : Bytes) → Below log date e level nest (left - 1) (bytes_of log b) s₀ w s₁
          → (kind : ℕ) → kind ≡ type_at e level → (r : Walked) (s : Bytes) → r.visits ≡ w.visits + 1
          → copied r s ≡ kept date kind (bytes_of log b) (copied w s₁) → Entered log date e level nest score left s₀ r s
      kept-behind w s₁ B kind ek r s v q = let known = block-known (record { met = em }) d in (
        omega (arith, known.some_left, B.0),
        visit_is-entry (copied r s)
            (λ g h. q ∙ ap (λ (t : ℕ). kept date t (bytes_of log b) (copied w s₁)) ek
            ∙ ap (kept date (type_at e level) (bytes_of log b)) (B.1 g (omega (arith, known.some_left)))
            ∙ found_visit log date nest left (type_at e level) (count_at e level) score m em (λ b' s'. copy_below g log date e level nest (left - 1) b' s') s₀ b d),
      )

-- ---- what is below it

module _ (log date : Bytes) (e : Entry) (level nest left : ℕ) (b : Block) (short : b.label < 499) (s₀ : Bytes) where
  part_below : {d : Part} → d ≡ below_of e level b.size → (f : ℕ)
      → copy_below f log date e level nest left (bytes_of log b) s₀
      ≡ by_below d (λ x. stopped 0 x s₀) (copy_directory f log date nest (bytes_of log b) left s₀) (copy_scores f log date e (level - 1) nest (bytes_of log b) left s₀)
  part_below q f = by_part e level log b short q (λ x. stopped 0 x s₀) _ _

  module _ {d : Part} (q : d ≡ below_of e level b.size) where
    pub below-ended : (x : Result ⊤ Refusal) → d ≡ Ends x → Below log date e level nest left (bytes_of log b) s₀ (record { visits = 0; end = x }) s₀
    below-ended x h = (omega arith, λ f l. sym (part_below (sym h ∙ q) f))

    pub below-directory : d ≡ Entries → (r : Walked) (s : Bytes)
        → (r.visits ≤ left) × ((f : ℕ) → left + left + 2 ≤ f → copied r s ≡ copy_directory f log date nest (bytes_of log b) left s₀)
        → Below log date e level nest left (bytes_of log b) s₀ r s
    below-directory h r s k = (k.0, λ f l. k.1 f l ∙ sym (part_below (sym h ∙ q) f))

    pub below-scores : d ≡ Scores → (r : Walked) (s : Bytes)
        → (r.visits ≤ left) × ((f : ℕ) → left + left + 1 ≤ f → copied r s ≡ copy_scores f log date e (level - 1) nest (bytes_of log b) left s₀)
        → Below log date e level nest left (bytes_of log b) s₀ r s
    below-scores h r s k = (k.0, λ f l. k.1 f (omega arith) ∙ sym (part_below (sym h ∙ q) f))

-- ---- the scores of a pointer block, at its place in the log

module _ (log date : Bytes) (b : Block) (short : b.label < 499) (e : Entry) (level nest : ℕ) where
  pub scores-one_by_one : (left : ℕ) (s₀ : Bytes) (v : Walked) (s : Bytes)
      → OfAll (copy_pieces (λ f x a s'. copy_entry f log date e level nest x a s') 20 (bytes_of log b) left) (b.size / 20) s₀ v s
      → (v.visits ≤ left) × ((f : ℕ) → left + left + 1 ≤ f → copied v s ≡ copy_scores f log date e level nest (bytes_of log b) left s₀)
  scores-one_by_one left s₀ v s k = (
    k.0,
    λ f h. k.1 f h
        ∙ ap (λ (n : ℕ). copy_in_order (λ x a s'. copy_entry f log date e level nest x a s') 20 (bytes_of log b) left (n / 20) 0 0 s₀) (sym (length-bytes log b short)),
  )

  -- score i as it is read is piece i, and what its copy gives is what the piece's gives
  pub score-copied : (a : ℕ) (s₀ : Bytes) {i : ℕ} {x : Bytes} (c : Copied) → i < b.size / 20
      → x ≡ pointer (bytes_of log b) i → ((f : ℕ) → a + a + 1 ≤ f → c ≡ copy_entry f log date e level nest x a s₀)
      → (f : ℕ) → a + a + 1 ≤ f → c ≡ copy_entry f log date e level nest (piece 20 i (bytes_of log b)) a s₀
  score-copied a s₀ {i} c h ex v f l =
      v f l
      ∙ ap (λ (y : Bytes). copy_entry f log date e level nest y a s₀) (ex ∙ sym (pointer-piece (bytes_of log b) i (omega (arith, length-bytes log b short))))
