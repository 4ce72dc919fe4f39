-- A comparison over two logs with the same sectors is the same comparison.
use mathlib.Core.Path.{◌≡◌, refl, ◌∙◌}
use mathlib.Core.Bool.{cond}
use Prim.Native.Nat.{ℕ, zero, suc, ◌+◌, ◌-◌}
use Rattle.buffer.specs.Bytes.{Bytes, same}
use Rattle.block.specs.Log.{Alike}
use Rattle.sector_log.proofs.Alike.{held-alike, absence-alike}
use Rattle.entry.specs.declared.Entry.{Entry}
use Rattle.entry.specs.Entry.{entry_of, score_of}
use Rattle.tree.specs.Tree.{type_at}
use Rattle.verdict.specs.Verdict.{verdict}
use Rattle.pair.specs.Opened.{opened}
use Rattle.comparison.specs.declared.Compared.{Compared}
use Rattle.comparison.specs.Compared.{none, refused}
use Rattle.comparison.specs.Compare.{by_verdict, spending, below_by, compare_blocks, compare_entries}

module _ (a b : Bytes) (f : Alike a b) where
  looked_alike : (e : Entry) (level : ℕ) (s : Bytes) (next : Bytes → Compared) → opened a e level s refused next ≡ opened b e level s refused next
  unfolding opened
  looked_alike e level s next = rw (held-alike a b f (type_at e level) s, absence-alike a b f)

  blocks-alike : (n : ℕ) (e : Entry) (level nest : ℕ) (s t : Bytes) (left : ℕ) → compare_blocks n a e level nest s t left ≡ compare_blocks n b e level nest s t left
  unfolding compare_blocks
  blocks-alike zero e level nest s t left = refl
  blocks-alike (suc n) e level nest s t left =
      (λ i. cond (same s t) none
      (spending nest left
      (opened a e level s refused (λ x. opened a e level t refused (λ y. below_by (λ e l m s t c. blocks-alike n e l m s t c i) e level nest x y (left - 1))))))
      ∙ (λ i. cond (same s t) none
      (spending nest left
      (opened a e level s refused (λ x. looked_alike e level t (λ y. below_by (λ e l m s t c. compare_blocks n b e l m s t c) e level nest x y (left - 1)) i))))
      ∙ (λ i. cond (same s t) none
      (spending nest left
      (looked_alike e level s (λ x. opened b e level t refused (λ y. below_by (λ e l m s t c. compare_blocks n b e l m s t c) e level nest x y (left - 1))) i)))

  pub entries-alike : (n nest : ℕ) (x y : Bytes) (left : ℕ) → compare_entries n a nest x y left ≡ compare_entries n b nest x y left
  entries-alike n nest x y left = λ i. by_verdict (verdict x y) (blocks-alike n (entry_of x) (entry_of x).depth (nest + 1) (score_of x) (score_of y) left i)
