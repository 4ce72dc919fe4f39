-- A walk over two logs with the same sectors is the same walk.
use mathlib.Core.Path.{◌≡◌, refl, ◌∙◌}
use mathlib.Core.Bool.{cond}
use Prim.Native.Nat.{ℕ, zero, suc, ◌-◌, ◌*◌, ◌/◌, ◌%◌}
use lib.Dec.{eqb}
use lib.ListN.{length}
use Rattle.buffer.specs.Bytes.{Bytes}
use Rattle.refusal.specs.declared.Refusal.TheVariants.{Entry as IllFormed, Pointers}
use Rattle.kind.specs.Kind.{longest}
use Rattle.block.specs.Log.{Alike}
use Rattle.sector_log.proofs.Alike.{held-alike, absence-alike}
use Rattle.entry.specs.declared.Entry.{Entry}
use Rattle.entry.specs.Entry.{entry_of, score_of}
use Rattle.entry.specs.Root.{root_well_formed, root_score}
use Rattle.tree.specs.Tree.{type_at, count_at}
use Rattle.visit.specs.declared.Walked.{Walked}
use Rattle.visit.specs.Visit.{walked, visiting}
use Rattle.descent.specs.Descent.{padded_to, in_order, nest_of, entries_of, judged, visit_directory, visit_entry}
use Rattle.walk.specs.Walk.{walk_top, walk_root}
use Rattle.std.specs.Prelude.{Ok, Err}

module _ (a b : Bytes) (f : Alike a b) where
  looked_alike : (nest left kind count : ℕ) (score : Bytes) (g : Bytes → Walked) → visiting a nest left kind count score g ≡ visiting b nest left kind count score g
  unfolding visiting
  looked_alike nest left kind count score g = rw (held-alike a b f kind score, absence-alike a b f)

  visiting-alike : (nest left kind count : ℕ) (score : Bytes) (g h : Bytes → Walked) → ((x : Bytes) → g x ≡ h x)
      → visiting a nest left kind count score g ≡ visiting b nest left kind count score h
  visiting-alike nest left kind count score g h e =
      looked_alike nest left kind count score g ∙ (λ i. visiting b nest left kind count score (λ x. e x i))

  mutual
    unfolding visit_entry visit_directory

    entry-alike : (n : ℕ) (e : Entry) (level nest : ℕ) (score : Bytes) (left : ℕ) → visit_entry n a e level nest score left ≡ visit_entry n b e level nest score left
    entry-alike zero e level nest score left = refl
    entry-alike (suc n) e level nest score left =
        visiting-alike nest left (type_at e level) (count_at e level) score _ _
        (λ x i. cond (eqb level 0)
        (cond e.directory (directory-alike n nest x (left - 1) i) (walked 0 (Ok tt)))
        (cond (eqb (length x % 20) 0) (in_order (λ y c. entry-alike n e (level - 1) nest y c i) 20 x (left - 1) (length x / 20) 0 0)
        (walked 0 (Err Pointers))))

    directory-alike : (n nest : ℕ) (x : Bytes) (left : ℕ) → visit_directory n a nest x left ≡ visit_directory n b nest x left
    directory-alike zero nest x left = refl
    directory-alike (suc n) nest x left =
        λ i. in_order (λ y c. judged y (entry-alike n (entry_of y) (entry_of y).depth (nest_of (entry_of y) nest) (score_of y) c i)) 40
        (padded_to (40 * entries_of (length x)) x) left (entries_of (length x)) 0 0

  top-alike : (score : Bytes) (left : ℕ) → walk_top a score left ≡ walk_top b score left
  unfolding walk_top
  top-alike score left = visiting-alike 1 left 2 longest score _ _ (λ x. directory-alike _ 1 x (left - 1))

  pub root_alike : (score : Bytes) (left : ℕ) → walk_root a score left ≡ walk_root b score left
  unfolding walk_root
  root_alike score left =
      visiting-alike 0 left 1 300 score _ _
      (λ x i. cond (root_well_formed (padded_to 300 x)) (top-alike (root_score (padded_to 300 x)) (left - 1) i) (walked 0 (Err IllFormed)))
