-- A copy from two logs with the same sectors is the same copy.
use mathlib.Core.Path.{◌≡◌, refl, ◌∙◌}
use mathlib.Core.Bool.{cond}
use Prim.Native.Nat.{ℕ, zero, suc, ◌-◌, ◌*◌, ◌/◌, ◌%◌}
use lib.Dec.{eqb}
use lib.ListN.{length}
use Rattle.buffer.specs.Bytes.{Bytes}
use Rattle.refusal.specs.declared.Refusal.TheVariants.{Entry as IllFormed, Pointers}
use Rattle.kind.specs.Kind.{longest}
use Rattle.block.specs.Log.{Alike}
use Rattle.sector_log.proofs.Alike.{held-alike, absence-alike}
use Rattle.entry.specs.declared.Entry.{Entry}
use Rattle.entry.specs.Entry.{entry_of, score_of}
use Rattle.entry.specs.Root.{root_well_formed, root_score}
use Rattle.tree.specs.Tree.{type_at, count_at}
use Rattle.descent.specs.Descent.{padded_to, nest_of, entries_of}
use Rattle.copying.specs.Copy.{Copied, stopped, copy_visit, copy_in_order, judged_copy, copy_directory, copy_entry, copy_top, copy_root}
use Rattle.std.specs.Prelude.{Ok, Err}

module _ (a b : Bytes) (f : Alike a b) (date : Bytes) where
  visit_alike : (nest left kind count : ℕ) (score : Bytes) (g h : Bytes → Bytes → Copied) → ((x s : Bytes) → g x s ≡ h x s) → (second : Bytes)
      → copy_visit a date nest left kind count score g second ≡ copy_visit b date nest left kind count score h second
  unfolding copy_visit
  visit_alike nest left kind count score g h e second =
      let q : copy_visit a date nest left kind count score g second ≡ copy_visit b date nest left kind count score g second =
      rw (held-alike a b f kind score, absence-alike a b f) in
      q ∙ (λ i. copy_visit b date nest left kind count score (λ x s. e x s i) second)

  mutual
    unfolding copy_entry copy_directory

    entry-alike : (n : ℕ) (e : Entry) (level nest : ℕ) (score : Bytes) (left : ℕ) (second : Bytes)
        → copy_entry n a date e level nest score left second ≡ copy_entry n b date e level nest score left second
    entry-alike zero e level nest score left second = refl
    entry-alike (suc n) e level nest score left second =
        visit_alike nest left (type_at e level) (count_at e level) score _ _
        (λ x s i. cond (eqb level 0)
        (cond e.directory (directory-alike n nest x (left - 1) s i) (stopped 0 (Ok tt) s))
        (cond (eqb (length x % 20) 0) (copy_in_order (λ y c s'. entry-alike n e (level - 1) nest y c s' i) 20 x (left - 1) (length x / 20) 0 0 s)
        (stopped 0 (Err Pointers) s)))
        second

    directory-alike : (n nest : ℕ) (x : Bytes) (left : ℕ) (second : Bytes) → copy_directory n a date nest x left second ≡ copy_directory n b date nest x left second
    directory-alike zero nest x left second = refl
    directory-alike (suc n) nest x left second =
        λ i. copy_in_order (λ y c s. judged_copy y (entry-alike n (entry_of y) (entry_of y).depth (nest_of (entry_of y) nest) (score_of y) c s i) s) 40
        (padded_to (40 * entries_of (length x)) x) left (entries_of (length x)) 0 0 second

  top-alike : (score : Bytes) (left : ℕ) (second : Bytes) → copy_top a date score left second ≡ copy_top b date score left second
  unfolding copy_top
  top-alike score left second = visit_alike 1 left 2 longest score _ _ (λ x s. directory-alike _ 1 x (left - 1) s) second

  pub root_alike : (score : Bytes) (left : ℕ) (second : Bytes) → copy_root a date score left second ≡ copy_root b date score left second
  unfolding copy_root
  root_alike score left second =
      visit_alike 0 left 1 300 score _ _
      (λ x s i. cond (root_well_formed (padded_to 300 x)) (top-alike (root_score (padded_to 300 x)) (left - 1) s i) (stopped 0 (Err IllFormed) s)) second
