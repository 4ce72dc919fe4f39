-- What a walk that is done has found below a block, as what it was visited.
use mathlib.Core.Path.{◌≡◌, refl, subst}
use mathlib.Core.Bool.{Bool, true, false, cond}
use Prim.Native.Nat.{ℕ, zero, suc, ◌+◌, ◌-◌, ◌/◌, ◌%◌, ◌≤◌}
use native.Mathlib.Omega.{arith}
use lib.Dec.{eqb}
use borrow.Author.Tests.{eqb-true, ne_eqb}
use lib.ListN.{length}
use Rattle.buffer.specs.Bytes.{Bytes}
use Rattle.refusal.specs.declared.Refusal.TheVariants.{Entry as IllFormed, Pointers}
use Rattle.kind.specs.Kind.{longest}
use Rattle.entry.specs.declared.Entry.{Entry}
use Rattle.entry.specs.Root.{root_well_formed, root_score}
use Rattle.tree.specs.Tree.{piece}
use Rattle.visit.specs.declared.Walked.{Walked}
use Rattle.visit.specs.Visit.{walked}
use Rattle.descent.specs.Descent.{padded_to, in_order, visit_directory, visit_entry}
use Rattle.walk.specs.Walk.{walk_top}
use Rattle.walk_laws.specs.Found.{Found}
use Rattle.walk_laws.proofs.Found.{not_done, seen, order-done, level-below, else_done, found-entry, found-directory}
use Rattle.copying.specs.PostOrder.{root, top, of_entry}
use Rattle.copying.specs.Promises.{Linked, below_root, below_top, no_link, entries, scores}
use Rattle.std.specs.Prelude.{Ok, Err}

below-leaf : (f : ℕ) (log : Bytes) (e : Entry) (nest left : ℕ) (b : Bytes) → left + left + 2 ≤ f → (t : Bool) → e.directory ≡ t
    → (cond t (visit_directory f log nest b left) (walked 0 (Ok tt))).end ≡ Ok tt → Linked log (of_entry e zero) b
below-leaf f log e nest left b h true q d = entries q (found-directory f log nest b left d h)
below-leaf f log e nest left b h false q d = no_link q

below-pointers : (log : Bytes) (e : Entry) (l : ℕ) (b : Bytes) (go : Bytes → ℕ → Walked) (left : ℕ) → ((x : Bytes) (a : ℕ) → a ≤ left → (go x a).end ≡ Ok tt → Found log e l x)
    → (t : Bool) → eqb (length b % 20) 0 ≡ t → (cond t (in_order go 20 b left (length b / 20) 0 0) (walked 0 (Err Pointers))).end ≡ Ok tt → Linked log (of_entry e (suc l)) b
below-pointers log e l b go left f true z d =
    scores (eqb-true (length b % 20) 0 z)
    (λ i q. order-done go 20 b left (λ p. Found log e l (piece 20 p b)) (λ p a k y. f (piece 20 p b) a k y) (length b / 20) 0 0 d i (omega arith) (omega arith))
below-pointers log e l b go left f false z d = not_done _ d

pub below-entry : (f : ℕ) (log : Bytes) (e : Entry) (level nest left : ℕ) (b : Bytes) → left + left + 2 ≤ f
    → (cond (eqb level 0) (cond e.directory (visit_directory f log nest b left) (walked 0 (Ok tt)))
    (cond (eqb (length b % 20) 0) (in_order (λ x a. visit_entry f log e (level - 1) nest x a) 20 b left (length b / 20) 0 0) (walked 0 (Err Pointers)))).end ≡ Ok tt
    → Linked log (of_entry e level) b
below-entry f log e zero nest left b h d = below-leaf f log e nest left b h e.directory refl d
below-entry f log e (suc l) nest left b h d =
    below-pointers log e l b (λ x a. visit_entry f log e (suc l - 1) nest x a) left
    (λ x a k y. subst (λ (m : ℕ). Found log e m x) (level-below l) (found-entry f log e (suc l - 1) nest x a y (omega arith)))
    (eqb (length b % 20) 0) refl
    (else_done (eqb (suc l) 0) _ _ (ne_eqb (suc l) 0 (λ z. omega arith)) d)

pub below-a-top : (f : ℕ) (log b : Bytes) (left : ℕ) → left + left + 2 ≤ f → (visit_directory f log 1 b left).end ≡ Ok tt → Linked log top b
below-a-top f log b left h d = below_top (found-directory f log 1 b left d h)

pub below-a-root : (log b : Bytes) (n : ℕ) (t : Bool) → root_well_formed (padded_to 300 b) ≡ t
    → (cond t (walk_top log (root_score (padded_to 300 b)) n) (walked 0 (Err IllFormed))).end ≡ Ok tt → Linked log root b
unfolding walk_top
below-a-root log b n true z d =
    let s = seen log 1 n 2 longest (root_score (padded_to 300 b)) _ d in
    below_root s.row z s.found.passes.row-held (found-directory _ log 1 s.row.bytes (n - 1) s.rest-done (omega arith))
below-a-root log b n false z d = not_done _ d
