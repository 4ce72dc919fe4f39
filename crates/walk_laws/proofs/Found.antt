-- A walk that ends visits only blocks that look-up finds.
use mathlib.Core.Path.{◌≡◌, refl, sym, ap, subst, ◌∙◌}
use mathlib.Core.Bool.{Bool, true, false, cond}
use mathlib.Core.Option.{Option, some}
use Prim.Native.Nat.{ℕ, zero, suc, ◌+◌, ◌-◌, ◌*◌, ◌/◌, ◌%◌, ◌≤◌, ◌<◌}
use native.Mathlib.Omega.{arith}
use lib.Dec.{eqb, ltb}
use borrow.Author.Tests.{eqb-true, eqb-false, ne_eqb}
use lib.ListN.{length}
use Rattle.buffer.specs.Bytes.{Bytes}
use Rattle.refusal.specs.declared.Refusal.{Refusal}
use Rattle.refusal.specs.declared.Refusal.TheVariants.{Entry as IllFormed, Pointers, LogLength, Allowance}
use Rattle.kind.specs.Kind.{longest}
use Rattle.block.specs.Block.{Row}
use Rattle.sector_log.specs.LookUp.{held, absence, lent_allowed}
use Rattle.sector_log.specs.Parts.{tape}
use Rattle.entry.specs.declared.Entry.{Entry}
use Rattle.entry.specs.Entry.{entry_of, entry_allowed, score_of}
use Rattle.entry.specs.Root.{root_well_formed, root_score}
use Rattle.visit.specs.declared.Walked.{Walked}
use Rattle.tree.specs.Tree.{piece, type_at, count_at}
use Rattle.visit.specs.Visit.{walked, more, visiting}
use Rattle.descent.specs.Descent.{and_then, padded_to, in_order, nest_of, entries_of, judged, visit_directory, visit_entry}
use Rattle.walk.specs.Walk.{walk_top, walk_root, walk_in, most_allowance}
use Rattle.descent.specs.Parts.{entry_in}
use Rattle.walk_laws.specs.Found.{Found, leaf, directory, pointers, FoundEntries, FoundRoot, WalkFinds}
use Rattle.visit.proofs.Visits.{FoundByTests, by_tests_lem}
use Rattle.std.specs.Prelude.{Ok, Err, Result, ⊤}

-- no refusal is the end of a walk that is done
pub not_done {ℓ} : {A : Type ℓ} (w : Refusal) → ◌≡◌ {A = Result ⊤ Refusal} (Err w) (Ok tt) → A
not_done w e = let z : ◌≡◌ {A = ℕ} 0 1 = cc in absurd (omega arith)

-- what is known of a visit after which the walk was done: its block, and that what goes on was done
pub record Seen (a b : Bool) (o : Option Row) (count : ℕ) (next : Bytes → Walked) : Type 0 where
  pub row : Row
  pub found : FoundByTests a b o count row
  pub rest-done : (next row.bytes).end ≡ Ok tt

pub seen : (log : Bytes) (nest left kind count : ℕ) (score : Bytes) (next : Bytes → Walked) → (visiting log nest left kind count score next).end ≡ Ok tt
    → Seen (ltb 16 nest) (eqb left 0) (held log kind score) count next
unfolding visiting
seen log nest left kind count score next e =
    by_tests_lem (ltb 16 nest) (eqb left 0) (held log kind score) (absence log) count (λ n y. walked n (Err y)) (λ r. more (next r.bytes))
    (λ w. w.end ≡ Ok tt → Seen (ltb 16 nest) (eqb left 0) (held log kind score) count next) (λ n y d. not_done y d) (λ r F d. record { row = r; found = F; rest-done = d }) e

-- after a part that was done the rest goes on
pub and-then-done : (e : Result ⊤ Refusal) (n : ℕ) (k : ℕ → Walked) → (and_then e n k).end ≡ Ok tt → (e ≡ Ok tt) × ((k n).end ≡ Ok tt)
and-then-done (Ok tt) n k h = (refl, h)
and-then-done (Err r) n k h = not_done r h

-- each of the pieces was done, with no more than what was left
pub order-done : (go : Bytes → ℕ → Walked) (w : ℕ) (b : Bytes) (left : ℕ) (P : ℕ → Type 0) → ((p a : ℕ) → a ≤ left → (go (piece w p b) a).end ≡ Ok tt → P p)
    → (k i n : ℕ) → (in_order go w b left k i n).end ≡ Ok tt → (p : ℕ) → i ≤ p → p < i + k → P p
unfolding in_order
order-done go w b left P f zero i n e p h l = absurd (omega arith)
order-done go w b left P f (suc k) i n e p h l =
    let d = and-then-done (go (piece w i b) (left - n)).end _ _ e in
    here (eqb p i) refl d.0 (order-done go w b left P f k (suc i) _ d.1)
  where
    here : (t : Bool) → eqb p i ≡ t → (go (piece w i b) (left - n)).end ≡ Ok tt → ((q : ℕ) → suc i ≤ q → q < suc i + k → P q) → P p
    here true z d r = let y : p ≡ i = eqb-true p i z in rw y (f i (left - n) (omega arith) d)
    here false z d r = let y = eqb-false p i z in r p (omega arith) (omega arith)

judged-done_by_tests : (a t : Bool) (w : Walked) → (cond a (cond t w (walked 0 (Err IllFormed))) (walked 0 (Ok tt))).end ≡ Ok tt → a ≡ true → (t ≡ true) × (w.end ≡ Ok tt)
judged-done_by_tests true true w e h = (refl, e)
judged-done_by_tests true false w e h = not_done _ e
judged-done_by_tests false t w e h = let z : ◌≡◌ {A = ℕ} 0 1 = cc in absurd (omega arith)

judged-done : (x : Bytes) (w : Walked) → (judged x w).end ≡ Ok tt → (entry_of x).active ≡ true → (entry_allowed x ≡ true) × (w.end ≡ Ok tt)
unfolding judged
judged-done x w e a = judged-done_by_tests (entry_of x).active (entry_allowed x) w e a

-- the entries of a directory block, from what is known of each that was done
entries-found : (log b : Bytes) (g : Bytes → ℕ → Walked) (left : ℕ)
    → ((x : Bytes) (a : ℕ) → a ≤ left → (g x a).end ≡ Ok tt → Found log (entry_of x) (entry_of x).depth (score_of x))
    → (in_order (λ x a. judged x (g x a)) 40 (padded_to (40 * entries_of (length b)) b) left (entries_of (length b)) 0 0).end ≡ Ok tt → FoundEntries log b
entries-found log b g left f e = record { formed = λ i h a. (each i h a).0; found = λ i h a. (each i h a).1 }
  where
    Known : ℕ → Type 0
    Known i = (entry_of (entry_in b i)).active ≡ true
        → (entry_allowed (entry_in b i) ≡ true) × Found log (entry_of (entry_in b i)) (entry_of (entry_in b i)).depth (score_of (entry_in b i))

    each : (i : ℕ) → i < entries_of (length b) → Known i
    each i h =
        order-done (λ x a. judged x (g x a)) 40 (padded_to (40 * entries_of (length b)) b) left Known
        (λ p a l d q. let j = judged-done (entry_in b p) (g (entry_in b p) a) d q in (j.0, f (entry_in b p) a l j.1))
        (entries_of (length b)) 0 0 e i (omega arith) (omega arith)

-- what goes on below a leaf, and below a pointer block
module _ (log : Bytes) (e : Entry) (score : Bytes) (r : Row) where
  leaf-found : (sub : Bytes → Walked) → ((sub r.bytes).end ≡ Ok tt → FoundEntries log r.bytes) → (t : Bool) → e.directory ≡ t
      → held log (cond t 2 13) score ≡ some r → (cond t (sub r.bytes) (walked 0 (Ok tt))).end ≡ Ok tt → Found log e zero score
  leaf-found sub f true z h d = directory r z h (f d).formed (f d).found
  leaf-found sub f false z h d = leaf r z h

  scores-found : (l : ℕ) (go : Bytes → ℕ → Walked) (left : ℕ) → ((x : Bytes) (a : ℕ) → a ≤ left → (go x a).end ≡ Ok tt → Found log e l x)
      → held log (2 + suc l) score ≡ some r → (t : Bool) → eqb (length r.bytes % 20) 0 ≡ t
      → (cond t (in_order go 20 r.bytes left (length r.bytes / 20) 0 0) (walked 0 (Err Pointers))).end ≡ Ok tt → Found log e (suc l) score
  scores-found l go left f h true z d =
      pointers r h (eqb-true (length r.bytes % 20) 0 z)
      (λ i q. order-done go 20 r.bytes left (λ p. Found log e l (piece 20 p r.bytes)) (λ p a k y. f (piece 20 p r.bytes) a k y)
      (length r.bytes / 20) 0 0 d i (omega arith) (omega arith))
  scores-found l go left f h false z d = not_done _ d

-- above the leaves
pub type_above : (e : Entry) (l : ℕ) → type_at e (suc l) ≡ 2 + suc l
unfolding type_at
type_above e l = rw (ne_eqb (suc l) 0 (λ z. omega arith))

pub level-below : (l : ℕ) → suc l - 1 ≡ l
level-below l = omega arith

pub else_done : (u : Bool) (x y : Walked) → u ≡ false → (cond u x y).end ≡ Ok tt → y.end ≡ Ok tt
else_done true x y z d = let n : ◌≡◌ {A = ℕ} 0 1 = cc in absurd (omega arith)
else_done false x y z d = d

mutual
  unfolding visit_entry visit_directory type_at

  -- where the bound of the calls is enough
  pub found-entry : (f : ℕ) (log : Bytes) (e : Entry) (level nest : ℕ) (score : Bytes) (left : ℕ)
      → (visit_entry f log e level nest score left).end ≡ Ok tt → left + left + 1 ≤ f → Found log e level score
  found-entry zero log e level nest score left d h = absurd (omega arith)
  found-entry (suc f) log e zero nest score left d h =
      let s = seen log nest left (type_at e zero) (count_at e zero) score _ d in
      let p = eqb-false left 0 s.found.not-spent in
      leaf-found log e score s.row (λ b. visit_directory f log nest b (left - 1))
      (λ y. found-directory f log nest s.row.bytes (left - 1) y (omega arith)) e.directory refl s.found.passes.row-held s.rest-done
  found-entry (suc f) log e (suc l) nest score left d h =
      let s = seen log nest left (type_at e (suc l)) (count_at e (suc l)) score _ d in
      let p = eqb-false left 0 s.found.not-spent in
      scores-found log e score s.row l (λ x a. visit_entry f log e (suc l - 1) nest x a) (left - 1)
      (λ x a k y. subst (λ (m : ℕ). Found log e m x) (level-below l) (found-entry f log e (suc l - 1) nest x a y (omega arith)))
      (ap (λ (t : ℕ). held log t score) (sym (type_above e l)) ∙ s.found.passes.row-held) (eqb (length s.row.bytes % 20) 0) refl
      (else_done (eqb (suc l) 0) _ _ (ne_eqb (suc l) 0 (λ z. omega arith)) s.rest-done)

  pub found-directory : (f : ℕ) (log : Bytes) (nest : ℕ) (b : Bytes) (left : ℕ)
      → (visit_directory f log nest b left).end ≡ Ok tt → left + left + 2 ≤ f → FoundEntries log b
  found-directory zero log nest b left d h = absurd (omega arith)
  found-directory (suc f) log nest b left d h =
      entries-found log b (λ x a. visit_entry f log (entry_of x) (entry_of x).depth (nest_of (entry_of x) nest) (score_of x) a) left
      (λ x a l q. found-entry f log (entry_of x) (entry_of x).depth (nest_of (entry_of x) nest) (score_of x) a q (omega arith)) d

-- below the root
root-done-found : (log score : Bytes) (n : ℕ) (r : Row) → held log 1 score ≡ some r → (t : Bool) → root_well_formed (padded_to 300 r.bytes) ≡ t
    → (cond t (walk_top log (root_score (padded_to 300 r.bytes)) n) (walked 0 (Err IllFormed))).end ≡ Ok tt → FoundRoot log score
unfolding walk_top
root-done-found log score n r h true z d =
    let s = seen log 1 n 2 longest (root_score (padded_to 300 r.bytes)) _ d in
    record {
      root = r;
      root-held = h;
      formed = z;
      top = s.row;
      top-held = s.found.passes.row-held;
      below = found-directory _ log 1 s.row.bytes (n - 1) s.rest-done (omega arith);
    }
root-done-found log score n r h false z d = not_done _ d

tests_passed : (a b : Bool) (w : Walked) → (cond a (cond b (walked 0 (Err Allowance)) w) (walked 0 (Err LogLength))).end ≡ Ok tt → w.end ≡ Ok tt
tests_passed true true w e = not_done _ e
tests_passed true false w e = e
tests_passed false b w e = not_done _ e

found_in : (lent : Bool) (log score : Bytes) (n v : ℕ) → walk_in lent log score n ≡ walked v (Ok tt) → FoundRoot log score
unfolding walk_in walk_root
found_in lent log score n v e =
    let d = tests_passed lent (ltb most_allowance n) (walk_root log score n) (ap (λ (w : Walked). w.end) e) in
    let s = seen log 0 n 1 300 score _ d in
    root-done-found log score (n - 1) s.row s.found.passes.row-held (root_well_formed (padded_to 300 s.row.bytes)) refl s.rest-done

pub walk-found : WalkFinds
walk-found log waiting score n v e = found_in (lent_allowed (length log) (length waiting)) (tape log waiting) score n v e
