-- A walk visits every score that it comes to.
use mathlib.Core.Path.{◌≡◌, sym, ap, ◌∙◌, subst}
use mathlib.Core.Bool.{Bool, true, false, cond}
use mathlib.Core.Option.{some}
use Prim.Native.Nat.{ℕ, zero, suc, ◌+◌, ◌-◌, ◌/◌, ◌%◌, ◌≤◌, ◌<◌}
use native.Mathlib.Omega.{arith}
use lib.Dec.{eqb}
use lib.ListN.{length}
use borrow.Author.Tests.{eqb-false, ne_eqb}
use Rattle.buffer.specs.Bytes.{Bytes}
use Rattle.refusal.specs.declared.Refusal.TheVariants.{Pointers}
use Rattle.block.specs.Block.{Row}
use Rattle.sector_log.specs.LookUp.{held}
use Rattle.entry.specs.declared.Entry.{Entry}
use Rattle.tree.specs.Tree.{piece, type_at, count_at}
use Rattle.visit.specs.Visit.{walked}
use Rattle.descent.specs.Descent.{in_order, visit_entry}
use Rattle.walk_laws.proofs.Found.{not_done, seen, order-done, type_above, level-below, else_done}
use Rattle.writer_laws.specs.Walk.{first, below, ComesToVisits}
use Rattle.bedrock.proofs.Choices.{some_same}
use Rattle.std.specs.Prelude.{Ok, Err}

module _ (log : Bytes) (e : Entry) (nest : ℕ) where
  -- a visit that ends, with calls enough and no more left than this
  abbrev Ends : ℕ → ℕ → Bytes → Type 0
  Ends left k s = (c a : ℕ) × (a + a + 1 ≤ c) × (a ≤ left) × ((visit_entry c log e k nest s a).end ≡ Ok tt)

  -- below a pointer block whose scores were visited in order
  each_ends : (f k left a : ℕ) (b : Bytes) → a + a + 1 ≤ f → a ≤ left → (t : Bool)
      → (cond t (in_order (λ x n. visit_entry f log e (suc k - 1) nest x n) 20 b a (length b / 20) 0 0) (walked 0 (Err Pointers))).end ≡ Ok tt
      → (i : ℕ) → i < length b / 20 → Ends left k (piece 20 i b)
  each_ends f k left a b enough le true d i h =
      order-done (λ x n. visit_entry f log e (suc k - 1) nest x n) 20 b a (λ j. Ends left k (piece 20 j b))
      (λ j n l y. (f, n, omega arith, omega arith, ap (λ (m : ℕ). (visit_entry f log e m nest (piece 20 j b) n).end) (sym (level-below k)) ∙ y))
      (length b / 20) 0 0 d i (omega arith) (omega arith)
  each_ends f k left a b enough le false d i h = not_done _ d

  -- a pointer block
  ends_below : (k left : ℕ) (s : Bytes) (r : Row) → held log (2 + suc k) s ≡ some r → (c a : ℕ) → a + a + 1 ≤ c → a ≤ left
      → (visit_entry c log e (suc k) nest s a).end ≡ Ok tt → (i : ℕ) → i < length r.bytes / 20 → Ends left k (piece 20 i r.bytes)
  unfolding visit_entry
  ends_below k left s r h zero a enough le d = absurd (omega arith)
  ends_below k left s r h (suc f) a enough le d =
      let S = seen log nest a (type_at e (suc k)) (count_at e (suc k)) s _ d in
      let pos = eqb-false a 0 S.found.not-spent in
      let is : S.row ≡ r = some_same S.row r (sym S.found.passes.row-held ∙ ap (λ (t : ℕ). held log t s) (type_above e k) ∙ h) in
      let all = each_ends f k left (a - 1) S.row.bytes (omega arith) (omega arith) (eqb (length S.row.bytes % 20) 0)
      (else_done (eqb (suc k) 0) _ _ (ne_eqb (suc k) 0 (λ z. omega arith)) S.rest-done) in
      subst (λ (x : Row). (i : ℕ) → i < length x.bytes / 20 → Ends left k (piece 20 i x.bytes)) is all

pub comes_to-visits : ComesToVisits
comes_to-visits log e top _ _ first calls nest left enough done = (calls, left, enough, omega arith, done)
comes_to-visits log e top _ _ (below {k = k} {s = p} r up h i lt) calls nest left enough done =
    let U = comes_to-visits log e top (suc k) p up calls nest left enough done in
    ends_below log e nest k left p r h U.0 U.1 U.2 U.3 U.4 i lt
