-- A walk that ends, ends the same on a log that holds the same blocks and perhaps more.
use mathlib.Core.Path.{◌≡◌, refl, ap, ◌∙◌}
use mathlib.Core.Bool.{Bool, true, false, cond}
use mathlib.Core.Option.{some}
use Prim.Native.Nat.{ℕ, zero, suc, ◌+◌, ◌-◌, ◌*◌, ◌/◌, ◌%◌}
use lib.Dec.{eqb, ltb}
use lib.ListN.{length}
use Rattle.buffer.specs.Bytes.{Bytes}
use Rattle.refusal.specs.declared.Refusal.{Refusal}
use Rattle.kind.specs.Kind.{longest}
use Rattle.block.specs.Block.{Row}
use Rattle.sector_log.specs.LookUp.{held, absence, lent_allowed}
use Rattle.sector_log.specs.Parts.{tape}
use Rattle.entry.specs.declared.Entry.{Entry}
use Rattle.entry.specs.Entry.{entry_of, entry_allowed, score_of}
use Rattle.entry.specs.Root.{root_well_formed, root_score}
use Rattle.visit.specs.declared.Walked.{Walked}
use Rattle.tree.specs.Tree.{piece, type_at, count_at}
use Rattle.visit.specs.Visit.{walked, more, visiting}
use Rattle.descent.specs.Descent.{and_then, padded_to, in_order, nest_of, entries_of, judged, visit_directory, visit_entry}
use Rattle.walk.specs.Walk.{walk_top, walk_root, walk_in, walk_of, most_allowance}
use Rattle.visit.proofs.Visits.{by_tests_lem}
use Rattle.walk_laws.proofs.Found.{not_done, and-then-done}
use Rattle.std.specs.Prelude.{Ok, Err}

-- w, if it is done, is w' too
abbrev Same : Walked → Walked → Type 0
Same w w' = w.end ≡ Ok tt → w' ≡ w

refused-same : (n : ℕ) (r : Refusal) (w : Walked) → Same (walked n (Err r)) w
refused-same n r w e = not_done r e

cond_again : (b : Bool) {x y x' y' : Walked} → Same x x' → Same y y' → Same (cond b x y) (cond b x' y')
cond_again true f g = f
cond_again false f g = g

-- a part that is done, and the rest
and-then_again : (r r' : Walked) (n : ℕ) (k k' : ℕ → Walked) → Same r r' → ((m : ℕ) → Same (k m) (k' m))
    → Same (and_then r.end (n + r.visits) k) (and_then r'.end (n + r'.visits) k')
and-then_again r r' n k k' g f d =
    let q = and-then-done r.end (n + r.visits) k d in
    rw (g q.0, q.0) (f (n + r.visits) q.1)

judged_again : (x : Bytes) (w w' : Walked) → Same w w' → Same (judged x w) (judged x w')
unfolding judged
judged_again x w w' f = cond_again (entry_of x).active (cond_again (entry_allowed x) f (λ e. refl)) (λ e. refl)

order_again : (go go' : Bytes → ℕ → Walked) (w : ℕ) (b : Bytes) (left : ℕ) → ((x : Bytes) (a : ℕ) → Same (go x a) (go' x a))
    → (k i n : ℕ) → Same (in_order go w b left k i n) (in_order go' w b left k i n)
unfolding in_order
order_again go go' w b left f zero i n = λ e. refl
order_again go go' w b left f (suc k) i n =
    and-then_again (go (piece w i b) (left - n)) (go' (piece w i b) (left - n)) n _ _ (f (piece w i b) (left - n))
    (λ m. order_again go go' w b left f k (suc i) m)

module _ (log log' : Bytes) (h : (t : ℕ) (s : Bytes) (r : Row) → held log t s ≡ some r → held log' t s ≡ some r) where
  -- a visit: what is held is held again
  visit_again : (nest left kind count : ℕ) (score : Bytes) (next next' : Bytes → Walked) → ((x : Bytes) → Same (next x) (next' x))
      → Same (visiting log nest left kind count score next) (visiting log' nest left kind count score next')
  unfolding visiting
  visit_again nest left kind count score next next' f =
      by_tests_lem (ltb 16 nest) (eqb left 0) (held log kind score) (absence log) count (λ n y. walked n (Err y)) (λ r. more (next r.bytes))
      (λ w. Same w (visiting log' nest left kind count score next')) (λ n y. refused-same n y _)
      (λ r F e. rw (F.not-deep, F.not-spent, h kind score r F.passes.row-held, F.passes.within_count) (ap more (f r.bytes e)))

  mutual
    unfolding visit_entry visit_directory

    entry_again : (f : ℕ) (e : Entry) (level nest : ℕ) (score : Bytes) (left : ℕ)
        → Same (visit_entry f log e level nest score left) (visit_entry f log' e level nest score left)
    entry_again zero e level nest score left = λ d. refl
    entry_again (suc f) e level nest score left =
        visit_again nest left (type_at e level) (count_at e level) score _ _
        (λ b. cond_again (eqb level 0)
        (cond_again e.directory (directory_again f nest b (left - 1)) (λ d. refl))
        (cond_again (eqb (length b % 20) 0)
        (order_again _ _ 20 b (left - 1) (λ x a. entry_again f e (level - 1) nest x a) (length b / 20) 0 0)
        (λ d. refl)))

    directory_again : (f nest : ℕ) (b : Bytes) (left : ℕ) → Same (visit_directory f log nest b left) (visit_directory f log' nest b left)
    directory_again zero nest b left = λ d. refl
    directory_again (suc f) nest b left =
        order_again _ _ 40 (padded_to (40 * entries_of (length b)) b) left
        (λ x a. judged_again x _ _ (entry_again f (entry_of x) (entry_of x).depth (nest_of (entry_of x) nest) (score_of x) a))
        (entries_of (length b)) 0 0

  top_again : (score : Bytes) (left : ℕ) → Same (walk_top log score left) (walk_top log' score left)
  unfolding walk_top
  top_again score left = visit_again 1 left 2 longest score _ _ (λ b. directory_again (left + left + 2) 1 b (left - 1))

  root_again : (score : Bytes) (left : ℕ) → Same (walk_root log score left) (walk_root log' score left)
  unfolding walk_root
  root_again score left =
      visit_again 0 left 1 300 score _ _
      (λ b. cond_again (root_well_formed (padded_to 300 b)) (top_again (root_score (padded_to 300 b)) (left - 1)) (λ d. refl))

  again_in : (lent : Bool) (score : Bytes) (n v : ℕ) → walk_in lent log score n ≡ walked v (Ok tt) → walk_in lent log' score n ≡ walked v (Ok tt)
  unfolding walk_in
  again_in lent score n v e =
      cond_again lent (cond_again (ltb most_allowance n) (λ d. refl) (root_again score n)) (λ d. refl) (ap (λ (w : Walked). w.end) e) ∙ e

-- of parts that hold what earlier ones held
pub walk_again : (log waiting log' waiting' score : Bytes) (n v : ℕ) → lent_allowed (length log') (length waiting') ≡ lent_allowed (length log) (length waiting)
    → ((t : ℕ) (s : Bytes) (r : Row) → held (tape log waiting) t s ≡ some r → held (tape log' waiting') t s ≡ some r)
    → walk_of log waiting score n ≡ walked v (Ok tt) → walk_of log' waiting' score n ≡ walked v (Ok tt)
walk_again log waiting log' waiting' score n v l h e =
    ap (λ (b : Bool). walk_in b (tape log' waiting') score n) l
    ∙ again_in (tape log waiting) (tape log' waiting') h (lent_allowed (length log) (length waiting)) score n v e
