-- A walk never visits more than its allowance, which is at most 1,000,000, and the sector that it tells of is one of the longest log and waiting part.
use Prim.Native.Nat.{ℕ, zero, suc, ◌+◌, ◌-◌, ◌*◌, ◌/◌, ◌%◌, ◌≤◌}
use mathlib.Core.Bool.{Bool, true}
use mathlib.Core.Path.{◌≡◌, refl, ap, ap₂, ◌∙◌}
use native.Mathlib.Omega.{arith}
use lib.Dec.{eqb, ltb}
use lib.ListN.{length}
use borrow.Author.Tests.{eqb-false, ltb-false}
use Rattle.buffer.specs.Bytes.{Bytes}
use Rattle.kind.specs.Kind.{longest}
use Rattle.block.specs.Log.{sectors}
use Rattle.sector_log.specs.LookUp.{held, lent_allowed}
use Rattle.sector_log.specs.Parts.{tape}
use Rattle.entry.specs.declared.Entry.{Entry}
use Rattle.entry.specs.Entry.{entry_of, entry_allowed, score_of}
use Rattle.entry.specs.Root.{root_well_formed, root_score}
use Rattle.results.specs.Sizes.{most_both}
use Rattle.walk_calls.specs.Walked.{end_sector, walk_result}
use Rattle.results.proofs.Doubts.{absence-told, both_few}
use Rattle.bedrock.proofs.Choices.{cond_ind, on_ind}
use Rattle.visit.specs.declared.Walked.{Walked}
use Rattle.tree.specs.Tree.{piece, type_at, count_at}
use Rattle.visit.specs.Visit.{end_number, visiting}
use Rattle.descent.specs.Descent.{and_then, padded_to, in_order, nest_of, entries_of, judged, visit_directory, visit_entry}
use Rattle.walk.specs.Walk.{walk_top, walk_root, walk_in, walk_of, most_allowance}
use Rattle.std.specs.Prelude.{Ok, Err, Result, ⊤}
use Rattle.refusal.specs.declared.Refusal.{Refusal}

-- at most so many visits, and a sector of the longest log and waiting part
pub record Within (left : ℕ) (w : Walked) : Type 0 where
  pub few : w.visits ≤ left
  pub told : end_sector w.end ≤ most_both

within : {left : ℕ} {w : Walked} → w.visits ≤ left → end_sector w.end ≤ most_both → Within left w
within a b = record { few = a; told = b }

-- an end that tells of no sector
bare : {left : ℕ} {w : Walked} → w.visits ≤ left → end_sector w.end ≡ 0 → Within left w
bare a b = within a (omega arith)

and-then-within : (left : ℕ) (e : Result ⊤ Refusal) (n : ℕ) (k : ℕ → Walked) → n ≤ left → end_sector e ≤ most_both → Within left (k n) → Within left (and_then e n k)
and-then-within left (Ok tt) n k h t f = f
and-then-within left (Err r) n k h t f = within h t

order-within : (go : Bytes → ℕ → Walked) (w : ℕ) (b : Bytes) (left : ℕ) → ((x : Bytes) (a : ℕ) → Within a (go x a)) → (k i n : ℕ) → n ≤ left → Within left (in_order go w b left k i n)
unfolding in_order
order-within go w b left g zero i n h = bare h refl
order-within go w b left g (suc k) i n h =
    let p = piece w i b in
    let m : n + (go p (left - n)).visits ≤ left = omega (arith, (g p (left - n)).few) in
    and-then-within left (go p (left - n)).end (n + (go p (left - n)).visits) _ m (g p (left - n)).told (order-within go w b left g k (suc i) _ m)

judged-within : (x : Bytes) (w : Walked) (left : ℕ) → Within left w → Within left (judged x w)
unfolding judged
judged-within x w left h =
    cond_ind (Within left) (entry_of x).active _ _ (λ _. cond_ind (Within left) (entry_allowed x) _ _ (λ _. h) (λ _. bare (omega arith) refl)) (λ _. bare (omega arith) refl)

module _ (log : Bytes) (h : sectors (length log) ≤ most_both) where
  visit_within : (nest left kind count : ℕ) (score : Bytes) (next : Bytes → Walked) → ((b : Bytes) → Within (left - 1) (next b))
      → Within left (visiting log nest left kind count score next)
  unfolding visiting
  visit_within nest left kind count score next g =
      cond_ind (Within left) (ltb 16 nest) _ _ (λ _. bare (omega arith) refl)
      (λ _. cond_ind (Within left) (eqb left 0) _ _ (λ _. bare (omega arith) refl)
      (λ z. let some_left = eqb-false left 0 z in
      on_ind (Within left) (held log kind score) _ _ (λ _. within (omega arith) (absence-told most_both log h))
      (λ r _. cond_ind (Within left) (ltb count (length r.bytes)) _ _ (λ _. bare (omega arith) refl)
      (λ _. within (omega (arith, (g r.bytes).few)) (g r.bytes).told))))

  mutual
    unfolding visit_entry visit_directory

    entry-within : (f : ℕ) (e : Entry) (level nest : ℕ) (score : Bytes) (left : ℕ) → Within left (visit_entry f log e level nest score left)
    entry-within zero e level nest score left = bare (omega arith) refl
    entry-within (suc f) e level nest score left =
        visit_within nest left (type_at e level) (count_at e level) score _
        (λ b. cond_ind (Within (left - 1)) (eqb level 0) _ _
        (λ _. cond_ind (Within (left - 1)) e.directory _ _ (λ _. directory-within f nest b (left - 1)) (λ _. bare (omega arith) refl))
        (λ _. cond_ind (Within (left - 1)) (eqb (length b % 20) 0) _ _
        (λ _. order-within _ 20 b (left - 1) (λ x a. entry-within f e (level - 1) nest x a) (length b / 20) 0 0 (omega arith))
        (λ _. bare (omega arith) refl)))

    directory-within : (f : ℕ) (nest : ℕ) (b : Bytes) (left : ℕ) → Within left (visit_directory f log nest b left)
    directory-within zero nest b left = bare (omega arith) refl
    directory-within (suc f) nest b left =
        order-within _ 40 (padded_to (40 * entries_of (length b)) b) left
        (λ x a. judged-within x _ a (entry-within f (entry_of x) (entry_of x).depth (nest_of (entry_of x) nest) (score_of x) a))
        (entries_of (length b)) 0 0 (omega arith)

  top_within : (score : Bytes) (left : ℕ) → Within left (walk_top log score left)
  unfolding walk_top
  top_within score left = visit_within 1 left 2 longest score _ (λ b. directory-within (left + left + 2) 1 b (left - 1))

  root-within : (score : Bytes) (left : ℕ) → Within left (walk_root log score left)
  unfolding walk_root
  root-within score left =
      visit_within 0 left 1 300 score _
      (λ b. cond_ind (Within (left - 1)) (root_well_formed (padded_to 300 b)) _ _ (λ _. top_within (root_score (padded_to 300 b)) (left - 1)) (λ _. bare (omega arith) refl))

within_in : (lent : Bool) (log score : Bytes) (allowance : ℕ) → (lent ≡ true → sectors (length log) ≤ most_both)
    → Within allowance (walk_in lent log score allowance) × Within most_allowance (walk_in lent log score allowance)
unfolding walk_in
within_in lent log score allowance few =
    cond_ind Both lent _ _
    (λ p. cond_ind Both (ltb most_allowance allowance) _ _ (λ _. (bare (omega arith) refl, bare (omega arith) refl))
    (λ q. let h = root-within log (few p) score allowance in
    (h, within (omega (arith, h.few, ltb-false most_allowance allowance q)) h.told)))
    (λ _. (bare (omega arith) refl, bare (omega arith) refl))
  where
    Both : Walked → Type 0
    Both w = Within allowance w × Within most_allowance w

pub walk-within : (log waiting score : Bytes) (allowance : ℕ)
    → Within allowance (walk_of log waiting score allowance) × Within most_allowance (walk_of log waiting score allowance)
walk-within log waiting score allowance = within_in (lent_allowed (length log) (length waiting)) (tape log waiting) score allowance (both_few log waiting)

-- of the code's answer
pub walk-small : (log waiting score : Bytes) (allowance : ℕ) (w : Walked) → w ≡ walk_of log waiting score allowance → Within most_allowance w
walk-small log waiting score allowance w e = rw e (walk-within log waiting score allowance).1

pub walked_so : (w v : Walked) (k s : ℕ) → w ≡ v → k ≡ end_number w.end → s ≡ end_sector w.end → k + 256 * (w.visits + 1048576 * s) ≡ walk_result v
walked_so w v k s e f g = ap₂ (λ (x y : ℕ). x + 256 * (w.visits + 1048576 * y)) f g ∙ ap walk_result e
