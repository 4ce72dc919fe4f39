-- The walk in post-order with a larger allowance: the same, or it goes on where the smaller one ran out.
use mathlib.Core.Path.{◌≡◌, refl, sym, ap, subst, ◌∙◌}
use mathlib.Core.Bool.{Bool, true, false, cond}
use mathlib.Core.List.{List, [], ◌∷◌, ◌++◌, map, append_assoc, append-nil}
use mathlib.Core.Logic.{◌⊎◌, inl, inr}
use mathlib.Core.Option.{Option, none, some}
use Prim.Native.Nat.{ℕ, zero, suc, ◌+◌, ◌-◌, ◌*◌, ◌/◌, ◌%◌, ◌≤◌, ◌<◌}
use native.Mathlib.Omega.{arith}
use lib.Dec.{eqb, ltb}
use borrow.Author.Tests.{eqb-false, ne_eqb, le-ltb}
use lib.ListN.{length}
use Rattle.bedrock.specs.Choice.{on}
use Rattle.buffer.specs.Bytes.{Bytes}
use Rattle.refusal.specs.declared.Refusal.TheVariants.{OverCount, Spent}
use Rattle.kind.specs.Kind.{longest}
use Rattle.block.specs.Block.{Row}
use Rattle.sector_log.specs.LookUp.{held, absence, lent_allowed}
use Rattle.sector_log.specs.Parts.{tape}
use Rattle.entry.specs.declared.Entry.{Entry}
use Rattle.entry.specs.Entry.{entry_of, entry_allowed, score_of}
use Rattle.entry.specs.Root.{root_well_formed, root_score}
use Rattle.tree.specs.Tree.{piece, count_at}
use Rattle.visit.specs.Visit.{walked}
use Rattle.descent.specs.Descent.{padded_to, nest_of, entries_of}
use Rattle.walk.specs.Walk.{most_allowance}
use Rattle.copying.specs.PostOrder.{Role, root, top, of_entry, type_of, Visit, PostOrder, post_order, later, go_on, followed_by, behind}
use Rattle.copying.specs.PostOrder.{visit_last, each_in_order, judged_last, directory_last, entry_last, top_last, root_last, post_order_in}
use Rattle.copying.specs.Promises.{MoreAllowance}
use Rattle.std.specs.Prelude.{Ok, Err, Result, ⊤}
use Rattle.refusal.specs.declared.Refusal.{Refusal}

-- q is p, or p ran out and q goes on
data Begins (p q : PostOrder) : Type 0 where
  same : q ≡ p → Begins p q
  cut : (rest : List Visit) → p.answer.end ≡ Err Spent → q.visits ≡ p.visits ++ rest → Begins p q

-- ---- one behind the other

map-append : (f : Visit → Visit) (xs ys : List Visit) → map f (xs ++ ys) ≡ map f xs ++ map f ys
map-append f [] ys = refl
map-append f (x ∷ xs) ys = ap (λ (l : List Visit). f x ∷ l) (map-append f xs ys)

-- what goes on has the same front
goes_front : (e : Result ⊤ Refusal) (vs : List Visit) (m : ℕ) (k : ℕ → PostOrder) → (more : List Visit) × ((go_on e vs m k).visits ≡ vs ++ more)
goes_front (Ok tt) vs m k = ((k m).visits, refl)
goes_front (Err why) vs m k = ([], sym (append-nil vs))

goes_begin : (e : Result ⊤ Refusal) (vs : List Visit) (m : ℕ) (k k' : ℕ → PostOrder) → Begins (k m) (k' m) → Begins (go_on e vs m k) (go_on e vs m k')
goes_begin (Ok tt) vs m k k' (same q) = same (ap (λ (p : PostOrder). post_order (vs ++ p.visits) p.answer) q)
goes_begin (Ok tt) vs m k k' (cut rest q r) = cut rest q (ap (λ (l : List Visit). vs ++ l) r ∙ sym (append_assoc vs (k m).visits rest))
goes_begin (Err why) vs m k k' b = same refl

followed_begins : (p p' : PostOrder) (n : ℕ) (k k' : ℕ → PostOrder) → Begins p p' → ((m : ℕ) → Begins (k m) (k' m)) → Begins (followed_by p n k) (followed_by p' n k')
followed_begins p p' n k k' (same q) f =
    subst (λ (x : PostOrder). Begins (followed_by p n k) (followed_by x n k')) (sym q) (goes_begin p.answer.end (map (later n) p.visits) (n + p.answer.visits) k k' (f _))
followed_begins p p' n k k' (cut rest q r) f =
    let vs = map (later n) p.visits in
    let m = n + p.answer.visits in
    let g = goes_front p'.answer.end (map (later n) p'.visits) (n + p'.answer.visits) k' in
    let front : map (later n) p'.visits ≡ vs ++ map (later n) rest = ap (map (later n)) r ∙ map-append (later n) p.visits rest in
    let all : (followed_by p' n k').visits ≡ vs ++ (map (later n) rest ++ g.0) =
    g.1 ∙ ap (λ (l : List Visit). l ++ g.0) front ∙ append_assoc vs (map (later n) rest) g.0 in
    let is : followed_by p n k ≡ post_order vs (walked m (Err Spent)) = ap (λ (e : Result ⊤ Refusal). go_on e vs m k) q in
    subst (λ (x : PostOrder). Begins x (followed_by p' n k')) (sym is) (cut (map (later n) rest ++ g.0) refl all)

cond-begins : (b : Bool) (p q p' q' : PostOrder) → Begins p p' → Begins q q' → Begins (cond b p q) (cond b p' q')
cond-begins true p q p' q' f g = f
cond-begins false p q p' q' f g = g

order-begins : (go go' : Bytes → ℕ → PostOrder) (w : ℕ) (b : Bytes) (left left' : ℕ) → left ≤ left'
    → ((x : Bytes) (a a' : ℕ) → a ≤ a' → a ≤ left → a' ≤ left' → Begins (go x a) (go' x a'))
    → (k i n : ℕ) → Begins (each_in_order go w b left k i n) (each_in_order go' w b left' k i n)
unfolding each_in_order
order-begins go go' w b left left' l f zero i n = same refl
order-begins go go' w b left left' l f (suc k) i n =
    followed_begins (go (piece w i b) (left - n)) (go' (piece w i b) (left' - n)) n _ _ (f (piece w i b) (left - n) (left' - n) (omega arith) (omega arith) (omega arith))
    (λ m. order-begins go go' w b left left' l f k (suc i) m)

judged-begins : (x : Bytes) (p p' : PostOrder) → Begins p p' → Begins (judged_last x p) (judged_last x p')
unfolding judged_last
judged-begins x p p' f = cond-begins (entry_of x).active _ _ _ _ (cond-begins (entry_allowed x) _ _ _ _ f (same refl)) (same refl)

-- ---- a visit, entries and directories

module _ (log : Bytes) where
  visit_begins : (nest left left' : ℕ) (role : Role) (count : ℕ) (score : Bytes) (B B' : Bytes → PostOrder) → left ≤ left' → (0 < left → (b : Bytes) → Begins (B b) (B' b))
      → Begins (visit_last log nest left role count score B) (visit_last log nest left' role count score B')
  unfolding visit_last
  visit_begins nest left left' role count score B B' l f = cond-begins (ltb 16 nest) _ _ _ _ (same refl) (by_left (eqb left 0) refl)
    where
      found : 0 < left → (o : Option Row)
          → Begins (on o (post_order [] (walked 1 (Err (absence log))))
          (λ r. cond (ltb count (length r.bytes)) (post_order [] (walked 1 (Err OverCount))) (behind role score r.bytes (B r.bytes))))
          (on o (post_order [] (walked 1 (Err (absence log))))
          (λ r. cond (ltb count (length r.bytes)) (post_order [] (walked 1 (Err OverCount))) (behind role score r.bytes (B' r.bytes))))
      found p none = same refl
      found p (some r) =
          cond-begins (ltb count (length r.bytes)) _ _ _ _ (same refl)
          (followed_begins (B r.bytes) (B' r.bytes) 1 _ _ (f p r.bytes) (λ m. same refl))

      by_left : (t : Bool) → eqb left 0 ≡ t
          → Begins (cond t (post_order [] (walked 0 (Err Spent))) (on (held log (type_of role) score) (post_order [] (walked 1 (Err (absence log))))
          (λ r. cond (ltb count (length r.bytes)) (post_order [] (walked 1 (Err OverCount))) (behind role score r.bytes (B r.bytes)))))
          (cond (eqb left' 0) (post_order [] (walked 0 (Err Spent))) (on (held log (type_of role) score) (post_order [] (walked 1 (Err (absence log))))
          (λ r. cond (ltb count (length r.bytes)) (post_order [] (walked 1 (Err OverCount))) (behind role score r.bytes (B' r.bytes)))))
      by_left true q = cut _ refl refl
      by_left false q =
          let z = eqb-false left 0 q in
          let y : eqb left' 0 ≡ false = ne_eqb left' 0 (λ e. z (omega (arith, l, e))) in
          rw y (found (omega arith) (held log (type_of role) score))

  mutual
    unfolding entry_last directory_last

    entry-begins : (f f' : ℕ) (e : Entry) (level nest : ℕ) (score : Bytes) (left left' : ℕ) → left ≤ left' → left + left + 1 ≤ f → left' + left' + 1 ≤ f'
        → Begins (entry_last f log e level nest score left) (entry_last f' log e level nest score left')
    entry-begins zero f' e level nest score left left' l h h' = absurd (omega arith)
    entry-begins (suc f) zero e level nest score left left' l h h' = absurd (omega arith)
    entry-begins (suc f) (suc f') e level nest score left left' l h h' =
        visit_begins nest left left' (of_entry e level) (count_at e level) score _ _ l
        (λ p b. cond-begins (eqb level 0) _ _ _ _
        (cond-begins e.directory _ _ _ _ (directory-begins f f' nest b (left - 1) (left' - 1) (omega arith) (omega arith) (omega arith)) (same refl))
        (cond-begins (eqb (length b % 20) 0) _ _ _ _
        (order-begins (λ x a. entry_last f log e (level - 1) nest x a) (λ x a. entry_last f' log e (level - 1) nest x a) 20 b (left - 1) (left' - 1) (omega arith)
        (λ x a a' k i i'. entry-begins f f' e (level - 1) nest x a a' k (omega arith) (omega arith)) (length b / 20) 0 0)
        (same refl)))

    directory-begins : (f f' nest : ℕ) (b : Bytes) (left left' : ℕ) → left ≤ left' → left + left + 2 ≤ f → left' + left' + 2 ≤ f'
        → Begins (directory_last f log nest b left) (directory_last f' log nest b left')
    directory-begins zero f' nest b left left' l h h' = absurd (omega arith)
    directory-begins (suc f) zero nest b left left' l h h' = absurd (omega arith)
    directory-begins (suc f) (suc f') nest b left left' l h h' =
        order-begins
        (λ x a. judged_last x (entry_last f log (entry_of x) (entry_of x).depth (nest_of (entry_of x) nest) (score_of x) a))
        (λ x a. judged_last x (entry_last f' log (entry_of x) (entry_of x).depth (nest_of (entry_of x) nest) (score_of x) a)) 40
        (padded_to (40 * entries_of (length b)) b) left left' l
        (λ x a a' k i i'. judged-begins x _ _ (entry-begins f f' (entry_of x) (entry_of x).depth (nest_of (entry_of x) nest) (score_of x) a a' k (omega arith) (omega arith)))
        (entries_of (length b)) 0 0

  top-begins : (score : Bytes) (left left' : ℕ) → left ≤ left' → Begins (top_last log score left) (top_last log score left')
  unfolding top_last
  top-begins score left left' l =
      visit_begins 1 left left' top longest score _ _ l
      (λ p b. directory-begins (left + left + 2) (left' + left' + 2) 1 b (left - 1) (left' - 1) (omega arith) (omega arith) (omega arith))

  root-begins : (score : Bytes) (left left' : ℕ) → left ≤ left' → Begins (root_last log score left) (root_last log score left')
  unfolding root_last
  root-begins score left left' l =
      visit_begins 0 left left' root 300 score _ _ l
      (λ p b. cond-begins (root_well_formed (padded_to 300 b)) _ _ _ _ (top-begins (root_score (padded_to 300 b)) (left - 1) (left' - 1) (omega arith)) (same refl))

  tests-begin : (lent : Bool) (score : Bytes) (m n : ℕ) → m ≤ n → n ≤ most_allowance → Begins (post_order_in lent log score m) (post_order_in lent log score n)
  unfolding post_order_in
  tests-begin lent score m n l h =
      let a : ltb most_allowance m ≡ false = le-ltb most_allowance m (omega (arith, l, h)) in
      let b : ltb most_allowance n ≡ false = le-ltb most_allowance n h in
      rw (a, b) (cond-begins lent _ _ _ _ (root-begins score m n l) (same refl))

pub more_allowance : MoreAllowance
more_allowance log waiting score m n l h = go (tests-begin (tape log waiting) (lent_allowed (length log) (length waiting)) score m n l h)
  where
    go : {p q : PostOrder} → Begins p q → (q ≡ p) ⊎ ((rest : List Visit) × (p.answer.end ≡ Err Spent) × (q.visits ≡ p.visits ++ rest))
    go (same e) = inl e
    go (cut rest e r) = inr (rest, e, r)
