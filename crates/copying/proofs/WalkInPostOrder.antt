-- The walk in post-order over any log: its answer is the walk's, its blocks are held there, each behind what it links to, and a log that holds them all is walked alike.
use mathlib.Core.Path.{◌≡◌, refl, sym, ap, ◌∙◌}
use mathlib.Core.Bool.{Bool, true, false, cond}
use mathlib.Core.List.{List, [], map}
use Prim.Native.Nat.{ℕ, zero, suc, ◌+◌, ◌-◌, ◌*◌, ◌/◌, ◌%◌, ◌≤◌, ◌<◌}
use native.Mathlib.Omega.{arith}
use lib.Dec.{eqb, ltb}
use borrow.Author.Tests.{eqb-false}
use lib.ListN.{length}
use Rattle.buffer.specs.Bytes.{Bytes}
use Rattle.refusal.specs.declared.Refusal.{Refusal}
use Rattle.refusal.specs.declared.Refusal.TheVariants.{LogLength, Entry as IllFormed, Pointers, Allowance}
use Rattle.kind.specs.Kind.{longest}
use Rattle.sector_log.specs.LookUp.{held, absence, lent_allowed}
use Rattle.sector_log.specs.Parts.{tape}
use Rattle.entry.specs.declared.Entry.{Entry}
use Rattle.entry.specs.Entry.{entry_of, entry_allowed, score_of}
use Rattle.entry.specs.Root.{root_well_formed, root_score}
use Rattle.tree.specs.Tree.{piece, count_at}
use Rattle.visit.specs.declared.Walked.{Walked}
use Rattle.visit.specs.Visit.{walked, visiting}
use Rattle.descent.specs.Descent.{and_then, padded_to, in_order, nest_of, entries_of, judged, visit_directory, visit_entry}
use Rattle.walk.specs.Walk.{walk_top, walk_root, walk_in, most_allowance}
use Rattle.walk_laws.proofs.Found.{not_done}
use Rattle.copying.specs.PostOrder.{Role, root, top, of_entry, type_of, Visit, PostOrder, post_order, later, go_on, followed_by, visit_last, each_in_order, judged_last, directory_last}
use Rattle.copying.specs.PostOrder.{entry_last, top_last, root_last, post_order_in, post_order_of}
use Rattle.copying.specs.Promises.{HoldsAll, Linked, PostOrderIsWalk, DirectoryIsWalk, EachVisitOnce}
use Rattle.copying.proofs.Below.{below-entry, below-a-root, below-a-top}
use Rattle.copying.proofs.OneVisit.{of-first, absence-first, walks_by, within_by, shown_by, again_by, links_by, counted_by, first_by}
use Rattle.copying.proofs.Visited.{OfFirst, done_first, first_on, holds_later, holds_on, SpentWithin, within-later, within_on, LinksFirst, links_later, links_on, Any}
use Rattle.copying.proofs.Visited.{followed_again, followed_answer}
use Rattle.copying.proofs.Visited.{Counted, counted_followed}
use Rattle.std.specs.Prelude.{Ok, Err, Result, ⊤}

-- over any log P is the walk W in post-order, behind n visits
pub record PostOrdered (n : ℕ) (P : Bytes → PostOrder) (W : Bytes → Walked) : Type 0 where
  pub walks : (L : Bytes) → (P L).answer ≡ W L
  pub within : (L : Bytes) → SpentWithin (P L).answer.visits (P L).visits
  pub shown : (L : Bytes) → HoldsAll L (P L).visits
  pub again : (L L' : Bytes) → (P L).answer.end ≡ Ok tt → HoldsAll L' (P L).visits → P L' ≡ P L
  pub links : (L : Bytes) → LinksFirst Any (P L).visits
  pub counted : (L : Bytes) → Counted n (P L)
  pub first : (L : Bytes) → OfFirst (P L).answer.end

-- ---- no visit, a choice, one behind the other

stops_there : (n k : ℕ) (why : Refusal) → OfFirst (Err why) → PostOrdered n (λ L. post_order [] (walked k (Err why))) (λ L. walked k (Err why))
stops_there n k why f = record {
  walks = λ L. refl;
  within = λ L. tt;
  shown = λ L. tt;
  again = λ L L' d h. refl;
  links = λ L. tt;
  counted = λ L d. not_done why d;
  first = λ L. f;
}

no_more : (n : ℕ) → PostOrdered n (λ L. post_order [] (walked n (Ok tt))) (λ L. walked n (Ok tt))
no_more n = record { walks = λ L. refl; within = λ L. tt; shown = λ L. tt; again = λ L L' d h. refl; links = λ L. tt; counted = λ L d. omega arith; first = λ L. done_first }

cond_post_order : {n : ℕ} (b : Bool) (P Q : Bytes → PostOrder) (W X : Bytes → Walked) → PostOrdered n P W → PostOrdered n Q X → PostOrdered n (λ L. cond b (P L) (Q L)) (λ L. cond b (W L) (X L))
cond_post_order true P Q W X f g = f
cond_post_order false P Q W X f g = g

followed_post_order : (P : Bytes → PostOrder) (W : Bytes → Walked) (n : ℕ) (K : ℕ → Bytes → PostOrder) (X : ℕ → Bytes → Walked) → PostOrdered 0 P W → ((m : ℕ) → PostOrdered m (K m) (X m))
    → ((m : ℕ) (L : Bytes) → m ≤ (K m L).answer.visits)
    → PostOrdered n (λ L. followed_by (P L) n (λ m. K m L)) (λ L. and_then (W L).end (n + (W L).visits) (λ m. X m L))
followed_post_order P W n K X f g l = record {
  walks = λ L. followed_answer (P L) (W L) n (λ m. K m L) (λ m. X m L) (f.walks L) (λ m. (g m).walks L);
  within = λ L. let m = n + (P L).answer.visits in
      within_on (P L).answer.end (map (later n) (P L).visits) m (λ j. K j L) (within-later n (P L).answer.visits (P L).visits (f.within L)) (l m L) ((g m).within L);
  shown = λ L. let m = n + (P L).answer.visits in
      holds_on L (P L).answer.end (map (later n) (P L).visits) m (λ j. K j L) (holds_later L n (P L).visits (f.shown L)) ((g m).shown L);
  again = λ L L' d h. followed_again L' (P L) (P L') n (λ m. K m L) (λ m. K m L') (f.again L L') (λ m. (g m).again L L') d h;
  links = λ L. let m = n + (P L).answer.visits in
      links_on (P L).answer.end (map (later n) (P L).visits) m (λ j. K j L) (links_later Any n (P L).visits (f.links L)) ((g m).links L);
  counted = λ L. counted_followed (P L) n (λ m. K m L) (f.counted L) (λ m. (g m).counted L);
  first = λ L. first_on (P L).answer.end (map (later n) (P L).visits) (n + (P L).answer.visits) (λ j. K j L) (f.first L) ((g (n + (P L).answer.visits)).first L);
}

-- what goes on spends no less
goes_spends : (e : Result ⊤ Refusal) (vs : List Visit) (n : ℕ) (k : ℕ → PostOrder) → n ≤ (k n).answer.visits → n ≤ (go_on e vs n k).answer.visits
goes_spends (Ok tt) vs n k f = f
goes_spends (Err why) vs n k f = omega arith

order_spends : (go : Bytes → ℕ → PostOrder) (w : ℕ) (b : Bytes) (left k i n : ℕ) → n ≤ (each_in_order go w b left k i n).answer.visits
unfolding each_in_order
order_spends go w b left zero i n = omega arith
order_spends go w b left (suc k) i n =
    let p = go (piece w i b) (left - n) in
    let m = n + p.answer.visits in
    omega (arith, goes_spends p.answer.end (map (later n) p.visits) m (λ j. each_in_order go w b left k (suc i) j) (order_spends go w b left k (suc i) m))

each_post_order : (go : Bytes → ℕ → Bytes → PostOrder) (G : Bytes → ℕ → Bytes → Walked) (w : ℕ) (b : Bytes) (left : ℕ) → ((x : Bytes) (a : ℕ) → a ≤ left → PostOrdered 0 (go x a) (G x a))
    → (k i n : ℕ) → PostOrdered n (λ L. each_in_order (λ x a. go x a L) w b left k i n) (λ L. in_order (λ x a. G x a L) w b left k i n)
unfolding each_in_order in_order
each_post_order go G w b left f zero i n = no_more n
each_post_order go G w b left f (suc k) i n =
    followed_post_order (go (piece w i b) (left - n)) (G (piece w i b) (left - n)) n (λ m L. each_in_order (λ x a. go x a L) w b left k (suc i) m)
    (λ m L. in_order (λ x a. G x a L) w b left k (suc i) m) (f (piece w i b) (left - n) (omega arith)) (λ m. each_post_order go G w b left f k (suc i) m)
    (λ m L. order_spends (λ x a. go x a L) w b left k (suc i) m)

judged_post_order : (x : Bytes) (P : Bytes → PostOrder) (W : Bytes → Walked) → PostOrdered 0 P W → PostOrdered 0 (λ L. judged_last x (P L)) (λ L. judged x (W L))
unfolding judged_last judged
judged_post_order x P W f =
    cond_post_order (entry_of x).active _ _ _ _ (cond_post_order (entry_allowed x) _ _ _ _ f (stops_there 0 0 IllFormed (of-first IllFormed refl refl))) (no_more 0)

-- ---- a visit

module _ (nest left : ℕ) (role : Role) (count : ℕ) (score : Bytes) (B : Bytes → Bytes → PostOrder) (X : Bytes → Bytes → Walked)
    (f : 0 < left → (b : Bytes) → PostOrdered 0 (B b) (X b)) (linked : 0 < left → (b L : Bytes) → (X b L).end ≡ Ok tt → Linked L role b) where
  something_left : eqb left 0 ≡ false → 0 < left
  something_left q = let z = eqb-false left 0 q in omega arith

  visit_post_order : PostOrdered 0 (λ L. visit_last L nest left role count score (λ b. B b L)) (λ L. visiting L nest left (type_of role) count score (λ b. X b L))
  unfolding visit_last visiting
  visit_post_order = record {
    walks = λ L. walks_by role count score (ltb 16 nest) (eqb left 0) (held L (type_of role) score) (absence L) (λ b. B b L) (λ b. X b L)
        (λ q b. (f (something_left q) b).walks L);
    within = λ L. within_by role count score (ltb 16 nest) (eqb left 0) (held L (type_of role) score) (absence L) (λ b. B b L) (λ q b. (f (something_left q) b).within L);
    shown = λ L. shown_by role count score L (ltb 16 nest) (eqb left 0) (held L (type_of role) score) (absence L) (λ b. B b L) refl
        (λ q b. (f (something_left q) b).shown L);
    again = λ L L'. again_by role count score L' (ltb 16 nest) (eqb left 0) (held L (type_of role) score) (held L' (type_of role) score) (absence L) (absence L')
        (λ b. B b L) (λ b. B b L') refl (λ q b. (f (something_left q) b).again L L');
    links = λ L. links_by role count score (ltb 16 nest) (eqb left 0) (held L (type_of role) score) (absence L) (λ b. B b L) (λ q b. (f (something_left q) b).links L)
        (λ q b d L' h. let T = f (something_left q) b in
        linked (something_left q) b L' (ap (λ (w : Walked). w.end) (sym (T.walks L')) ∙ ap (λ (p : PostOrder). p.answer.end) (T.again L L' d h) ∙ d));
    counted = λ L. counted_by role count score (ltb 16 nest) (eqb left 0) (held L (type_of role) score) (absence L) (λ b. B b L) (λ q b. (f (something_left q) b).counted L);
    first = λ L. first_by role count score (ltb 16 nest) (eqb left 0) (held L (type_of role) score) (absence L) (λ b. B b L) (absence-first L)
        (λ q b. (f (something_left q) b).first L);
  }

-- ---- entries and directories

mutual
  unfolding entry_last directory_last visit_entry visit_directory

  entry_post_order : (f : ℕ) (e : Entry) (level nest : ℕ) (score : Bytes) (left : ℕ) → left + left + 1 ≤ f
      → PostOrdered 0 (λ L. entry_last f L e level nest score left) (λ L. visit_entry f L e level nest score left)
  entry_post_order zero e level nest score left h = absurd (omega arith)
  entry_post_order (suc f) e level nest score left h =
      visit_post_order nest left (of_entry e level) (count_at e level) score _ _
      (λ p b. cond_post_order (eqb level 0) _ _ _ _
      (cond_post_order e.directory _ _ _ _ (directory_post_order f nest b (left - 1) (omega arith)) (no_more 0))
      (cond_post_order (eqb (length b % 20) 0) _ _ _ _
      (each_post_order (λ x a L. entry_last f L e (level - 1) nest x a) (λ x a L. visit_entry f L e (level - 1) nest x a) 20 b (left - 1)
      (λ x a k. entry_post_order f e (level - 1) nest x a (omega arith)) (length b / 20) 0 0)
      (stops_there 0 0 Pointers (of-first Pointers refl refl))))
      (λ p b L d. below-entry f L e level nest (left - 1) b (omega arith) d)

  directory_post_order : (f nest : ℕ) (b : Bytes) (left : ℕ) → left + left + 2 ≤ f → PostOrdered 0 (λ L. directory_last f L nest b left) (λ L. visit_directory f L nest b left)
  directory_post_order zero nest b left h = absurd (omega arith)
  directory_post_order (suc f) nest b left h =
      each_post_order
      (λ x a L. judged_last x (entry_last f L (entry_of x) (entry_of x).depth (nest_of (entry_of x) nest) (score_of x) a))
      (λ x a L. judged x (visit_entry f L (entry_of x) (entry_of x).depth (nest_of (entry_of x) nest) (score_of x) a)) 40
      (padded_to (40 * entries_of (length b)) b) left
      (λ x a k. judged_post_order x _ _ (entry_post_order f (entry_of x) (entry_of x).depth (nest_of (entry_of x) nest) (score_of x) a (omega arith)))
      (entries_of (length b)) 0 0

-- ---- from the root

top_post_order : (score : Bytes) (left : ℕ) → PostOrdered 0 (λ L. top_last L score left) (λ L. walk_top L score left)
unfolding top_last walk_top
top_post_order score left =
    visit_post_order 1 left top longest score (λ b L. directory_last (left + left + 2) L 1 b (left - 1)) (λ b L. visit_directory (left + left + 2) L 1 b (left - 1))
    (λ p b. directory_post_order (left + left + 2) 1 b (left - 1) (omega arith))
    (λ p b L d. below-a-top (left + left + 2) L b (left - 1) (omega arith) d)

root_post_order : (score : Bytes) (left : ℕ) → PostOrdered 0 (λ L. root_last L score left) (λ L. walk_root L score left)
unfolding root_last walk_root
root_post_order score left =
    visit_post_order 0 left root 300 score _ (λ b L. cond (root_well_formed (padded_to 300 b)) (walk_top L (root_score (padded_to 300 b)) (left - 1)) (walked 0 (Err IllFormed)))
    (λ p b. cond_post_order (root_well_formed (padded_to 300 b)) _ _ _ _ (top_post_order (root_score (padded_to 300 b)) (left - 1)) (stops_there 0 0 IllFormed (of-first IllFormed refl refl)))
    (λ p b L d. below-a-root L b (left - 1) (root_well_formed (padded_to 300 b)) refl d)

pub tests_post_order : (lent : Bool) (score : Bytes) (n : ℕ) → PostOrdered 0 (λ L. post_order_in lent L score n) (λ L. walk_in lent L score n)
unfolding post_order_in walk_in
tests_post_order lent score n =
    cond_post_order lent _ _ _ _
    (cond_post_order (ltb most_allowance n) _ _ _ _ (stops_there 0 0 Allowance (of-first Allowance refl refl)) (root_post_order score n))
    (stops_there 0 0 LogLength (of-first LogLength refl refl))

pub post_order-is-walk : PostOrderIsWalk
post_order-is-walk log waiting score n = (tests_post_order (lent_allowed (length log) (length waiting)) score n).walks (tape log waiting)

pub directory-is-walk : DirectoryIsWalk
directory-is-walk calls log nest b left h = (directory_post_order calls nest b left h).walks log

pub each_visit_once : EachVisitOnce
each_visit_once log waiting score n v e =
    let T = tests_post_order (lent_allowed (length log) (length waiting)) score n in
    let q : (post_order_of log waiting score n).answer ≡ walked v (Ok tt) = T.walks (tape log waiting) ∙ e in
    let z = T.counted (tape log waiting) (ap (λ (w : Walked). w.end) q) in
    omega (arith, z, ap (λ (w : Walked). w.visits) q)
