-- A copy stores the walk's blocks in post-order, up to the first one that the second log refuses.
use mathlib.Core.Path.{◌≡◌, refl, sym, ap, ◌∙◌}
use mathlib.Core.Bool.{Bool, true, false, cond}
use mathlib.Core.List.{List, [], ◌∷◌, ◌++◌, map}
use mathlib.Core.Option.{Option, none, some}
use Prim.Native.Nat.{ℕ, zero, suc, ◌+◌, ◌-◌, ◌*◌, ◌/◌, ◌%◌}
use native.Mathlib.Omega.{arith}
use lib.Dec.{eqb, ltb}
use lib.ListN.{length}
use Rattle.bedrock.specs.Choice.{on}
use Rattle.bedrock.proofs.Choices.{and-true}
use Rattle.buffer.specs.Bytes.{Bytes}
use Rattle.refusal.specs.declared.Refusal.TheVariants.{OverCount}
use Rattle.kind.specs.Kind.{longest}
use Rattle.sector.specs.Sector.{is_date}
use Rattle.block.specs.Block.{Row}
use Rattle.sector_log.specs.LookUp.{held, absence, log_allowed, lent_allowed}
use Rattle.sector_log.specs.Parts.{tape}
use Rattle.entry.specs.declared.Entry.{Entry}
use Rattle.entry.specs.Entry.{entry_of, entry_allowed, score_of}
use Rattle.entry.specs.Root.{root_well_formed, root_score}
use Rattle.tree.specs.Tree.{piece, count_at}
use Rattle.visit.specs.declared.Walked.{Walked}
use Rattle.visit.specs.Visit.{walked}
use Rattle.descent.specs.Descent.{padded_to, nest_of, entries_of}
use Rattle.walk.specs.Walk.{most_allowance}
use Rattle.walk_laws.proofs.Found.{not_done}
use Rattle.copying.specs.Copy.{Copied, copied, stopped, store_end, kept, kept_after, copy_visit, then_by, and_then, copy_in_order, judged_copy, copy_directory, copy_entry, copy_top}
use Rattle.copying.specs.Copy.{copy_root, copy_in, copy_allowed}
use Rattle.copying.specs.PostOrder.{Role, root, top, of_entry, type_of, Visit, PostOrder, post_order, later, go_on, followed_by, behind, visit_last, each_in_order, judged_last}
use Rattle.copying.specs.PostOrder.{directory_last, entry_last, top_last, root_last, post_order_in, stored, store_visits}
use Rattle.copying.specs.Promises.{CopyIsStores}
use Rattle.std.specs.Prelude.{Ok, Err, Result, ⊤}
use Rattle.refusal.specs.declared.Refusal.{Refusal}

-- ---- storing a list

-- what goes on from a copy that is done
abbrev pub onward : Copied → (Bytes → Copied) → Copied
onward c h = then_by c.answer.end c.answer.visits c.second (λ n s. h s)

-- n visits were spent before
abbrev delayed : ℕ → Copied → Copied
delayed n c = copied (walked (n + c.answer.visits) c.answer.end) c.second

then_through : (e : Result ⊤ Refusal) (n : ℕ) (s : Bytes) (k : Bytes → Copied) (w : Walked) → ((x : Bytes) → (k x).answer.end ≡ Ok tt → (k x).answer ≡ w)
    → (then_by e n s (λ m x. k x)).answer.end ≡ Ok tt → (then_by e n s (λ m x. k x)).answer ≡ w
then_through (Ok tt) n s k w f d = f s d
then_through (Err why) n s k w f d = not_done why d

then_append : (e : Result ⊤ Refusal) (n : ℕ) (s : Bytes) (f g h : Bytes → Copied) → ((x : Bytes) → f x ≡ onward (g x) h)
    → then_by e n s (λ m x. f x) ≡ onward (then_by e n s (λ m x. g x)) h
then_append (Ok tt) n s f g h q = q s
then_append (Err why) n s f g h q = refl

then-later : (n : ℕ) (e : Result ⊤ Refusal) (m : ℕ) (s : Bytes) (f g : Bytes → Copied) → ((x : Bytes) → f x ≡ delayed n (g x))
    → then_by e (n + m) s (λ k x. f x) ≡ delayed n (then_by e m s (λ k x. g x))
then-later n (Ok tt) m s f g q = q s
then-later n (Err why) m s f g q = refl

module _ (date : Bytes) where
  abbrev pub run : PostOrder → Bytes → Copied
  run p s = store_visits date p.visits p.answer s

  -- storing that is done went through the list
  pub all-stored : (vs : List Visit) (w : Walked) (s : Bytes) → (store_visits date vs w s).answer.end ≡ Ok tt → (store_visits date vs w s).answer ≡ w
  unfolding store_visits
  all-stored [] w s d = refl
  all-stored (v ∷ vs) w s d = then_through (store_end (stored date v s).receipt.stored) _ _ (λ x. store_visits date vs w x) w (λ x e. all-stored vs w x e) d

  pub store-append : (xs ys : List Visit) (m : ℕ) (w : Walked) (s : Bytes)
      → store_visits date (xs ++ ys) w s ≡ onward (store_visits date xs (walked m (Ok tt)) s) (λ x. store_visits date ys w x)
  unfolding store_visits
  store-append [] ys m w s = refl
  store-append (v ∷ xs) ys m w s =
      then_append (store_end (stored date v s).receipt.stored) v.spent (stored date v s).lent.log (λ x. store_visits date (xs ++ ys) w x)
      (λ x. store_visits date xs (walked m (Ok tt)) x) (λ x. store_visits date ys w x) (λ x. store-append xs ys m w x)

  store-later : (n : ℕ) (vs : List Visit) (w : Walked) (s : Bytes)
      → store_visits date (map (later n) vs) (walked (n + w.visits) w.end) s ≡ delayed n (store_visits date vs w s)
  unfolding store_visits
  store-later n [] w s = refl
  store-later n (v ∷ vs) w s =
      then-later n (store_end (stored date v s).receipt.stored) v.spent (stored date v s).lent.log _ _ (λ x. store-later n vs w x)

  -- ---- one list behind another

  same-onward : (c : Copied) (n v : ℕ) (k : ℕ → Bytes → Copied) (h : Bytes → Copied) → (c.answer.end ≡ Ok tt → c.answer.visits ≡ v)
      → ((x : Bytes) → k (n + v) x ≡ h x) → (e : Result ⊤ Refusal) → c.answer.end ≡ e → then_by e (n + c.answer.visits) c.second k ≡ then_by e (n + c.answer.visits) c.second (λ m x. h x)
  same-onward c n v k h f g (Ok tt) q = ap (λ (m : ℕ). k (n + m) c.second) (f q) ∙ g c.second
  same-onward c n v k h f g (Err why) q = refl

  refused-stays : (c : Copied) (n : ℕ) (k : ℕ → Bytes → Copied) → (e : Result ⊤ Refusal) → c.answer.end ≡ e → (e ≡ Ok tt → ⊥)
      → then_by e (n + c.answer.visits) c.second k ≡ delayed n c
  refused-stays c n k (Ok tt) q f = absurd (f refl)
  refused-stays c n k (Err why) q f = ap (λ (e : Result ⊤ Refusal). stopped (n + c.answer.visits) e c.second) (sym q)

  followed_by_lem : (vs : List Visit) (v n : ℕ) (k : ℕ → Bytes → Copied) (K : ℕ → PostOrder) (s : Bytes) → ((m : ℕ) (x : Bytes) → k m x ≡ run (K m) x)
      → (e : Result ⊤ Refusal) → and_then (store_visits date vs (walked v e) s) n k ≡ run (go_on e (map (later n) vs) (n + v) K) s
  followed_by_lem vs v n k K s f (Ok tt) =
      let c = store_visits date vs (walked v (Ok tt)) s in
      same-onward c n v k (λ x. run (K (n + v)) x) (λ d. ap (λ (w : Walked). w.visits) (all-stored vs (walked v (Ok tt)) s d)) (λ x. f (n + v) x) c.answer.end refl
      ∙ ap (λ (c' : Copied). onward c' (λ x. run (K (n + v)) x)) (sym (store-later n vs (walked v (Ok tt)) s))
      ∙ sym (store-append (map (later n) vs) (K (n + v)).visits (n + v) (K (n + v)).answer s)
  followed_by_lem vs v n k K s f (Err why) =
      let c = store_visits date vs (walked v (Err why)) s in
      refused-stays c n k c.answer.end refl (λ d. not_done why (sym (ap (λ (w : Walked). w.end) (all-stored vs (walked v (Err why)) s d)) ∙ d))
      ∙ sym (store-later n vs (walked v (Err why)) s)

  pub stores_followed : (p : PostOrder) (n : ℕ) (k : ℕ → Bytes → Copied) (K : ℕ → PostOrder) (s : Bytes) → ((m : ℕ) (x : Bytes) → k m x ≡ run (K m) x)
      → and_then (run p s) n k ≡ run (followed_by p n K) s
  stores_followed p n k K s f = followed_by_lem p.visits p.answer.visits n k K s f p.answer.end

  -- ---- a block behind what is below it

  kept_goes_on : (t : ℕ) (b : Bytes) (c : Copied) (e : Result ⊤ Refusal) → kept_after e date t b (c.answer.visits + 1) c.second
      ≡ then_by e (1 + c.answer.visits) c.second (λ n x. kept_after (Ok tt) date t b n x)
  kept_goes_on t b c (Ok tt) = let q : c.answer.visits + 1 ≡ 1 + c.answer.visits = omega arith in ap (λ (n : ℕ). kept_after (Ok tt) date t b n c.second) q
  kept_goes_on t b c (Err why) = let q : c.answer.visits + 1 ≡ 1 + c.answer.visits = omega arith in ap (λ (n : ℕ). stopped n (Err why) c.second) q

  one-stored : (n : ℕ) (s : Bytes) (e : Result ⊤ Refusal) → copied (walked n e) s ≡ then_by e n s (λ m x. copied (walked n (Ok tt)) x)
  one-stored n s (Ok tt) = refl
  one-stored n s (Err why) = refl

  stores_behind : (role : Role) (score b : Bytes) (p : PostOrder) (s : Bytes) → kept date (type_of role) b (run p s) ≡ run (behind role score b p) s
  unfolding kept store_visits
  stores_behind role score b p s =
      kept_goes_on (type_of role) b (run p s) (run p s).answer.end
      ∙ stores_followed p 1 (λ n x. kept_after (Ok tt) date (type_of role) b n x) _ s
      (λ n x. let a = stored date (record { role = role; score = score; bytes = b; spent = n }) x in one-stored n a.lent.log (store_end a.receipt.stored))

  -- ---- the parts of a copy

  none-stored : (w : Walked) (s : Bytes) → copied w s ≡ run (post_order [] w) s
  unfolding store_visits
  none-stored w s = refl

  cond_stores : (b : Bool) (x y : Copied) (p q : PostOrder) (s : Bytes) → x ≡ run p s → y ≡ run q s → cond b x y ≡ run (cond b p q) s
  cond_stores true x y p q s f g = f
  cond_stores false x y p q s f g = g

  order_stores : (go : Bytes → ℕ → Bytes → Copied) (G : Bytes → ℕ → PostOrder) (w : ℕ) (b : Bytes) (left : ℕ) → ((x : Bytes) (a : ℕ) (s : Bytes) → go x a s ≡ run (G x a) s)
      → (k i n : ℕ) (s : Bytes) → copy_in_order go w b left k i n s ≡ run (each_in_order G w b left k i n) s
  unfolding copy_in_order each_in_order
  order_stores go G w b left f zero i n s = none-stored (walked n (Ok tt)) s
  order_stores go G w b left f (suc k) i n s =
      ap (λ (c : Copied). and_then c n (λ m x. copy_in_order go w b left k (suc i) m x)) (f (piece w i b) (left - n) s)
      ∙ stores_followed (G (piece w i b) (left - n)) n (λ m x. copy_in_order go w b left k (suc i) m x) (λ m. each_in_order G w b left k (suc i) m) s
      (λ m x. order_stores go G w b left f k (suc i) m x)

  judged_stores : (x s : Bytes) (c : Copied) (p : PostOrder) → c ≡ run p s → judged_copy x c s ≡ run (judged_last x p) s
  unfolding judged_copy judged_last
  judged_stores x s c p f =
      cond_stores (entry_of x).active _ _ _ _ s (cond_stores (entry_allowed x) _ _ _ _ s f (none-stored _ s)) (none-stored _ s)

  module _ (first : Bytes) where
    visit_stores : (nest left : ℕ) (role : Role) (count : ℕ) (score : Bytes) (below : Bytes → Bytes → Copied) (B : Bytes → PostOrder)
        → ((b s : Bytes) → below b s ≡ run (B b) s) → (s : Bytes)
        → copy_visit first date nest left (type_of role) count score below s ≡ run (visit_last first nest left role count score B) s
    unfolding copy_visit visit_last
    visit_stores nest left role count score below B f s =
        cond_stores (ltb 16 nest) _ _ _ _ s (none-stored _ s) (cond_stores (eqb left 0) _ _ _ _ s (none-stored _ s) (by_held (held first (type_of role) score)))
      where
        by_held : (o : Option Row)
            → on o (stopped 1 (Err (absence first)) s)
            (λ r. cond (ltb count (length r.bytes)) (stopped 1 (Err OverCount) s) (kept date (type_of role) r.bytes (below r.bytes s)))
            ≡ run (on o (post_order [] (walked 1 (Err (absence first))))
            (λ r. cond (ltb count (length r.bytes)) (post_order [] (walked 1 (Err OverCount))) (behind role score r.bytes (B r.bytes)))) s
        by_held none = none-stored _ s
        by_held (some r) =
            cond_stores (ltb count (length r.bytes)) _ _ _ _ s (none-stored _ s)
            (ap (kept date (type_of role) r.bytes) (f r.bytes s) ∙ stores_behind role score r.bytes (B r.bytes) s)

    mutual
      unfolding copy_entry copy_directory entry_last directory_last

      entry_stores : (f : ℕ) (e : Entry) (level nest : ℕ) (score : Bytes) (left : ℕ) (s : Bytes)
          → copy_entry f first date e level nest score left s ≡ run (entry_last f first e level nest score left) s
      entry_stores zero e level nest score left s = none-stored _ s
      entry_stores (suc f) e level nest score left s =
          visit_stores nest left (of_entry e level) (count_at e level) score _ _
          (λ b x. cond_stores (eqb level 0) _ _ _ _ x
          (cond_stores e.directory _ _ _ _ x (directory_stores f nest b (left - 1) x) (none-stored _ x))
          (cond_stores (eqb (length b % 20) 0) _ _ _ _ x
          (order_stores (λ y a z. copy_entry f first date e (level - 1) nest y a z) (λ y a. entry_last f first e (level - 1) nest y a) 20 b (left - 1)
          (λ y a z. entry_stores f e (level - 1) nest y a z) (length b / 20) 0 0 x)
          (none-stored _ x)))
          s

      directory_stores : (f nest : ℕ) (b : Bytes) (left : ℕ) (s : Bytes) → copy_directory f first date nest b left s ≡ run (directory_last f first nest b left) s
      directory_stores zero nest b left s = none-stored _ s
      directory_stores (suc f) nest b left s =
          order_stores
          (λ x a z. judged_copy x (copy_entry f first date (entry_of x) (entry_of x).depth (nest_of (entry_of x) nest) (score_of x) a z) z)
          (λ x a. judged_last x (entry_last f first (entry_of x) (entry_of x).depth (nest_of (entry_of x) nest) (score_of x) a)) 40
          (padded_to (40 * entries_of (length b)) b) left
          (λ x a z. judged_stores x z _ _ (entry_stores f (entry_of x) (entry_of x).depth (nest_of (entry_of x) nest) (score_of x) a z))
          (entries_of (length b)) 0 0 s

    top_stores : (score : Bytes) (left : ℕ) (s : Bytes) → copy_top first date score left s ≡ run (top_last first score left) s
    unfolding copy_top top_last
    top_stores score left s = visit_stores 1 left top longest score _ _ (λ b x. directory_stores (left + left + 2) 1 b (left - 1) x) s

    root_stores : (score : Bytes) (left : ℕ) (s : Bytes) → copy_root first date score left s ≡ run (root_last first score left) s
    unfolding copy_root root_last
    root_stores score left s =
        visit_stores 0 left root 300 score _ _
        (λ b x. cond_stores (root_well_formed (padded_to 300 b)) _ _ _ _ x (top_stores (root_score (padded_to 300 b)) (left - 1) x) (none-stored _ x)) s

    tests-store : (score : Bytes) (n : ℕ) (s : Bytes) (lent lent' : Bool) → lent ≡ true → lent' ≡ true → is_date date ≡ true
        → copy_in lent first date score n s ≡ run (post_order_in lent' first score n) s
    unfolding copy_in post_order_in
    tests-store score n s lent lent' p q d = rw (p, q, d) (cond_stores (ltb most_allowance n) _ _ _ _ s (none-stored _ s) (root_stores score n s))

pub parts-allowed : (m w k : ℕ) → copy_allowed m w k ≡ true → lent_allowed m w ≡ true
unfolding copy_allowed
parts-allowed m w k e = (and-true (lent_allowed m w) (log_allowed k) e).0

pub copy_is_stores : CopyIsStores
copy_is_stores log waiting date score second n p d =
    tests-store date (tape log waiting) score n second (copy_allowed (length log) (length waiting) (length second)) (lent_allowed (length log) (length waiting)) p
    (parts-allowed (length log) (length waiting) (length second) p) d
