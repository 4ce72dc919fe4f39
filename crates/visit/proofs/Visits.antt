-- What a visit meets in the program, and what goes on by the definition.
use mathlib.Core.Path.{◌≡◌, refl, sym, ap, ap₂, subst, ◌∙◌}
use mathlib.Core.Bool.{Bool, true, false, cond}
use mathlib.Core.Option.{Option, none, some}
use Prim.Native.Nat.{ℕ, ◌+◌, ◌≤◌, ◌<◌}
use native.Mathlib.Omega.{arith}
use lib.Dec.{eqb, ltb}
use borrow.Author.Tests.{ltb-false, eqb-false, lt-ltb, le-ltb, eq-eqb, ne_eqb}
use lib.ListN.{length}
use Rattle.bedrock.specs.Choice.{on}
use Rattle.buffer.specs.Bytes.{Bytes}
use Rattle.refusal.specs.declared.Refusal.{Refusal}
use Rattle.refusal.specs.declared.Refusal.TheVariants.{OverCount, Nest, Spent}
use Rattle.kind.specs.Kind.{longest}
use Rattle.block.specs.Block.{Row, place_of, Inside}
use Rattle.block.specs.declared.Block.{Block}
use Rattle.block.specs.Log.{sectors, joined, bytes_of}
use Rattle.block.proofs.Joined.{sectors-joined}
use Rattle.sector_log.specs.LookUp.{held, absence, look_up, counted}
use Rattle.lookup.proofs.Held.{held-stands, HeldWithin}
use Rattle.entry.specs.declared.Entry.{Entry}
use Rattle.tree.specs.Tree.{type_at, count_at}
use Rattle.visit.specs.declared.Walked.{Walked}
use Rattle.visit.specs.declared.Met.{Met}
use Rattle.visit.specs.Visit.{walked, more, visiting}
use Rattle.visit.specs.Met.{met, met_of, end_of, answer_of}
use Rattle.std.specs.Prelude.{Ok, Err, Result}

positive : (n : ℕ) → (n ≡ 0 → ⊥) → 0 < n
positive n h = omega arith

-- ---- a visit by its tests: nest over 16, nothing left, what is held, over the count

-- what an account of a visit makes of them: a refusal and the visits spent on it, or a row
abbrev pub by_tests : {A : Type 0} → Bool → Bool → Option Row → Refusal → ℕ → (ℕ → Refusal → A) → (Row → A) → A
by_tests a b o w count refused found = cond a (refused 0 Nest) (cond b (refused 0 Spent) (on o (refused 1 w) (λ r. cond (ltb count (length r.bytes)) (refused 1 OverCount) (found r))))

abbrev pub visit_by : Bool → Bool → Option Row → Refusal → ℕ → (Bytes → Walked) → Walked
visit_by a b o w count next = by_tests a b o w count (λ n y. walked n (Err y)) (λ r. more (next r.bytes))

-- a row that passes them
pub record FoundByTests (a b : Bool) (o : Option Row) (count : ℕ) (r : Row) : Type 0 where
  pub not-deep : a ≡ false
  pub not-spent : b ≡ false
  pub passes : HeldWithin o count r

-- two accounts of a visit: both are of one refusal, or both of one row that passes
pub by_tests-both : {A B : Type 0} (a b : Bool) (o : Option Row) (w : Refusal) (count : ℕ) (f : ℕ → Refusal → A) (g : Row → A) (f' : ℕ → Refusal → B) (g' : Row → B)
    (P : A → B → Type 0) → ((n : ℕ) (y : Refusal) → P (f n y) (f' n y)) → ((r : Row) → FoundByTests a b o count r → P (g r) (g' r))
    → P (by_tests a b o w count f g) (by_tests a b o w count f' g')
by_tests-both true b o w count f g f' g' P u v = u 0 Nest
by_tests-both false true o w count f g f' g' P u v = u 0 Spent
by_tests-both false false none w count f g f' g' P u v = u 1 w
by_tests-both false false (some r) w count f g f' g' P u v = go (ltb count (length r.bytes)) refl
  where
    go : (c : Bool) → ltb count (length r.bytes) ≡ c → P (cond c (f 1 OverCount) (g r)) (cond c (f' 1 OverCount) (g' r))
    go true q = u 1 OverCount
    go false q = v r (record { not-deep = refl; not-spent = refl; passes = record { row-held = refl; within_count = q } })

-- one account
pub by_tests_lem : {A : Type 0} (a b : Bool) (o : Option Row) (w : Refusal) (count : ℕ) (f : ℕ → Refusal → A) (g : Row → A) (P : A → Type 0)
    → ((n : ℕ) (y : Refusal) → P (f n y)) → ((r : Row) → FoundByTests a b o count r → P (g r)) → P (by_tests a b o w count f g)
by_tests_lem a b o w count f g P u v = by_tests-both a b o w count f g f g (λ x _. P x) u v

-- what is met is one
abbrev refused_met : ℕ → Refusal → Met
refused_met n y = met n (Err y)

abbrev found_met : Row → Met
found_met r = met 1 (Ok (place_of r))

met_by_tests : (a b : Bool) (o : Option Row) (w : Refusal) (count : ℕ)
    → cond a (met 0 (Err Nest)) (cond b (met 0 (Err Spent)) (met 1 (counted count (on o (Err w) (λ r. Ok (place_of r)))))) ≡ by_tests a b o w count refused_met found_met
met_by_tests true b o w count = refl
met_by_tests false true o w count = refl
met_by_tests false false none w count = refl
met_by_tests false false (some r) w count = go (ltb count (length r.bytes))
  where
    go : (c : Bool) → met 1 (cond c (Err OverCount) (Ok (place_of r))) ≡ cond c (refused_met 1 OverCount) (found_met r)
    go true = refl
    go false = refl

spent_by_tests : (a b : Bool) (l : Result Block Refusal) (left : ℕ) → (b ≡ false → 0 < left) → (cond a (met 0 (Err Nest)) (cond b (met 0 (Err Spent)) (met 1 l))).spent ≤ left
spent_by_tests true b l left h = omega arith
spent_by_tests false true l left h = omega arith
spent_by_tests false false l left h = omega (arith, h refl)

-- ---- the program's visit

module _ (log : Bytes) (nest left kind count : ℕ) (score : Bytes) where
  pub met_nest : 16 < nest → met 0 (Err Nest) ≡ met_of log nest left kind count score
  unfolding met_of
  met_nest h = rw (lt-ltb 16 nest h)

  module _ (h : nest ≤ 16) where
    pub met-spent : left ≡ 0 → met 0 (Err Spent) ≡ met_of log nest left kind count score
    unfolding met_of
    met-spent e = rw (le-ltb 16 nest h, eq-eqb left 0 e)

    pub met_looked : (left ≡ 0 → ⊥) → (l : Result Block Refusal) → l ≡ counted count (look_up log kind score) → met 1 l ≡ met_of log nest left kind count score
    unfolding met_of
    met_looked k l e = rw (le-ltb 16 nest h, ne_eqb left 0 k) (ap (met 1) e)

-- by the type and the count of a level
pub met-level : (log : Bytes) (e : Entry) (level nest left : ℕ) (score : Bytes) {m : Met} {kind count : ℕ} → m ≡ met_of log nest left kind count score
    → kind ≡ type_at e level → count ≡ count_at e level → m ≡ met_of log nest left (type_at e level) (count_at e level) score
met-level log e level nest left score em ek ec = em ∙ ap₂ (λ (x y : ℕ). met_of log nest left x y score) ek ec

-- ---- what a caller learns of it

-- a place within both parts read as one
pub in_both : (u : ℕ) (log waiting : Bytes) → u ≤ sectors (length log) → (b : Block) → Inside (sectors (length (joined u log waiting))) b
    → Inside (u + sectors (length waiting)) b
in_both u log waiting h b e = (omega (arith, sectors-joined u log waiting h, e.0), e.1)

pub record Known (log : Bytes) (nest left kind count : ℕ) (score : Bytes) (place : Block) (spent : ℕ) : Type 0 where
  pub not-deep : nest ≤ 16
  pub some_left : 0 < left
  pub in_log : Inside (sectors (length log)) place
  pub not_many : place.size ≤ longest
  pub counted_in : place.size ≤ count
  pub one-spent : spent ≡ 1
  pub goes_on : (go : Bytes → Walked) (w : Walked) → w ≡ go (bytes_of log place) → more w ≡ visiting log nest left kind count score go

module _ (log : Bytes) (nest left kind count : ℕ) (score : Bytes) (m : Met) (e : m ≡ met_of log nest left kind count score) where
  -- any account of it
  abbrev account : {A : Type 0} → (ℕ → Refusal → A) → (Row → A) → A
  account refused found = by_tests (ltb 16 nest) (eqb left 0) (held log kind score) (absence log) count refused found

  met-and : {A : Type 0} (f : ℕ → Refusal → A) (g : Row → A) (P : Met → A → Type 0) → ((n : ℕ) (y : Refusal) → P (refused_met n y) (f n y))
      → ((r : Row) → FoundByTests (ltb 16 nest) (eqb left 0) (held log kind score) count r → P (found_met r) (g r)) → P m (account f g)
  unfolding met_of look_up
  met-and f g P u v =
      subst (λ (x : Met). P x (account f g)) (sym (e ∙ met_by_tests (ltb 16 nest) (eqb left 0) (held log kind score) (absence log) count))
      (by_tests-both (ltb 16 nest) (eqb left 0) (held log kind score) (absence log) count refused_met found_met f g P u v)

  pub any_refused : {A : Type 0} (f : ℕ → Refusal → A) (g : Row → A) (why : Refusal) → m.look ≡ Err why → account f g ≡ f m.spent why
  any_refused f g why =
      met-and f g (λ x z. x.look ≡ Err why → z ≡ f x.spent why) (λ n y q. let z : y ≡ why = cc in ap (f n) z)
      (λ r F q. let z : ◌≡◌ {A = ℕ} 0 1 = cc in absurd (omega arith))

  pub any_found : {A : Type 0} (f : ℕ → Refusal → A) (next : Bytes → A) (p : Block) → m.look ≡ Ok p → account f (λ r. next r.bytes) ≡ next (bytes_of log p)
  any_found f next p =
      met-and f (λ r. next r.bytes) (λ x z. x.look ≡ Ok p → z ≡ next (bytes_of log p)) (λ n y q. let z : ◌≡◌ {A = ℕ} 0 1 = cc in absurd (omega arith))
      (λ r F q. let z : place_of r ≡ p = cc in ap next ((held-stands log kind score r F.passes.row-held).bytes-there ∙ ap (bytes_of log) z))

  pub found-known : (p : Block) → m.look ≡ Ok p → Known log nest left kind count score p m.spent
  unfolding visiting
  found-known p d =
      met-and {A = ℕ} (λ n y. 0) (λ r. 0) (λ x _. x.look ≡ Ok p → Known log nest left kind count score p x.spent) (λ n y q. let z : ◌≡◌ {A = ℕ} 0 1 = cc in absurd (omega arith))
      (λ r F q. let z : place_of r ≡ p = cc in
      let s = held-stands log kind score r F.passes.row-held in
      let size : length r.bytes ≡ p.size = ap (λ (x : Block). x.size) z in
      record {
        not-deep = ltb-false 16 nest F.not-deep;
        some_left = let y = eqb-false left 0 F.not-spent in positive left y;
        in_log = rw (← z) s.within;
        not_many = omega (arith, size, s.not_many);
        counted_in = omega (arith, size, ltb-false count (length r.bytes) F.passes.within_count);
        one-spent = refl;
        goes_on = λ go w h. rw (F.not-deep, F.not-spent, F.passes.row-held, F.passes.within_count) (ap more (h ∙ ap go (sym (s.bytes-there ∙ ap (bytes_of log) z))));
      }) d

  pub refused-known : (why : Refusal) → m.look ≡ Err why → (go : Bytes → Walked) → answer_of m ≡ visiting log nest left kind count score go
  unfolding visiting
  refused-known why d go = ap (λ (l : Result Block Refusal). walked m.spent (end_of l)) d ∙ sym (any_refused (λ n y. walked n (Err y)) (λ r. more (go r.bytes)) why d)

  pub spent-within : m.spent ≤ left
  unfolding met_of look_up
  spent-within = rw e (spent_by_tests (ltb 16 nest) (eqb left 0) (counted count (look_up log kind score)) left (λ q. positive left (eqb-false left 0 q)))
