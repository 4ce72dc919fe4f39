-- The promises of a copy: by its tests, then by the blocks that it stores.
use mathlib.Core.Path.{◌≡◌, refl, sym, ap, subst, ◌∙◌}
use mathlib.Core.Bool.{Bool, true, false, cond, true≢false}
use mathlib.Core.List.Memᴰ
use mathlib.Core.List.{List, [], ◌∷◌, ◌++◌, append-nil, Memᴰ}
use mathlib.Core.Logic.{inl, inr}
use Prim.Native.Nat.{ℕ, ◌≤◌, ◌^◌}
use native.Mathlib.Omega.{arith}
use lib.Dec.{ltb}
use lib.ListN.{length}
use Rattle.bedrock.proofs.Choices.{and-true}
use Rattle.buffer.specs.Bytes.{Bytes}
use Rattle.refusal.specs.Number.{told_sector}
use Rattle.refusal.specs.declared.Refusal.{Refusal}
use Rattle.refusal.specs.declared.Refusal.TheVariants.{LogLength, Allowance, Date}
use Rattle.sector.specs.Sector.{is_date}
use Rattle.block.specs.Block.{Row}
use Rattle.block.specs.Log.{sectors}
use Rattle.sector_log.specs.LookUp.{blocks, log_allowed, lent_allowed}
use Rattle.sector_log.specs.Parts.{tape}
use Rattle.sector_log.proofs.Parts.{held-alone, lent-alone}
use Rattle.sector_log.proofs.Allowed.{allowed-sectors}
use Rattle.visit.specs.declared.Walked.{Walked}
use Rattle.visit.specs.Visit.{walked}
use Rattle.walk.specs.Walk.{walk_of, most_allowance}
use Rattle.walk_laws.proofs.Found.{not_done, walk-found}
use Rattle.copying.specs.Copy.{Copied, stopped, copy_root, copy_in, copy_allowed, copy_of}
use Rattle.copying.specs.PostOrder.{type_of, Visit, PostOrder, post_order_in, post_order_of}
use Rattle.copying.specs.Promises.{Holds, HoldsAll, Linked, wrote_all, Writes, none, taken, made, OnlyWrites, CopyIsWrites, StopsAt, ended, refused, Refuses, CopyStopsAt, OfSecond, RefusedBlock}
use Rattle.copying.specs.Promises.{OnlyWhereRefused, RoomAndNoClash}
use Rattle.copying.specs.Promises.{CopiedStays, LinkedAs, NoDangling, EndsWhole, AsWalk, CopyIsWalk}
use Rattle.copying.proofs.Stored.{Fits}
use Rattle.copying.proofs.Grown.{shown_holds, Grown, grown-same, root_holds}
use Rattle.copying.proofs.Writes.{refuses_second, not-of-second, writes-grown, writes-linked, writes-held, stops_at}
use Rattle.copying.proofs.InPostOrder.{parts-allowed, copy_is_stores}
use Rattle.copying.proofs.Made.{all-taken, taken-before, unspent}
use Rattle.copying.proofs.OneVisit.{of-first}
use Rattle.copying.proofs.Visited.{OfFirst}
use Rattle.copying.proofs.WalkInPostOrder.{tests_post_order, post_order-is-walk}
use Rattle.std.specs.Prelude.{Ok, Err}

-- ---- the tests

pub data Tested (lent : Bool) (first date score : Bytes) (n : ℕ) (s : Bytes) (c : Copied) : Type 0 where
  failed : (why : Refusal) → told_sector why ≡ 0 → OfFirst (Err why) → c ≡ stopped 0 (Err why) s → Tested lent first date score n s c
  passed : lent ≡ true → is_date date ≡ true → ltb most_allowance n ≡ false → c ≡ copy_root first date score n s → Tested lent first date score n s c

module _ (first date score : Bytes) (n : ℕ) (s : Bytes) where
  by_tests_lem : (lent d a : Bool) → is_date date ≡ d → ltb most_allowance n ≡ a
      → Tested lent first date score n s
      (cond lent (cond d (cond a (stopped 0 (Err Allowance) s) (copy_root first date score n s)) (stopped 0 (Err Date) s)) (stopped 0 (Err LogLength) s))
  by_tests_lem false d a p q = failed LogLength refl (of-first LogLength refl refl) refl
  by_tests_lem true false a p q = failed Date refl (of-first Date refl refl) refl
  by_tests_lem true true true p q = failed Allowance refl (of-first Allowance refl refl) refl
  by_tests_lem true true false p q = passed refl p q refl

  pub tested : (lent : Bool) → Tested lent first date score n s (copy_in lent first date score n s)
  unfolding copy_in
  tested lent = by_tests_lem lent (is_date date) (ltb most_allowance n) refl refl

pub allowed-fits : (m : ℕ) → log_allowed m ≡ true → sectors m ≤ 16 ^ 8
allowed-fits m e = omega (arith, allowed-sectors m e)

pub second-allowed : (m w k : ℕ) → copy_allowed m w k ≡ true → log_allowed k ≡ true
unfolding copy_allowed
second-allowed m w k e = (and-true (lent_allowed m w) (log_allowed k) e).1

cancel : (a b c : List Row) → a ++ b ≡ a ++ c → b ≡ c
cancel [] b c e = e
cancel (x ∷ a) b c e = cancel a b c (ap rest e)
  where
    rest : List Row → List Row
    rest [] = []
    rest (y ∷ ys) = ys

pub holds_along : (s s' : Bytes) → Holds s s' → (vs : List Visit) → HoldsAll s vs → HoldsAll s' vs
holds_along s s' h [] k = tt
holds_along s s' h (v ∷ vs) k = (shown_holds s s' h k.0, holds_along s s' h vs k.1)

-- ---- how it ends

module _ (log waiting date score second : Bytes) (n : ℕ) where
  abbrev lent : Bool
  lent = copy_allowed (length log) (length waiting) (length second)

  abbrev outcome : Copied
  outcome = copy_of log waiting date score second n

  abbrev reached : PostOrder
  reached = post_order_of log waiting score n

  pub fits : lent ≡ true → Fits second
  fits e = allowed-fits (length second) (second-allowed (length log) (length waiting) (length second) e)

  pub stops : lent ≡ true → is_date date ≡ true → StopsAt (tape log waiting) date reached second outcome
  stops l d =
      let T = tests_post_order (lent_allowed (length log) (length waiting)) score n in
      let L = tape log waiting in
      subst (StopsAt L date reached second) (sym (copy_is_stores log waiting date score second n l d))
      (stops_at L date d reached.visits reached.answer second (fits l) (λ x. Unit {0}) (λ x y h q. tt) tt (T.links L) (T.shown L) (T.within L))

  -- ---- what it wrote

  abbrev Wrote : List Visit → Type 0
  Wrote before = OnlyWrites (tape log waiting) date reached before second outcome

  -- a beginning of the walk, written
  begun : lent ≡ true → is_date date ≡ true → (before rest : List Visit) → reached.visits ≡ before ++ rest → (outcome.answer ≡ reached.answer → rest ≡ [])
      → Writes (tape log waiting) date before second → outcome.second ≡ wrote_all date before second → Wrote before
  begun l d before rest q z W e = record {
    rest = rest;
    beginning = q;
    nothing_left = z;
    writes = W;
    behind = e;
    linked = λ v m. subst (λ (s : Bytes). Linked s v.role v.bytes) (sym e) (writes-linked (tape log waiting) date d W (fits l) v m);
  }

  -- up to the block that is refused, which the walk does not answer
  written : lent ≡ true → is_date date ≡ true → StopsAt (tape log waiting) date reached second outcome → Wrote (taken date reached.visits second)
  written l d (ended W e a) =
      subst Wrote (sym (all-taken (tape log waiting) date reached.visits second W)) (begun l d reached.visits [] (sym (append-nil reached.visits)) (λ z. refl) W e)
  written l d (refused before after v q W e _ _ R _ _) =
      let o = (tests_post_order (lent_allowed (length log) (length waiting)) score n).first (tape log waiting) in
      let t = taken-before (tape log waiting) date before after v second outcome.answer.end W
      (subst (λ (s : Bytes). Refuses s date (type_of v.role) v.bytes outcome.answer.end) e R) in
      subst Wrote (sym (ap (λ (vs : List Visit). taken date vs second) q ∙ t))
      (begun l d before (v ∷ after) q (λ z. absurd (o (subst (λ (w : Walked). OfSecond w.end) z (refuses_second R)))) W e)

  -- a call that a test refuses
  unwritten : (why : Refusal) → outcome ≡ stopped 0 (Err why) second → Wrote []
  unfolding wrote_all
  unwritten why e = record {
    rest = reached.visits;
    beginning = refl;
    nothing_left = λ z. unspent (lent_allowed (length log) (length waiting)) (tape log waiting) score n
        (ap (λ (w : Walked). w.visits) (sym z) ∙ ap (λ (c : Copied). c.answer.visits) e);
    writes = none;
    behind = ap (λ (c : Copied). c.second) e;
    linked = λ v m. absurd (Memᴰ.not-nil m);
  }

  only-writes : Wrote (made log waiting date score second n)
  unfolding made
  only-writes = go lent (is_date date) refl refl (tested (tape log waiting) date score n second lent)
    where
      go : (a b : Bool) → lent ≡ a → is_date date ≡ b → Tested lent (tape log waiting) date score n second outcome
          → Wrote (cond a (cond b (taken date reached.visits second) []) [])
      go true true l d T = written l d (stops l d)
      go true false l d (failed why _ _ e) = unwritten why e
      go true false l d (passed _ d' _ _) = absurd (true≢false (sym d' ∙ d))
      go false b l d (failed why _ _ e) = unwritten why e
      go false b l d (passed l' _ _ _) = absurd (true≢false (sym l' ∙ l))

  grown : Grown (made log waiting date score second n) date second outcome.second
  grown = go (tested (tape log waiting) date score n second lent)
    where
      go : Tested lent (tape log waiting) date score n second outcome → Grown (made log waiting date score second n) date second outcome.second
      go (failed why _ _ e) = subst (λ (c : Copied). Grown (made log waiting date score second n) date second c.second) (sym e) (grown-same _ date second)
      go (passed l d a e) =
          subst (Grown (made log waiting date score second n) date second) (sym only-writes.behind)
          (writes-grown (tape log waiting) date d (made log waiting date score second n) only-writes.writes (λ v m. m) (fits l))

  lacks_nothing : (x : Row) → Memᴰ x grown.stays.new → LinkedAs (made log waiting date score second n) outcome.second x
  lacks_nothing x m = (grown.visited x m, λ v k o. subst (Linked outcome.second v.role) o.1 (only-writes.linked v k))

  -- ---- where it is done

  -- it passed the tests, and all blocks of the walk are in the second log
  unfoldable pub Whole : ℕ → Type 0
  Whole v = (lent ≡ true) × (reached.answer ≡ walked v (Ok tt)) × HoldsAll outcome.second reached.visits

  pub whole : (v : ℕ) → outcome.answer ≡ walked v (Ok tt) → Whole v
  unfolding Whole
  whole v q = go (tested (tape log waiting) date score n second lent)
    where
      by : (l : lent ≡ true) → is_date date ≡ true → StopsAt (tape log waiting) date reached second outcome
          → (lent ≡ true) × (reached.answer ≡ walked v (Ok tt)) × HoldsAll outcome.second reached.visits
      by l d (ended W e a) = (l, sym a ∙ q, subst (λ (s : Bytes). HoldsAll s reached.visits) (sym e) (writes-held (tape log waiting) date d W (fits l)))
      by l d (refused _ _ _ _ _ _ _ _ R _ _) = not-of-second (refuses_second R) (ap (λ (w : Walked). w.end) q)

      go : Tested lent (tape log waiting) date score n second outcome → (lent ≡ true) × (reached.answer ≡ walked v (Ok tt)) × HoldsAll outcome.second reached.visits
      go (failed why _ _ e) = not_done why (ap (λ (c : Copied). c.answer.end) (sym e) ∙ ap (λ (w : Walked). w.end) q)
      go (passed l d a e) = by l d (stops l d)

  pub still-lent : lent ≡ true → copy_allowed (length log) (length waiting) (length outcome.second) ≡ true
  still-lent l = ap (copy_allowed (length log) (length waiting)) grown.stays.as_long ∙ l

  same-walk : (v : ℕ) → outcome.answer ≡ walked v (Ok tt) → post_order_of outcome.second [] score n ≡ reached
  unfolding Whole
  same-walk v q =
      let W = whole v q in
      let s = outcome.second in
      let a : lent_allowed (length s) 0 ≡ true =
      lent-alone (length s) ∙ second-allowed (length log) (length waiting) (length s) (still-lent W.0) in
      let b = parts-allowed (length log) (length waiting) (length second) W.0 in
      ap (λ (t : Bool). post_order_in t (tape s []) score n) (a ∙ sym b)
      ∙ (tests_post_order (lent_allowed (length log) (length waiting)) score n).again (tape log waiting) (tape s []) (ap (λ (w : Walked). w.end) W.1)
      (holds_along s (tape s []) (λ t x r p. held-alone s t x ∙ p) reached.visits W.2)

pub copy_stops_at : CopyStopsAt
copy_stops_at = stops

pub room-and_no_clash : RoomAndNoClash
room-and_no_clash log waiting date score second n l d f = go (stops log waiting date score second n l d)
  where
    go : StopsAt (tape log waiting) date (post_order_of log waiting score n) second (copy_of log waiting date score second n)
        → RefusedBlock (tape log waiting) date (copy_of log waiting date score second n)
    go (ended W e a) = absurd (f (a ∙ post_order-is-walk log waiting score n))
    go (refused _ _ v _ _ _ h _ R _ _) = (v, h, R)

pub only_where_refused : OnlyWhereRefused
only_where_refused log waiting date score second n o = go (tested (tape log waiting) date score n second (copy_allowed (length log) (length waiting) (length second)))
  where
    go : Tested (copy_allowed (length log) (length waiting) (length second)) (tape log waiting) date score n second (copy_of log waiting date score second n)
        → RefusedBlock (tape log waiting) date (copy_of log waiting date score second n)
    go (failed why _ f e) = absurd (f (subst (λ (c : Copied). OfSecond c.answer.end) e o))
    go (passed l d a e) =
        room-and_no_clash log waiting date score second n l d
        (λ q. (tests_post_order (lent_allowed (length log) (length waiting)) score n).first (tape log waiting)
        (subst (λ (w : Walked). OfSecond w.end) (q ∙ sym (post_order-is-walk log waiting score n)) o))

pub copy_is-writes : CopyIsWrites
copy_is-writes = only-writes

pub copied-stays : CopiedStays
copied-stays log waiting date score second n = (grown log waiting date score second n).stays

pub no_dangling : NoDangling
no_dangling log waiting date score second n new e x m =
    let S = (grown log waiting date score second n).stays in
    lacks_nothing log waiting date score second n x (subst (Memᴰ x) (cancel (blocks second) new S.new (sym e ∙ S.added)) m)

pub ends_whole : EndsWhole
unfolding Whole
ends_whole log waiting date score second n v q =
    let s = (copy_of log waiting date score second n).second in
    let W = whole log waiting date score second n v q in
    let p = same-walk log waiting date score second n v q in
    let w : walk_of s [] score n ≡ walked v (Ok tt) = sym (post_order-is-walk s [] score n) ∙ ap (λ (x : PostOrder). x.answer) p ∙ W.1 in
    (p, W.2, w, root_holds (tape s []) s (λ t x r h. sym (held-alone s t x) ∙ h) (walk-found s [] score n v w))

pub copy_is-walk : CopyIsWalk
copy_is-walk log waiting date score second n l d = go (stops log waiting date score second n l d)
  where
    go : StopsAt (tape log waiting) date (post_order_of log waiting score n) second (copy_of log waiting date score second n)
        → AsWalk (copy_of log waiting date score second n) (walk_of log waiting score n)
    go (ended W e a) = inl (a ∙ post_order-is-walk log waiting score n)
    go (refused _ _ v _ _ _ _ _ R s i) = inr (refuses_second R, rw (← post_order-is-walk log waiting score n, s) i)
