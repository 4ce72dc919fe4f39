-- The walk of a directory that holds the entry of a file visits every block of it, except empty ones.
use mathlib.Core.Path.{◌≡◌, refl, sym, ap, ◌∙◌, subst}
use mathlib.Core.Bool.{Bool, true, false, cond}
use mathlib.Core.List.Memᴰ
use mathlib.Core.List.{List, [], ◌∷◌, ◌++◌, map, Memᴰ}
use mathlib.Core.Option.{some}
use Prim.Native.Nat.{ℕ, zero, suc, ◌+◌, ◌-◌, ◌*◌, ◌/◌, ◌%◌, ◌≤◌, ◌<◌}
use native.Mathlib.Omega.{arith}
use lib.Dec.{eqb, ltb}
use lib.ListN.{length}
use borrow.Author.Tests.{eqb-true, eqb-false, ne_eqb}
use Rattle.bedrock.proofs.Choices.{some_same}
use Rattle.buffer.specs.Bytes.{Bytes}
use Rattle.sha1_digest.specs.Sha1.{sha1_of}
use Rattle.refusal.specs.declared.Refusal.TheVariants.{Entry as IllFormed, Pointers}
use Rattle.block.specs.Block.{Row}
use Rattle.sector_log.specs.LookUp.{held, absence}
use Rattle.entry.specs.declared.Entry.{Entry}
use Rattle.entry.specs.Entry.{entry_of, entry_allowed, score_of}
use Rattle.tree.specs.Tree.{piece, type_at, count_at}
use Rattle.visit.specs.Visit.{walked}
use Rattle.descent.specs.Descent.{padded_to, nest_of, entries_of}
use Rattle.descent.specs.Parts.{entry_in}
use Rattle.walk_laws.proofs.Found.{not_done, type_above, level-below}
use Rattle.promises.specs.Histories.{afterwards}
use Rattle.writer.specs.WriteFile.{write_file}
use Rattle.writer_laws.specs.Walk.{both, ComesTo, first, below}
use Rattle.writer_laws.proofs.Walk.{walk_finds_file-later}
use Rattle.writer_laws.proofs.Reached.{walk_reaches_file-later}
use Rattle.copying.specs.PostOrder.{Role, of_entry, type_of, Visit, PostOrder, post_order, later, go_on, visit_last, each_in_order, judged_last, directory_last, entry_last}
use Rattle.copying.proofs.OneVisit.{last_by_lem}
use Rattle.copying.proofs.Visited.{goes_done}
use Rattle.copy_laws.specs.EveryBlock.{WalkVisitsEveryBlock}
use Rattle.std.specs.Prelude.{Ok, Err, Result, ⊤}
use Rattle.refusal.specs.declared.Refusal.{Refusal}

-- ---- visits among others

-- a visit of a block as what it was visited, whatever was spent by then
abbrev Sees : Role → Bytes → Bytes → List Visit → Type 0
Sees role s b vs = (v : Visit) × Memᴰ v vs × (v.role ≡ role) × (v.score ≡ s) × (v.bytes ≡ b)

-- whatever is visited here is visited there
abbrev Under : List Visit → List Visit → Type 0
Under vs ws = (role : Role) (s b : Bytes) → Sees role s b vs → Sees role s b ws

mem_later : (n : ℕ) (v : Visit) (vs : List Visit) → Memᴰ v vs → Memᴰ (later n v) (map (later n) vs)
mem_later n v [] m = elim m [ ]
mem_later n v (x ∷ vs) (Memᴰ.head e) = Memᴰ.head (ap (later n) e)
mem_later n v (x ∷ vs) (Memᴰ.tail m) = Memᴰ.tail (mem_later n v vs m)

under-later : (n : ℕ) (vs : List Visit) → Under vs (map (later n) vs)
under-later n vs role s b (v, m, e, f, g) = (later n v, mem_later n v vs m, e, f, g)

under-front : (vs ws : List Visit) → Under vs (vs ++ ws)
under-front vs ws role s b (v, m, e, f, g) = (v, Memᴰ.append_left ws m, e, f, g)

under_back : (vs ws : List Visit) → Under ws (vs ++ ws)
under_back vs ws role s b (v, m, e, f, g) = (v, Memᴰ.append_right vs m, e, f, g)

-- one list behind another that is done
goes_both : (e : Result ⊤ Refusal) (vs : List Visit) (m : ℕ) (k : ℕ → PostOrder) → (go_on e vs m k).answer.end ≡ Ok tt
    → ((k m).answer.end ≡ Ok tt) × Under vs (go_on e vs m k).visits × Under (k m).visits (go_on e vs m k).visits
goes_both (Ok tt) vs m k d = (d, under-front vs (k m).visits, under_back vs (k m).visits)
goes_both (Err why) vs m k d = not_done why d

-- ---- pieces in order

module _ (go : Bytes → ℕ → PostOrder) (w : ℕ) (b : Bytes) (left : ℕ) where
  -- a piece was done, with no more than what was left, and its visits are among these
  abbrev Went : ℕ → List Visit → Type 0
  Went p vs = (a : ℕ) × (a ≤ left) × ((go (piece w p b) a).answer.end ≡ Ok tt) × Under (go (piece w p b) a).visits vs

  went_up : (p : ℕ) (vs ws : List Visit) → Under vs ws → Went p vs → Went p ws
  went_up p vs ws u (a, h, d, f) = (a, h, d, λ r s x y. u r s x (f r s x y))

  -- the first of them, or one behind it
  first_or_next : (i k n p : ℕ) (all : List Visit) → (go (piece w i b) (left - n)).answer.end ≡ Ok tt → Under (map (later n) (go (piece w i b) (left - n)).visits) all
      → (suc i ≤ p → p < suc i + k → Went p all) → i ≤ p → p < i + suc k → Went p all
  first_or_next i k n p all e u r h l = by (eqb p i) refl
    where
      by : (t : Bool) → eqb p i ≡ t → Went p all
      by true z =
          subst (λ (j : ℕ). Went j all) (sym (eqb-true p i z))
          (left - n, omega arith, e, λ role s x f. u role s x (under-later n (go (piece w i b) (left - n)).visits role s x f))
      by false z = let y = eqb-false p i z in r (omega arith) (omega arith)

  order_went : (k i n : ℕ) → (each_in_order go w b left k i n).answer.end ≡ Ok tt → (p : ℕ) → i ≤ p → p < i + k → Went p (each_in_order go w b left k i n).visits
  unfolding each_in_order
  order_went zero i n d p h l = absurd (omega arith)
  order_went (suc k) i n d p h l =
      let q = go (piece w i b) (left - n) in
      let m = n + q.answer.visits in
      let vs = map (later n) q.visits in
      let next : ℕ → PostOrder = λ j. each_in_order go w b left k (suc i) j in
      let all = (go_on q.answer.end vs m next).visits in
      let D = goes_both q.answer.end vs m next d in
      first_or_next i k n p all (goes_done q.answer.end vs m next d) D.1
      (λ h' l'. went_up p (next m).visits all D.2 (order_went k (suc i) m D.0 p h' l')) h l

-- ---- one visit

-- what is known of a visit after which the walk was done: its block is held and among the visits, and so is what is below it
record Stood (log : Bytes) (left : ℕ) (role : Role) (score : Bytes) (B : Bytes → PostOrder) (vs : List Visit) : Type 0 where
  row : Row
  some_left : 0 < left
  row-held : held log (type_of role) score ≡ some row
  done : (B row.bytes).answer.end ≡ Ok tt
  itself : Sees role score row.bytes vs
  under : Under (B row.bytes).visits vs

stood : (log : Bytes) (nest left : ℕ) (role : Role) (count : ℕ) (score : Bytes) (B : Bytes → PostOrder) → (visit_last log nest left role count score B).answer.end ≡ Ok tt
    → Stood log left role score B (visit_last log nest left role count score B).visits
unfolding visit_last
stood log nest left role count score B d =
    last_by_lem role count score (ltb 16 nest) (eqb left 0) (held log (type_of role) score) (absence log) B (λ p. p.answer.end ≡ Ok tt → Stood log left role score B p.visits)
    (λ n y d. not_done y d)
    (λ r F d. itself-there r (eqb-false left 0 F.not-spent) F.passes.row-held (B r.bytes).answer.end (map (later 1) (B r.bytes).visits) _ refl (under-later 1 (B
    r.bytes).visits) d) d
  where
    itself-there : (r : Row) → (left ≡ 0 → ⊥) → held log (type_of role) score ≡ some r → (e : Result ⊤ Refusal) (vs : List Visit) (n : ℕ) → (B r.bytes).answer.end ≡ e
        → let k : ℕ → PostOrder = λ m. post_order (record { role = role; score = score; bytes = r.bytes; spent = m } ∷ []) (walked m (Ok tt)) in
        Under (B r.bytes).visits vs → (go_on e vs n k).answer.end ≡ Ok tt → Stood log left role score B (go_on e vs n k).visits
    itself-there r p q (Ok tt) vs n e u d =
        let v : Visit = record { role = role; score = score; bytes = r.bytes; spent = n } in
        record {
          row = r;
          some_left = omega arith;
          row-held = q;
          done = e;
          itself = (v, Memᴰ.append_right vs (Memᴰ.head refl), refl, refl, refl);
          under = λ y s b f. under-front vs (v ∷ []) y s b (u y s b f);
        }
    itself-there r p q (Err w) vs n e u d = not_done w d

-- ---- the scores that a walk comes to

module _ (log : Bytes) (e : Entry) (nest : ℕ) where
  -- the block under a score at a level is among these visits
  abbrev SeesAt : ℕ → Bytes → List Visit → Type 0
  SeesAt k s vs = (r : Row) × (held log (type_at e k) s ≡ some r) × Sees (of_entry e k) s r.bytes vs

  -- the visit of a score at a level was done, with calls enough and no more left than this, and all of it is among these visits
  abbrev Ended : ℕ → ℕ → Bytes → List Visit → Type 0
  Ended left k s vs = (c a : ℕ) × (a + a + 1 ≤ c) × (a ≤ left) × ((entry_last c log e k nest s a).answer.end ≡ Ok tt) × Under (entry_last c log e k nest s a).visits vs

  abbrev below_it : ℕ → ℕ → ℕ → Bytes → PostOrder
  below_it f k a b = cond (eqb k 0)
      (cond e.directory (directory_last f log nest b (a - 1)) (post_order [] (walked 0 (Ok tt))))
      (cond (eqb (length b % 20) 0) (each_in_order (λ x n. entry_last f log e (k - 1) nest x n) 20 b (a - 1) (length b / 20) 0 0) (post_order [] (walked 0 (Err Pointers))))

  here-seen : (left k : ℕ) (s : Bytes) (vs : List Visit) → Ended left k s vs → SeesAt k s vs
  unfolding entry_last
  here-seen left k s vs (zero, a, enough, h, d, u) = absurd (omega arith)
  here-seen left k s vs (suc f, a, enough, h, d, u) =
      let S = stood log nest a (of_entry e k) (count_at e k) s (below_it f k a) d in
      (S.row, S.row-held, u (of_entry e k) s S.row.bytes S.itself)

  -- below a pointer block whose scores were visited in order
  each_ended : (f k left a : ℕ) (b : Bytes) (vs : List Visit) → a + a + 1 ≤ f → a ≤ left → (t : Bool)
      → let p = cond t (each_in_order (λ x n. entry_last f log e (suc k - 1) nest x n) 20 b a (length b / 20) 0 0) (post_order [] (walked 0 (Err Pointers))) in
      p.answer.end ≡ Ok tt → Under p.visits vs → (i : ℕ) → i < length b / 20 → Ended left k (piece 20 i b) vs
  each_ended f k left a b vs enough le false d u i h = not_done _ d
  each_ended f k left a b vs enough le true d u i h =
      let go : Bytes → ℕ → PostOrder = λ x n. entry_last f log e (suc k - 1) nest x n in
      let W = order_went go 20 b a (length b / 20) 0 0 d i (omega arith) (omega arith) in
      let is : ℕ → PostOrder = λ m. entry_last f log e m nest (piece 20 i b) W.0 in
      let down : is (suc k - 1) ≡ is k = ap is (level-below k) in (
        f,
        W.0,
        omega (arith, W.1),
        omega (arith, W.1),
        ap (λ (p : PostOrder). p.answer.end) (sym down) ∙ W.2,
        subst (λ (p : PostOrder). Under p.visits vs) down (λ role s x y. u role s x (W.3 role s x y)),
      )

  else_taken : (t : Bool) (x y : PostOrder) → t ≡ false → cond t x y ≡ y
  else_taken true x y q = let z : ◌≡◌ {A = ℕ} 0 1 = cc in absurd (omega arith)
  else_taken false x y q = refl

  -- a pointer block
  ended-below : (k left : ℕ) (s : Bytes) (r : Row) (vs : List Visit) → held log (2 + suc k) s ≡ some r → Ended left (suc k) s vs → (i : ℕ) → i < length r.bytes / 20
      → Ended left k (piece 20 i r.bytes) vs
  unfolding entry_last
  ended-below k left s r vs h (zero, a, enough, le, d, u) = absurd (omega arith)
  ended-below k left s r vs h (suc f, a, enough, le, d, u) =
      let S = stood log nest a (of_entry e (suc k)) (count_at e (suc k)) s (below_it f (suc k) a) d in
      let b = S.row.bytes in
      let is : S.row ≡ r = some_same S.row r (sym S.row-held ∙ ap (λ (t : ℕ). held log t s) (type_above e k) ∙ h) in
      let q = cond (eqb (length b % 20) 0) (each_in_order (λ x n. entry_last f log e (suc k - 1) nest x n) 20 b (a - 1) (length b / 20) 0 0) (post_order [] (walked 0 (Err Pointers))) in
      let taken : below_it f (suc k) a b ≡ q = else_taken (eqb (suc k) 0) _ _ (ne_eqb (suc k) 0 (λ z. omega arith)) in
      let all = each_ended f k left (a - 1) b vs (omega (arith, S.some_left)) (omega arith) (eqb (length b % 20) 0)
      (ap (λ (p : PostOrder). p.answer.end) (sym taken) ∙ S.done)
      (subst (λ (p : PostOrder). Under p.visits vs) taken (λ role x y z. u role x y (S.under role x y z))) in
      subst (λ (x : Row). (i : ℕ) → i < length x.bytes / 20 → Ended left k (piece 20 i x.bytes) vs) is all

come_to-ended : (log : Bytes) (e : Entry) (nest : ℕ) (top : Bytes) (left : ℕ) (vs : List Visit) → Ended log e nest left e.depth top vs
    → (k : ℕ) (s : Bytes) → ComesTo log e top k s → Ended log e nest left k s vs
come_to-ended log e nest top left vs E _ _ first = E
come_to-ended log e nest top left vs E _ _ (below {k = k} {s = s} r up h i lt) =
    ended-below log e nest k left s r vs h (come_to-ended log e nest top left vs E (suc k) s up) i lt

-- ---- a directory that lists the entry

listed-ended : (log x : Bytes) (f nest a left : ℕ) (vs : List Visit) → a + a + 1 ≤ f → a ≤ left → (t u : Bool) → t ≡ true → u ≡ true → let e = entry_of x in
    let p = entry_last f log e e.depth (nest_of e nest) (score_of x) a in
    let q = cond t (cond u p (post_order [] (walked 0 (Err IllFormed)))) (post_order [] (walked 0 (Ok tt))) in q.answer.end ≡ Ok tt → Under q.visits vs
    → Ended log e (nest_of e nest) left e.depth (score_of x) vs
listed-ended log x f nest a left vs enough le true true y z d u = (f, a, enough, le, d, u)
listed-ended log x f nest a left vs enough le true false y z d u = let c : ◌≡◌ {A = ℕ} 0 1 = cc in absurd (omega arith)
listed-ended log x f nest a left vs enough le false t y z d u = let c : ◌≡◌ {A = ℕ} 0 1 = cc in absurd (omega arith)

directory-ended : (log b : Bytes) (i calls nest left : ℕ) → i < entries_of (length b) → left + left + 2 ≤ calls → let x = entry_in b i in let e = entry_of x in
    e.active ≡ true → entry_allowed x ≡ true → let p = directory_last calls log nest b left in p.answer.end ≡ Ok tt
    → Ended log e (nest_of e nest) left e.depth (score_of x) p.visits
unfolding directory_last judged_last
directory-ended log b i zero nest left h enough act may d = absurd (omega arith)
directory-ended log b i (suc f) nest left h enough act may d =
    let n = entries_of (length b) in
    let go : Bytes → ℕ → PostOrder = λ x a. judged_last x (entry_last f log (entry_of x) (entry_of x).depth (nest_of (entry_of x) nest) (score_of x) a) in
    let W = order_went go 40 (padded_to (40 * n) b) left n 0 0 d i (omega arith) (omega arith) in
    let x = entry_in b i in
    listed-ended log x f nest W.0 left (directory_last (suc f) log nest b left).visits (omega (arith, W.1)) W.1 (entry_of x).active (entry_allowed x) act may W.2 W.3

pub walk-visits_every_block : WalkVisitsEveryBlock
walk-visits_every_block log w date slice dsize psize entry scores sm done past qs ok b i h is calls nest left enough ended x m ne =
    let o = write_file log w date slice dsize psize entry scores in
    let l = both (afterwards o.lent past qs) in
    let F = walk_finds_file-later log w date slice dsize psize entry scores sm done past qs ok in
    let R = walk_reaches_file-later log w date slice dsize psize entry scores sm done past qs ok x m ne in
    let y = entry_in b i in
    let e = entry_of y in
    let vs = (directory_last calls l nest b left).visits in
    let E = directory-ended l b i calls nest left h enough (ap (λ (z : Bytes). (entry_of z).active) is ∙ F.0) (ap entry_allowed is ∙ F.1) ended in
    let reach = subst (λ (z : Bytes). (k : ℕ) × (type_at (entry_of z) k ≡ x.kind) × ComesTo l (entry_of z) (score_of z) k (sha1_of x.bytes)) (sym is) R.1 in
    let k = reach.0 in
    let S = here-seen l e (nest_of e nest) left k (sha1_of x.bytes) vs
    (come_to-ended l e (nest_of e nest) (score_of y) left vs E k (sha1_of x.bytes) reach.2) in
    let row : S.0 ≡ R.0.0 = some_same S.0 R.0.0 (sym S.1 ∙ ap (λ (t : ℕ). held l t (sha1_of x.bytes)) reach.1 ∙ R.0.1) in
    let v = S.2 in
    (v.0, v.1, ap type_of v.2 ∙ reach.1, v.3, v.4 ∙ ap (λ (r : Row). r.bytes) row ∙ R.0.2)
