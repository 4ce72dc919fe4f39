-- One visit of the walk in post-order, by its tests: its answer, its count, what it holds and links to, and the same visit over another log.
use mathlib.Core.Path.{◌≡◌, refl, sym, ap, ◌∙◌}
use mathlib.Core.Bool.{Bool, true, false, cond}
use mathlib.Core.List.{[], ◌∷◌, map}
use mathlib.Core.Option.{Option, none, some}
use Prim.Native.Nat.{ℕ, ◌+◌}
use native.Mathlib.Omega.{arith}
use mathlib.Core.Logic.{inl, inr}
use lib.Dec.{eqb, ltb}
use borrow.Author.Tests.{eqb-false}
use lib.ListN.{length}
use Rattle.buffer.specs.Bytes.{Bytes}
use Rattle.refusal.specs.declared.Refusal.{Refusal}
use Rattle.refusal.specs.declared.Refusal.TheVariants.{NotHeld, NotKnown, OverCount, Nest, Spent}
use Rattle.refusal.specs.Number.{number_of}
use Rattle.block.specs.Block.{Row}
use Rattle.sector_log.specs.LookUp.{doubtful, first_doubtful, held, absence}
use Rattle.visit.specs.declared.Walked.{Walked}
use Rattle.visit.specs.Visit.{walked, end_number}
use Rattle.visit.proofs.Visits.{by_tests, visit_by, FoundByTests, by_tests-both, by_tests_lem}
use Rattle.walk_laws.proofs.Found.{not_done}
use Rattle.copying.specs.PostOrder.{Role, type_of, PostOrder, post_order, later, go_on, behind}
use Rattle.copying.specs.Promises.{Shown, HoldsAll, Linked}
use Rattle.copying.proofs.Visited.{OfFirst, done_first, first_on, holds_parts, holds_later, holds_earlier, holds_on, SpentWithin, within-later, within_on, LinksFirst}
use Rattle.copying.proofs.Visited.{links_join, links_later, Any}
use Rattle.copying.proofs.Visited.{followed_again, behind-answer, Counted, counted-behind}
use Rattle.std.specs.Prelude.{Ok, Err, Result, ⊤}

-- a refusal of another number
pub of-first : (w : Refusal) → eqb (number_of w) 14 ≡ false → eqb (number_of w) 15 ≡ false → OfFirst (Err w)
of-first w f g (inl q) = eqb-false (number_of w) 14 f (ap end_number q)
of-first w f g (inr q) = eqb-false (number_of w) 15 g (ap end_number q)

pub absence-first : (log : Bytes) → OfFirst (Err (absence log))
unfolding absence
absence-first log = go (eqb (doubtful log) 0)
  where
    go : (b : Bool) → OfFirst (Err (cond b NotHeld (NotKnown (record { 0 = first_doubtful log }))))
    go true = of-first NotHeld refl refl
    go false = of-first (NotKnown (record { 0 = first_doubtful log })) refl refl

abbrev pub Within : PostOrder → Type 0
Within p = SpentWithin p.answer.visits p.visits

-- by its tests: nest over 16, nothing left, what is held
abbrev refused_last : ℕ → Refusal → PostOrder
refused_last n why = post_order [] (walked n (Err why))

abbrev pub last_by : Role → ℕ → Bytes → Bool → Bool → Option Row → Refusal → (Bytes → PostOrder) → PostOrder
last_by role count score a b o why below = by_tests a b o why count refused_last (λ r. behind role score r.bytes (below r.bytes))

module _ (role : Role) (count : ℕ) (score : Bytes) where
  abbrev itself : Bytes → ℕ → PostOrder
  itself b n = post_order (record { role = role; score = score; bytes = b; spent = n } ∷ []) (walked n (Ok tt))

  pub last_by_lem : (a b : Bool) (o : Option Row) (why : Refusal) (B : Bytes → PostOrder) (P : PostOrder → Type 0) → ((n : ℕ) (y : Refusal) → P (refused_last n y))
      → ((r : Row) → FoundByTests a b o count r → P (behind role score r.bytes (B r.bytes))) → P (last_by role count score a b o why B)
  last_by_lem a b o why B P u v = by_tests_lem a b o why count refused_last (λ r. behind role score r.bytes (B r.bytes)) P u v

  -- a block that a log holds behind what is below it
  behind-held : (L b : Bytes) (p : PostOrder) → (behind role score b p).answer.end ≡ Ok tt → HoldsAll L (behind role score b p).visits → Shown L (type_of role) score b
  behind-held L b p d h = go p.answer.end d h
    where
      go : (e : Result ⊤ Refusal) → (go_on e (map (later 1) p.visits) (1 + p.answer.visits) (itself b)).answer.end ≡ Ok tt
          → HoldsAll L (go_on e (map (later 1) p.visits) (1 + p.answer.visits) (itself b)).visits → Shown L (type_of role) score b
      go (Ok tt) d h = (holds_parts L (map (later 1) p.visits) (itself b (1 + p.answer.visits)).visits h).1.0
      go (Err why) d h = not_done why d

  pub walks_by : (a b : Bool) (o : Option Row) (why : Refusal) (B : Bytes → PostOrder) (X : Bytes → Walked) → (b ≡ false → (x : Bytes) → (B x).answer ≡ X x)
      → (last_by role count score a b o why B).answer ≡ visit_by a b o why count X
  walks_by a b o why B X f =
      by_tests-both a b o why count refused_last (λ r. behind role score r.bytes (B r.bytes)) (λ n y. walked n (Err y))
      (λ r. record { visits = (X r.bytes).visits + 1; end = (X r.bytes).end }) (λ p w. p.answer ≡ w) (λ n y. refl)
      (λ r F. behind-answer role score r.bytes (B r.bytes) (X r.bytes) (f F.not-spent r.bytes))

  pub within_by : (a b : Bool) (o : Option Row) (why : Refusal) (B : Bytes → PostOrder) → (b ≡ false → (x : Bytes) → Within (B x)) → Within (last_by role count score a b o why B)
  within_by a b o why B f =
      last_by_lem a b o why B Within (λ n y. tt) (λ r F. let p = B r.bytes in
      within_on p.answer.end (map (later 1) p.visits) (1 + p.answer.visits) (itself r.bytes)
      (within-later 1 p.answer.visits p.visits (f F.not-spent r.bytes)) (omega arith) (omega arith, tt))

  pub shown_by : (L : Bytes) (a b : Bool) (o : Option Row) (why : Refusal) (B : Bytes → PostOrder) → held L (type_of role) score ≡ o
      → (b ≡ false → (x : Bytes) → HoldsAll L (B x).visits) → HoldsAll L (last_by role count score a b o why B).visits
  shown_by L a b o why B q f =
      last_by_lem a b o why B (λ p. HoldsAll L p.visits) (λ n y. tt) (λ r F. let p = B r.bytes in
      holds_on L p.answer.end (map (later 1) p.visits) (1 + p.answer.visits) (itself r.bytes)
      (holds_later L 1 p.visits (f F.not-spent r.bytes)) (record { row = r; row-held = q ∙ F.passes.row-held; these = refl }, tt))

  -- over a log that holds the blocks
  pub again_by : (L : Bytes) (a b : Bool) (o o' : Option Row) (why why' : Refusal) (B B' : Bytes → PostOrder) → held L (type_of role) score ≡ o'
      → (b ≡ false → (x : Bytes) → (B x).answer.end ≡ Ok tt → HoldsAll L (B x).visits → B' x ≡ B x)
      → (last_by role count score a b o why B).answer.end ≡ Ok tt → HoldsAll L (last_by role count score a b o why B).visits
      → last_by role count score a b o' why' B' ≡ last_by role count score a b o why B
  again_by L a b o o' why why' B B' q f d h =
      last_by_lem a b o why B (λ p. p.answer.end ≡ Ok tt → HoldsAll L p.visits → last_by role count score a b o' why' B' ≡ p) (λ n y d h. not_done y d)
      (λ r F d h. let S = behind-held L r.bytes (B r.bytes) d h in
      let y : o' ≡ some S.row = sym q ∙ S.row-held in
      let e : last_by role count score a b o' why' B' ≡ behind role score r.bytes (B' r.bytes) = rw (F.not-deep, F.not-spent, y, S.these, F.passes.within_count) in
      e ∙ followed_again L (B r.bytes) (B' r.bytes) 1 (itself r.bytes) (itself r.bytes) (f F.not-spent r.bytes) (λ m u v. refl) d h) d h

  pub links_by : (a b : Bool) (o : Option Row) (why : Refusal) (B : Bytes → PostOrder) → (b ≡ false → (x : Bytes) → LinksFirst Any (B x).visits)
      → (b ≡ false → (x : Bytes) → (B x).answer.end ≡ Ok tt → (L : Bytes) → HoldsAll L (B x).visits → Linked L role x)
      → LinksFirst Any (last_by role count score a b o why B).visits
  links_by a b o why B f g = last_by_lem a b o why B (λ p. LinksFirst Any p.visits) (λ n y. tt) (λ r F. last r F.not-spent (B r.bytes).answer.end refl)
    where
      last : (r : Row) → b ≡ false → (e : Result ⊤ Refusal) → (B r.bytes).answer.end ≡ e
          → LinksFirst Any (go_on e (map (later 1) (B r.bytes).visits) (1 + (B r.bytes).answer.visits) (itself r.bytes)).visits
      last r z (Ok tt) q =
          links_join Any (map (later 1) (B r.bytes).visits) (itself r.bytes (1 + (B r.bytes).answer.visits)).visits (links_later Any 1 (B r.bytes).visits (f z r.bytes))
          ((λ L h. g z r.bytes q L (holds_earlier L 1 (B r.bytes).visits h.1)), tt)
      last r z (Err y) q = links_later Any 1 (B r.bytes).visits (f z r.bytes)

  pub counted_by : (a b : Bool) (o : Option Row) (why : Refusal) (B : Bytes → PostOrder) → (b ≡ false → (x : Bytes) → Counted 0 (B x)) → Counted 0 (last_by role count score a b o why B)
  counted_by a b o why B f =
      last_by_lem a b o why B (Counted 0) (λ n y d. not_done y d) (λ r F. counted-behind role score r.bytes (B r.bytes) (f F.not-spent r.bytes))

  pub first_by : (a b : Bool) (o : Option Row) (why : Refusal) (B : Bytes → PostOrder) → OfFirst (Err why) → (b ≡ false → (x : Bytes) → OfFirst (B x).answer.end)
      → OfFirst (last_by role count score a b o why B).answer.end
  first_by true b o why B w f = of-first Nest refl refl
  first_by false true o why B w f = of-first Spent refl refl
  first_by false false none why B w f = w
  first_by false false (some r) why B w f = go (ltb count (length r.bytes))
    where
      go : (t : Bool) → OfFirst (cond t (post_order [] (walked 1 (Err OverCount))) (behind role score r.bytes (B r.bytes))).answer.end
      go true = of-first OverCount refl refl
      go false =
          let p = B r.bytes in first_on p.answer.end (map (later 1) p.visits) (1 + p.answer.visits) (itself r.bytes) (f refl r.bytes) done_first
