-- The least depth: sought from 0 on, and what it is.
use mathlib.Core.Path.{◌≡◌, refl, sym, ap, ◌∙◌}
use mathlib.Core.Bool.{Bool, true, false, cond, ◌&&◌}
use mathlib.Core.Option.{Option, none, some}
use Prim.Native.Nat.{ℕ, zero, suc, ◌+◌, ◌-◌, ◌*◌, ◌/◌, ◌^◌, ◌≤◌, ◌<◌}
use native.Mathlib.Omega.{arith}
use native.Mathlib.Nat.{mul-le-mul_right}
use lib.Dec.{leb, ltb}
use borrow.Author.Tests.{le-leb, lt-leb, leb-true, leb-false, ltb-true, ltb-false}
use Rattle.bedrock.proofs.Choices.{and-true}
use Rattle.std.specs.Prelude.{Some, None, Option as Optional}
use Rattle.kind.specs.Kind.{longest}
use Rattle.entry.proofs.Room.{room-start, room_next}
use Rattle.writer.specs.Depth.{depth_from, least_depth, sizes_allowed, depth_of, chosen, LeastDepth}

module _ (n dsize p : ℕ) where
  -- sought so far: what is left to seek, and the room at d
  abbrev pub Seeking : ℕ → ℕ → Type 0
  Seeking room d = (d ≤ 8) × (room ≡ dsize * p ^ d) × (chosen (least_depth n dsize p) ≡ chosen (depth_from (8 - d) d n dsize p))

  pub seeking_start : Seeking dsize 0
  seeking_start = (omega arith, room-start dsize p, refl)

  pub seeking_found : (room d : ℕ) → Seeking room d → d < 8 → n ≤ room → Some d ≡ chosen (least_depth n dsize p)
  unfolding depth_from
  seeking_found room d s h le =
      let m : 8 - d ≡ suc (7 - d) = omega arith in
      let f : leb n (dsize * p ^ d) ≡ true = ap (leb n) (sym s.1) ∙ le-leb n room le in
      sym (s.2 ∙ ap (λ (k : ℕ). chosen (depth_from k d n dsize p)) m ∙ ap (λ (t : Bool). chosen (cond t (some d) (depth_from (7 - d) (suc d) n dsize p))) f)

  pub seeking_next : (room d : ℕ) → 0 < p → Seeking room d → d < 8 → room < n → Seeking (room * p) (d + 1)
  unfolding depth_from
  seeking_next room d pos s h gt =
      let m : 8 - d ≡ suc (8 - (d + 1)) = omega arith in
      let o : suc d ≡ d + 1 = omega arith in
      let f : leb n (dsize * p ^ d) ≡ false = ap (leb n) (sym s.1) ∙ lt-leb n room gt in (
        omega arith,
        room_next n dsize p 0 d room pos s.1,
        s.2 ∙ ap (λ (k : ℕ). chosen (depth_from k d n dsize p)) m ∙ ap (λ (t : Bool). chosen (cond t (some d) (depth_from (8 - (d + 1)) (suc d) n dsize p))) f
            ∙ ap (λ (k : ℕ). chosen (depth_from (8 - (d + 1)) k n dsize p)) o,
      )

  pub seeking_none : (room d : ℕ) → Seeking room d → 8 ≤ d → None ≡ chosen (least_depth n dsize p)
  unfolding depth_from
  seeking_none room d s h = let m : 8 - d ≡ 0 = omega arith in sym (s.2 ∙ ap (λ (k : ℕ). chosen (depth_from k d n dsize p)) m)

  pub room_fits : (room : ℕ) → room ≤ n → n ≤ longest → p ≤ longest → room * p ≤ longest * longest
  room_fits room a b c = omega (arith, mul-le-mul_right p (room-below room a b), below_all c)
    where
      room-below : (room : ℕ) → room ≤ n → n ≤ longest → room ≤ longest
      room-below room a b = omega arith

      below_all : p ≤ longest → longest * p ≤ longest * longest
      below_all h = omega arith

  -- a depth that is found, from d on
  found : (k d x : ℕ) → depth_from k d n dsize p ≡ some x
      → (d ≤ x) × (x < d + k) × (n ≤ dsize * p ^ x) × ((j : ℕ) → d ≤ j → j < x → dsize * p ^ j < n)
  unfolding depth_from
  found zero d x e = let z : ◌≡◌ {A = ℕ} 0 1 = cc in absurd (omega arith)
  found (suc k) d x e = go (leb n (dsize * p ^ d)) refl e (found k (suc d) x)
    where
      go : (t : Bool) → leb n (dsize * p ^ d) ≡ t → cond t (some d) (depth_from k (suc d) n dsize p) ≡ some x
          → (depth_from k (suc d) n dsize p ≡ some x → (suc d ≤ x) × (x < suc d + k) × (n ≤ dsize * p ^ x) × ((j : ℕ) → suc d ≤ j → j < x → dsize * p ^ j < n))
          → (d ≤ x) × (x < d + suc k) × (n ≤ dsize * p ^ x) × ((j : ℕ) → d ≤ j → j < x → dsize * p ^ j < n)
      go true q f rest =
          let same : d ≡ x = cc in
          (omega arith, omega arith, rw (← same) (leb-true n (dsize * p ^ d) q), λ j a b. absurd (omega arith))
      go false q f rest =
          let r = rest f in
          (omega (arith, r.0), omega (arith, r.1), r.2, λ j a b. at j (ltb d j) refl a b (r.3 j))
        where
          at : (j : ℕ) (t : Bool) → ltb d j ≡ t → d ≤ j → j < x → (suc d ≤ j → j < x → dsize * p ^ j < n) → dsize * p ^ j < n
          at j true u a b more = more (omega (arith, ltb-true d j u)) b
          at j false u a b more = let same : d ≡ j = omega (arith, ltb-false d j u) in rw (← same) (leb-false n (dsize * p ^ d) q)

  missing : (k d : ℕ) → depth_from k d n dsize p ≡ none → (j : ℕ) → d ≤ j → j < d + k → dsize * p ^ j < n
  unfolding depth_from
  missing zero d e j a b = absurd (omega arith)
  missing (suc k) d e j a b = go (leb n (dsize * p ^ d)) refl e (missing k (suc d))
    where
      go : (t : Bool) → leb n (dsize * p ^ d) ≡ t → cond t (some d) (depth_from k (suc d) n dsize p) ≡ none
          → (depth_from k (suc d) n dsize p ≡ none → (j : ℕ) → suc d ≤ j → j < suc d + k → dsize * p ^ j < n) → dsize * p ^ j < n
      go true q f rest = let z : ◌≡◌ {A = ℕ} 0 1 = cc in absurd (omega arith)
      go false q f rest = at (ltb d j) refl
        where
          at : (t : Bool) → ltb d j ≡ t → dsize * p ^ j < n
          at true u = rest f j (omega (arith, ltb-true d j u)) (omega arith)
          at false u = let same : d ≡ j = omega (arith, ltb-false d j u) in rw (← same) (leb-false n (dsize * p ^ d) q)

  pub least-found : (d : ℕ) → least_depth n dsize p ≡ some d → (d ≤ 7) × (n ≤ dsize * p ^ d) × ((k : ℕ) → k < d → dsize * p ^ k < n)
  least-found d e = let f = found 8 0 d e in (omega (arith, f.1), f.2, λ k h. f.3 k (omega arith) h)

-- "at the least depth"
pub least-depth : LeastDepth
least-depth n dsize p = (λ d e. least-found n dsize p d e, λ e k h. missing n dsize p 8 0 e k (omega arith) (omega arith))

-- ---- the sizes tested first

module _ (n dsize psize : ℕ) where
  pub dsize-under : dsize < 1 → None ≡ chosen (depth_of n dsize psize)
  unfolding depth_of sizes_allowed
  dsize-under h = rw (lt-leb 1 dsize h)

  module _ (a : 1 ≤ dsize) where
    pub dsize-over : longest < dsize → None ≡ chosen (depth_of n dsize psize)
    unfolding depth_of sizes_allowed
    dsize-over h = rw (le-leb 1 dsize a, lt-leb dsize longest h)

    module _ (b : dsize ≤ longest) where
      pub psize-under : psize < 40 → None ≡ chosen (depth_of n dsize psize)
      unfolding depth_of sizes_allowed
      psize-under h = rw (le-leb 1 dsize a, le-leb dsize longest b, lt-leb 40 psize h)

      module _ (c : 40 ≤ psize) where
        pub psize-over : longest < psize → None ≡ chosen (depth_of n dsize psize)
        unfolding depth_of sizes_allowed
        psize-over h = rw (le-leb 1 dsize a, le-leb dsize longest b, le-leb 40 psize c, lt-leb psize longest h)

        pub sizes_in : (r : Optional ℕ) → psize ≤ longest → r ≡ chosen (least_depth n dsize (psize / 20)) → r ≡ chosen (depth_of n dsize psize)
        unfolding depth_of sizes_allowed
        sizes_in r h e = rw (le-leb 1 dsize a, le-leb dsize longest b, le-leb 40 psize c, le-leb psize longest h) e

  -- a depth that 16 does not refuse
  pub record Lies (d : ℕ) : Type 0 where
    pub dsize-from : 1 ≤ dsize
    pub dsize-to : dsize ≤ longest
    pub psize-from : 40 ≤ psize
    pub psize-to : psize ≤ longest
    pub least : least_depth n dsize (psize / 20) ≡ some d

  pub depth_lies : (d : ℕ) → depth_of n dsize psize ≡ some d → Lies d
  unfolding depth_of sizes_allowed
  depth_lies d e = go (sizes_allowed dsize psize) refl e
    where
      go : (t : Bool) → sizes_allowed dsize psize ≡ t → cond t (least_depth n dsize (psize / 20)) none ≡ some d → Lies d
      go true q f =
          let s = and-true (leb 1 dsize && leb dsize longest) (leb 40 psize && leb psize longest) q in
          let x = and-true (leb 1 dsize) (leb dsize longest) s.0 in
          let y = and-true (leb 40 psize) (leb psize longest) s.1 in
          record {
            dsize-from = leb-true 1 dsize x.0;
            dsize-to = leb-true dsize longest x.1;
            psize-from = leb-true 40 psize y.0;
            psize-to = leb-true psize longest y.1;
            least = f;
          }
      go false q f = let z : ◌≡◌ {A = ℕ} 0 1 = cc in absurd (omega arith)

  -- by what is answered
  pub depth-some : (r : ℕ) → Some r ≡ chosen (depth_of n dsize psize) → depth_of n dsize psize ≡ some r
  depth-some r e = go (depth_of n dsize psize) refl
    where
      go : (o : Option ℕ) → depth_of n dsize psize ≡ o → depth_of n dsize psize ≡ some r
      go none q = let f : Some r ≡ None = e ∙ ap chosen q in let z : ◌≡◌ {A = ℕ} 0 1 = cc in absurd (omega arith)
      go (some d) q = let f : Some r ≡ Some d = e ∙ ap chosen q in let g : r ≡ d = cc in q ∙ ap some (sym g)

  pub depth-none : None ≡ chosen (depth_of n dsize psize) → depth_of n dsize psize ≡ none
  depth-none e = go (depth_of n dsize psize) refl
    where
      go : (o : Option ℕ) → depth_of n dsize psize ≡ o → depth_of n dsize psize ≡ none
      go none q = q
      go (some d) q = let f : None ≡ Some d = e ∙ ap chosen q in let z : ◌≡◌ {A = ℕ} 0 1 = cc in absurd (omega arith)
