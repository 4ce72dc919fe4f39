-- Bytes gathered one by one, split behind those gathered first; and the buffer they are written to.
use mathlib.Core.Path.{◌≡◌, refl, sym, ap, ap₂, ◌∙◌}
use mathlib.Core.List.{[], ◌∷◌, ◌++◌}
use Prim.Native.Nat.{ℕ, zero, suc, ◌+◌, ◌-◌, ◌≤◌, ◌<◌}
use native.Mathlib.Nat.{sub-zero, add-zero, zero-add}
use native.Mathlib.Omega.{arith}
use lib.ListN.{length, get_or, length-append}
use Rattle.buffer.specs.Bytes.{Bytes, put}
use Rattle.buffer.proofs.Put.{put-put}
use Rattle.buffer.proofs.Put.{put-none as put-nothing}
use Rattle.refusal.specs.declared.Refusal.{Refusal}
use Rattle.fill.specs.Fill.{Read, byte, refused, Gathered, infront, gathered, FillOutcome, fill_outcome, filled_with}
use Rattle.std.specs.Prelude.{Ok, Err, Result, ⊤}

-- known bytes in front
abbrev pub behind : Bytes → Gathered → Gathered
behind p g = record { bytes = p ++ g.bytes; stop = g.stop }

-- the same reads gather the same
pub gathered-same : (f g : ℕ → Read) (n o : ℕ) → ((j : ℕ) → o ≤ j → j < o + n → f j ≡ g j) → gathered f n o ≡ gathered g n o
unfolding gathered
gathered-same f g zero o e = refl
gathered-same f g (suc n) o e = ap₂ infront (e o (omega arith) (omega arith)) (gathered-same f g n (suc o) (λ j a b. e j (omega arith) (omega arith)))

-- a refusal is not the end
not_done : (w : Refusal) → ◌≡◌ {A = Result ⊤ Refusal} (Err w) (Ok tt) → ⊥
not_done w q = let z : ◌≡◌ {A = ℕ} 0 1 = cc in omega arith

-- what the first m bytes give, those behind them, and all together: up to m bytes; and all of them, or a refusal that ends it
pub record Split (m : ℕ) (front rest all : Gathered) : Type 0 where
  pub short : length front.bytes ≤ m
  pub all-gathered : front.stop ≡ Ok tt → length front.bytes ≡ m
  pub goes_on : front.stop ≡ Ok tt → all ≡ behind front.bytes rest
  pub ends : (w : Refusal) → front.stop ≡ Err w → all ≡ front

split-infront : (r : Read) (m : ℕ) (front rest all : Gathered) → Split m front rest all → Split (suc m) (infront r front) rest (infront r all)
split-infront (byte b) m front rest all s = record {
  short = omega (arith, s.short);
  all-gathered = λ q. ap suc (s.all-gathered q);
  goes_on = λ q. ap (infront (byte b)) (s.goes_on q);
  ends = λ w q. ap (infront (byte b)) (s.ends w q);
}
split-infront (refused v) m front rest all s = record {
  short = omega arith;
  all-gathered = λ q. absurd (not_done v q);
  goes_on = λ q. absurd (not_done v q);
  ends = λ w q. refl;
}

module _ (read : ℕ → Read) where
  -- bytes that are all read
  pub gathered-all : (p : Bytes) (o : ℕ) → ((j : ℕ) → j < length p → read (o + j) ≡ byte (get_or p j 0))
      → gathered read (length p) o ≡ record { bytes = p; stop = (Ok tt) }
  unfolding gathered
  gathered-all [] o f = refl
  gathered-all (b ∷ p) o f =
      let z : o ≡ o + 0 = omega arith in
      let here : read o ≡ byte b = ap read z ∙ f 0 (omega arith) in
      let there = gathered-all p (suc o) (λ j g. let q : suc o + j ≡ o + suc j = omega arith in ap read q ∙ f (suc j) (omega arith)) in
      ap₂ infront here there

  -- a refusal
  pub gathered-refused : (n o : ℕ) (w : Refusal) → 0 < n → read o ≡ refused w → gathered read n o ≡ record { bytes = []; stop = Err w }
  unfolding gathered
  gathered-refused zero o w h e = absurd (omega arith)
  gathered-refused (suc n) o w h e = ap (λ (r : Read). infront r (gathered read n (suc o))) e

  -- n bytes behind the first m
  gathered-split : (m n k o p : ℕ) → k ≡ m + n → p ≡ o + m → Split m (gathered read m o) (gathered read n p) (gathered read k o)
  unfolding gathered
  gathered-split zero n k o p e h =
      let en : k ≡ n = omega arith in
      let eo : o ≡ p = omega arith in
      record {
        short = omega arith;
        all-gathered = λ q. refl;
        goes_on = λ q. ap₂ (gathered read) en eo;
        ends = λ w q. absurd (not_done w (sym q));
      }
  gathered-split (suc m) n zero o p e h = absurd (omega arith)
  gathered-split (suc m) n (suc k) o p e h =
      split-infront (read o) m (gathered read m (suc o)) (gathered read n p) (gathered read k (suc o)) (gathered-split m n k (suc o) p (omega arith) (omega arith))

-- what is gathered written from byte `at` on, where so many were written before
abbrev pub onward : Bytes → ℕ → Gathered → FillOutcome
onward d at g = fill_outcome (record { count = at + length g.bytes; stop = g.stop }) (put d at g.bytes)

pub onward-behind : (d : Bytes) (at : ℕ) (p : Bytes) (g : Gathered) → at ≤ length d → onward (put d at p) (at + length p) g ≡ onward d at (behind p g)
onward-behind d at p g h =
    let n : at + length p + length g.bytes ≡ at + length (p ++ g.bytes) = omega (arith, length-append p g.bytes) in
    λ i. fill_outcome (record { count = n i; stop = g.stop }) (put-put d at p g.bytes h i)

pub onward-front : (d : Bytes) (g : Gathered) → onward d 0 g ≡ filled_with d g
onward-front d g = λ i. fill_outcome (record { count = zero-add (length g.bytes) i; stop = g.stop }) (put d 0 g.bytes)

-- what is left to gather behind `done` bytes, with the buffer as it is, makes what the whole makes
abbrev pub Rest : (ℕ → Read) → ℕ → ℕ → Bytes → Bytes → ℕ → Type 0
Rest read count offset d₀ d done = onward d done (gathered read (count - done) (offset + done)) ≡ filled_with d₀ (gathered read count offset)

module _ (read : ℕ → Read) (count offset : ℕ) (d₀ : Bytes) where
  pub rest_all : Rest read count offset d₀ d₀ 0
  rest_all = ap₂ (λ (n o : ℕ). onward d₀ 0 (gathered read n o)) (sub-zero count) (add-zero offset) ∙ onward-front d₀ (gathered read count offset)

  module _ (d : Bytes) (done : ℕ) (rest : Rest read count offset d₀ d done) where
    pub rest-none : count ≤ done → fill_outcome (record { count = done; stop = (Ok tt) }) d ≡ filled_with d₀ (gathered read count offset)
    unfolding gathered
    rest-none h =
        let z : count - done ≡ 0 = omega arith in
        (λ i. fill_outcome (record { count = sym (add-zero done) i; stop = (Ok tt) }) (sym (put-nothing d done) i))
        ∙ ap (λ (n : ℕ). onward d done (gathered read n (offset + done))) (sym z) ∙ rest

    -- m bytes more, as they are gathered
    module _ (m : ℕ) (h : done + m ≤ count) where
      pub rest-split : Split m (gathered read m (offset + done)) (gathered read (count - (done + m)) (offset + (done + m))) (gathered read (count - done) (offset + done))
      rest-split = gathered-split read m (count - (done + m)) (count - done) (offset + done) (offset + (done + m)) (omega arith) (omega arith)

      pub rest_ends : (w : Refusal) → (gathered read m (offset + done)).stop ≡ Err w
          → onward d done (gathered read m (offset + done)) ≡ filled_with d₀ (gathered read count offset)
      rest_ends w q = ap (onward d done) (sym (rest-split.ends w q)) ∙ rest

      pub rest_goes_on : (gathered read m (offset + done)).stop ≡ Ok tt → done ≤ length d
          → let p = (gathered read m (offset + done)).bytes in
          Rest read count offset d₀ (put d done p) (done + length p)
      rest_goes_on q l =
          let p = (gathered read m (offset + done)).bytes in
          ap (λ (n : ℕ). onward (put d done p) (done + length p) (gathered read (count - (done + n)) (offset + (done + n)))) (rest-split.all-gathered q)
          ∙ onward-behind d done p (gathered read (count - (done + m)) (offset + (done + m))) l
          ∙ ap (onward d done) (sym (rest-split.goes_on q)) ∙ rest
