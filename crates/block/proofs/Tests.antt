-- A test of each number of a range, taken apart.
use mathlib.Core.Path.{◌≡◌, ap, ◌∙◌}
use mathlib.Core.Bool.{Bool, true, ◌&&◌}
use Prim.Native.Nat.{ℕ, zero, suc, ◌+◌, ◌<◌}
use native.Mathlib.Omega.{arith}
use Rattle.bedrock.proofs.Choices.{and-true}

-- T k i tests each of the k numbers from i on by P
module _ (P : ℕ → Bool) (T : ℕ → ℕ → Bool) (step : (k i : ℕ) → T (suc k) i ≡ (P i && T k (suc i))) where
  pub range_facts : (k i j : ℕ) → T k i ≡ true → j < k → P (i + j) ≡ true
  range_facts zero i j e h = absurd (omega arith)
  range_facts (suc k) i zero e h =
      let n : i + 0 ≡ i = omega arith in
      let p = and-true (P i) (T k (suc i)) (rw (step k i) at e) in
      ap P n ∙ p.0
  range_facts (suc k) i (suc j) e h =
      let n : i + suc j ≡ suc i + j = omega arith in
      let p = and-true (P i) (T k (suc i)) (rw (step k i) at e) in
      ap P n ∙ range_facts k (suc i) j p.1 (omega arith)

  pub facts_range : ((i : ℕ) → T zero i ≡ true) → (k i : ℕ) → ((j : ℕ) → j < k → P (i + j) ≡ true) → T k i ≡ true
  facts_range z zero i f = z i
  facts_range z (suc k) i f =
      let n : i ≡ i + 0 = omega arith in
      let here : P i ≡ true = ap P n ∙ f 0 (omega arith) in
      step k i ∙ rw here (facts_range z k (suc i) (λ j h. let m : suc i + j ≡ i + suc j = omega arith in ap P m ∙ f (suc j) (omega arith)))
