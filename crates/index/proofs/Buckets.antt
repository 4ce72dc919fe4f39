-- Buckets lie within the buffer, apart from each other; the first free place of a range.
use mathlib.Core.Path.{◌≡◌, ap, ◌∙◌}
use mathlib.Core.Bool.{true, false}
use Prim.Native.Nat.{ℕ, zero, suc, ◌+◌, ◌-◌, ◌*◌, ◌/◌, ◌≤◌, ◌<◌}
use native.Mathlib.Nat.{mul-le-mul_left, mul-suc}
use native.Mathlib.Omega.{arith}
use lib.ListN.{length, get_or}
use Rattle.bedrock.proofs.Choices.{cond_ind}
use Rattle.buffer.specs.Bytes.{Bytes}
use Rattle.index.specs.Index.{places, bucket_of, free, first_free}

-- bucket b of the 256 that m bytes have
pub bucket_fits : (m b : ℕ) → b < 256 → 25 * (places m * b + places m) ≤ m
bucket_fits m b h = let k : m / 6400 * b ≤ m / 6400 * 255 = mul-le-mul_left (m / 6400) (omega arith) in omega arith

pub bucket_whole : (m b : ℕ) → b < 256 → places m * b + places m ≤ 256 * places m
bucket_whole m b h = let k : m / 6400 * b ≤ m / 6400 * 255 = mul-le-mul_left (m / 6400) (omega arith) in omega arith

pub buckets_apart : (k a b : ℕ) → a < b → k * a + k ≤ k * b
buckets_apart k a b h = let e : k * suc a ≤ k * b = mul-le-mul_left k (omega arith) in omega (arith, mul-suc k a)

pub in_bucket : (index score : Bytes) → get_or score 0 0 < 256
    → ((bucket_of index score).from ≤ (bucket_of index score).to) × (25 * (bucket_of index score).to ≤ length index) × ((bucket_of index score).to ≤ 256 * places (length index))
unfolding bucket_of
in_bucket index score h = (omega arith, bucket_fits (length index) (get_or score 0 0) h, bucket_whole (length index) (get_or score 0 0) h)

module _ (index : Bytes) where
  pub free-range : (k p : ℕ) → (p ≤ first_free index k p) × (first_free index k p ≤ p + k)
  unfolding first_free
  free-range zero p = (omega arith, omega arith)
  free-range (suc k) p =
      let r = free-range k (suc p) in
      cond_ind (λ (x : ℕ). (p ≤ x) × (x ≤ p + suc k)) (free index p) p (first_free index k (suc p))
      (λ _. (omega arith, omega arith))
      (λ _. (omega (arith, r.0), omega (arith, r.1)))

  -- what is found is free
  pub free-found : (k p : ℕ) → first_free index k p < p + k → free index (first_free index k p) ≡ true
  unfolding first_free
  free-found zero p h = absurd (omega arith)
  free-found (suc k) p h =
      cond_ind (λ (x : ℕ). x < p + suc k → free index x ≡ true) (free index p) p (first_free index k (suc p))
      (λ q _. q)
      (λ _ g. free-found k (suc p) (omega arith))
      h

  -- the first j places taken, the next one free
  pub free-after : (j k p : ℕ) → ((i : ℕ) → i < j → free index (p + i) ≡ false) → j < k → free index (p + j) ≡ true → first_free index k p ≡ p + j
  unfolding first_free
  free-after j zero p f h t = absurd (omega arith)
  free-after zero (suc k) p f h t =
      let z : p ≡ p + 0 = omega arith in
      rw (ap (free index) z ∙ t) z
  free-after (suc j) (suc k) p f h t =
      let z : p ≡ p + 0 = omega arith in
      let n : suc p + j ≡ p + suc j = omega arith in
      rw (ap (free index) z ∙ f 0 (omega arith))
      (free-after j k (suc p) (λ i l. let m : suc p + i ≡ p + suc i = omega arith in ap (free index) m ∙ f (suc i) (omega arith)) (omega arith) (ap (free index) n ∙ t) ∙ n)
