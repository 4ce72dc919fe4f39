-- One turn of each loop, and its end: what is left to test still makes the whole.
use mathlib.Core.Path.{◌≡◌, sym, ap, ◌∙◌}
use mathlib.Core.Bool.{Bool, true, false, ◌&&◌}
use mathlib.Core.List.{◌++◌}
use Prim.Native.Nat.{ℕ, zero, suc, ◌+◌, ◌-◌, ◌≤◌, ◌<◌}
use native.Mathlib.Numerals.{add-one}
use native.Mathlib.Omega.{arith}
use lib.ListN.{length, take}
use Rattle.buffer.specs.Bytes.{Bytes, same}
use Rattle.sector.specs.Sector.{label_of, front_of, dated_label, label_length}
use Rattle.block.specs.Block.{label_at}
use Rattle.block.specs.Log.{at}

-- ---- a test of each of k numbers from i on

module _ (F : ℕ → ℕ → Bool) (T : ℕ → Bool) (one : (k i : ℕ) → F (suc k) i ≡ (T i && F k (suc i))) (k i : ℕ) (h : i < k) where
  all_first : F (k - i) i ≡ (T i && F (k - (i + 1)) (i + 1))
  all_first =
      let s : k - i ≡ suc (k - (i + 1)) = omega arith in
      ap (λ (m : ℕ). F m i) s ∙ one (k - (i + 1)) i ∙ ap (λ (m : ℕ). T i && F (k - (i + 1)) m) (sym (add-one i))

  pub all_turn : T i ≡ true → F (k - (i + 1)) (i + 1) ≡ F (k - i) i
  all_turn e = sym (all_first ∙ ap (λ (b : Bool). b && F (k - (i + 1)) (i + 1)) e)

  pub all-stop : T i ≡ false → F (k - i) i ≡ false
  all-stop e = all_first ∙ ap (λ (b : Bool). b && F (k - (i + 1)) (i + 1)) e

pub all_end : (F : ℕ → ℕ → Bool) → ((i : ℕ) → F zero i ≡ true) → (k i : ℕ) → k ≤ i → F (k - i) i ≡ true
all_end F none k i h = let z : k - i ≡ 0 = omega arith in ap (λ (m : ℕ). F m i) z ∙ none i

-- ---- the label of one part

abbrev pub label_test : Bytes → Bytes → ℕ → ℕ → ℕ → ℕ → Bytes → ℕ → Bool
label_test log date of first kind size score i = same (take (label_length date) (at log (first + i))) (dated_label date (label_at of first i kind size) score)

-- the test of sector s with the front and the label that the code makes
pub label-tested : (log date score s front : Bytes) (of first kind size i : ℕ) (r : Bool) → front_of date ≡ front → s ≡ at log (first + i)
    → r ≡ same (take (length front + 96) s) (front ++ label_of (label_at of first i kind size) score)
    → label_test log date of first kind size score i ≡ r
label-tested log date score s front of first kind size i r f e q = rw (q, f, e)
