-- A pair of blocks: skipped, refused, not read, or what is below it.
use mathlib.Core.Path.{◌≡◌, sym, ap, ◌∙◌}
use mathlib.Core.Bool.{true, false}
use Prim.Native.Nat.{ℕ, zero, suc, ◌+◌, ◌-◌, ◌≤◌, ◌<◌}
use native.Mathlib.Omega.{arith}
use lib.ListN.{length}
use borrow.Author.Tests.{lt-ltb, le-ltb, eq-eqb, ne_eqb}
use Rattle.buffer.specs.Bytes.{Bytes, same}
use Rattle.refusal.specs.declared.Refusal.{Refusal}
use Rattle.refusal.specs.declared.Refusal.TheVariants.{Nest, Spent}
use Rattle.block.specs.declared.Block.{Block}
use Rattle.block.specs.Log.{sectors, joined, bytes_of}
use Rattle.entry.specs.declared.Entry.{Entry}
use Rattle.visit.proofs.Visits.{in_both}
use Rattle.pair.specs.Opened.{opened, place_at}
use Rattle.pair.proofs.Opened.{OpenedAt, refused-at, goes_on_lem, in_log, not_many, whole-scores}
use Rattle.comparison.specs.declared.Compared.{Compared}
use Rattle.comparison.specs.Compared.{none, refused, one_unit}
use Rattle.comparison.specs.Compare.{spending, pair_by, compare_blocks, compare_below}
use Rattle.open_pair.specs.Lies.{Lies}
use Rattle.open_pair.specs.Opens.{OfBlocks}
use Rattle.std.specs.Prelude.{Err}

-- ---- what is spent

nest_over : (nest left : ℕ) (c : Compared) → 16 < nest → spending nest left c ≡ refused Nest
unfolding spending
nest_over nest left c h = rw (lt-ltb 16 nest h)

module _ (nest left : ℕ) (c : Compared) (h : nest ≤ 16) where
  spent_out : left ≡ 0 → spending nest left c ≡ refused Spent
  unfolding spending
  spent_out z = rw (le-ltb 16 nest h, eq-eqb left 0 z)

  one-spent : (left ≡ 0 → ⊥) → spending nest left c ≡ one_unit c
  unfolding spending
  one-spent p = rw (le-ltb 16 nest h, ne_eqb left 0 p)

-- ---- by the program's tests

module _ (log : Bytes) (e : Entry) (level nest : ℕ) (s t : Bytes) (left : ℕ) where
  by_pair : (v : Compared) → ((g : ℕ) → left ≤ g → v ≡ pair_by (λ e l n s t a. compare_blocks g log e l n s t a) log e level nest s t left) → OfBlocks log e level nest s t left v
  unfolding compare_blocks
  by_pair v k zero h = absurd (omega arith)
  by_pair v k (suc f) h = k f (omega arith)

  pub equal-scores : same s t ≡ true → OfBlocks log e level nest s t left none
  equal-scores q = by_pair none (λ g h. rw q)

  module _ (q : same s t ≡ false) where
    pub too_deep : 16 < nest → OfBlocks log e level nest s t left (refused Nest)
    too_deep n = by_pair (refused Nest) (λ g h. rw q (sym (nest_over nest left _ n)))

    module _ (n : nest ≤ 16) where
      pub nothing_left : left ≡ 0 → OfBlocks log e level nest s t left (refused Spent)
      nothing_left z = by_pair (refused Spent) (λ g h. rw q (sym (spent_out nest left _ n z)))

      module _ (p : left ≡ 0 → ⊥) where
        spends : (v : Compared) → ((g : ℕ) → left ≤ g → v ≡ opened log e level s refused (λ b. opened log e level t refused (λ c. compare_below g log e level nest b c (left - 1))))
            → OfBlocks log e level nest s t left (one_unit v)
        spends v k = by_pair (one_unit v) (λ g h. rw q (ap one_unit (k g h) ∙ sym (one-spent nest left _ n p)))

        pub first-not-read : (w : Refusal) → place_at log e level s ≡ Err w → OfBlocks log e level nest s t left (one_unit (refused w))
        first-not-read w d = spends (refused w) (λ g h. refused-at log e level s w d refused _)

        module _ {x : Block} (O : OpenedAt log e level s x) where
          pub second-not-read : (w : Refusal) → place_at log e level t ≡ Err w → OfBlocks log e level nest s t left (one_unit (refused w))
          second-not-read w d =
              spends (refused w)
              (λ g h. refused-at log e level t w d refused _ ∙ goes_on_lem O refused (λ b. opened log e level t refused (λ c. compare_below g log e level nest b c (left - 1))))

          pub both_read : {y : Block} → OpenedAt log e level t y → (v : Compared)
              → ((g : ℕ) → left - 1 < g → v ≡ compare_below g log e level nest (bytes_of log x) (bytes_of log y) (left - 1))
              → OfBlocks log e level nest s t left (one_unit v)
          both_read O' v k =
              spends v
              (λ g h. k g (omega arith)
              ∙ goes_on_lem O' refused (λ c. compare_below g log e level nest (bytes_of log x) c (left - 1))
              ∙ goes_on_lem O refused (λ b. opened log e level t refused (λ c. compare_below g log e level nest b c (left - 1))))

-- ---- where blocks lie

pub lies : (u : ℕ) (log waiting : Bytes) → u ≤ sectors (length log) → {e : Entry} {level : ℕ} {score : Bytes} {b : Block}
    → OpenedAt (joined u log waiting) e level score b → Lies level b (u + sectors (length waiting))
lies u log waiting h {b = b} O = record { before = in_both u log waiting h b (in_log O); not_many = not_many O; full-scores = whole-scores O }
