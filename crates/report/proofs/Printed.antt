-- The call's outcome, one law for each return.
use mathlib.Core.Path.{◌≡◌, refl, sym, ap, ap₂, ◌∙◌}
use mathlib.Core.Bool.{Bool, true, false}
use mathlib.Core.List.{List}
use mathlib.Core.Option.{Option, none, some}
use Prim.Native.Nat.{ℕ, zero, suc, ◌/◌, ◌≤◌, ◌<◌}
use native.Mathlib.Omega.{arith}
use borrow.Author.Tests.{lt-ltb, le-ltb}
use lib.ListN.{length}
use Rattle.bedrock.specs.Places.{found_from}
use Rattle.buffer.specs.Bytes.{Bytes, put}
use Rattle.refusal.specs.declared.Refusal.TheVariants.{Buffer, LogLength}
use Rattle.block.specs.Block.{Row}
use Rattle.block.specs.Log.{sectors, used, sound}
use Rattle.block.proofs.Used.{used_le_sectors}
use Rattle.sector_log.specs.LookUp.{blocks, in_block, outside, doubtful, most_sectors, log_allowed}
use Rattle.sector_log.proofs.Allowed.{allowed-sectors}
use Rattle.survey.specs.declared.Survey.{Survey}
use Rattle.survey.specs.Survey.{survey_of}
use Rattle.print.specs.Text.{text_of}
use Rattle.report.specs.Report.{report_text, report_outcome, report_of}
use Rattle.std.specs.Prelude.{Ok, Err}

-- no more blocks and no more doubtful sectors than sectors
few_blocks : (log : Bytes) (k n : ℕ) → length (found_from (sound log) k n) ≤ k
unfolding found_from
few_blocks log zero n = omega arith
few_blocks log (suc k) n = go (sound log n) refl (few_blocks log k (suc n))
  where
    go : (o : Option Row) → sound log n ≡ o → length (found_from (sound log) k (suc n)) ≤ k → length (found_from (sound log) (suc k) n) ≤ suc k
    go none q h = rw q (omega arith)
    go (some r) q h = rw q (omega arith)

few_outside : (rows : List Row) (k : ℕ) → outside rows k ≤ k
unfolding outside
few_outside rows zero = omega arith
few_outside rows (suc k) = go (in_block rows k) refl (few_outside rows k)
  where
    go : (b : Bool) → in_block rows k ≡ b → outside rows k ≤ k → outside rows (suc k) ≤ suc k
    go true q h = rw q (omega arith)
    go false q h = rw q (omega arith)

-- ---- the call

module _ (log b : Bytes) where
  pub report_buffer : length b < 128 → report_outcome (Err Buffer) b ≡ report_of log b
  unfolding report_of
  report_buffer h = rw (lt-ltb (length b) 128 h)

  module _ (h : 128 ≤ length b) (a : Bool) (p : a ≡ log_allowed (length log)) where
    pub report_log : a ≡ false → report_outcome (Err LogLength) b ≡ report_of log b
    unfolding report_of
    report_log q = rw (le-ltb (length b) 128 h, sym p ∙ q)

    -- no number is over the most sectors
    pub report_room : (end : ℕ) (s : Survey) → a ≡ true → end ≡ used log → s ≡ survey_of log
        → (128 ≤ length b) × (length log / 512 ≤ most_sectors) × (end ≤ most_sectors) × (s.records ≤ most_sectors) × (s.doubtful ≤ most_sectors)
    unfolding blocks doubtful
    report_room end s q e f =
        let k = allowed-sectors (length log) (sym p ∙ q) in
        let u = used_le_sectors log in
        let r : s.records ≡ length (found_from (sound log) (sectors (length log)) 0) = ap (λ (x : Survey). x.records) f in
        let d : s.doubtful ≡ outside (blocks log) (used log) = ap (λ (x : Survey). x.doubtful) f in
        (h, omega arith, omega arith, omega (arith, few_blocks log (sectors (length log)) 0), omega (arith, few_outside (blocks log) (used log)))

    pub report_written : (c : Bytes) (end : ℕ) (s : Survey) (r : ℕ) → a ≡ true → end ≡ used log → s ≡ survey_of log
        → (c ≡ put b 0 (text_of (length log / 512) end s)) × (r ≡ length (text_of (length log / 512) end s)) → report_outcome (Ok r) c ≡ report_of log b
    unfolding report_of report_text
    report_written c end s r q e f w =
        let t : text_of (length log / 512) end s ≡ report_text log = ap₂ (text_of (length log / 512)) e f in
        rw (le-ltb (length b) 128 h, sym p ∙ q) (λ i. report_outcome (Ok ((w.1 ∙ ap length t) i)) ((w.0 ∙ ap (put b 0) t) i))
