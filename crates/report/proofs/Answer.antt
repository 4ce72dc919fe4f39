-- What a caller of the report with room for it learns from either answer.
use mathlib.Core.Path.{◌≡◌, refl, sym, ap, ◌∙◌}
use mathlib.Core.Bool.{Bool, true, false}
use mathlib.Core.List.{◌++◌}
use Prim.Native.Nat.{ℕ, ◌+◌, ◌≤◌}
use native.Mathlib.Omega.{arith}
use borrow.Author.Tests.{le-ltb}
use lib.ListN.{length, drop, length-append}
use Rattle.buffer.specs.Bytes.{Bytes, put}
use Rattle.refusal.specs.declared.Refusal.{Refusal}
use Rattle.refusal.specs.declared.Refusal.TheVariants.{LogLength}
use Rattle.sector_log.specs.LookUp.{log_allowed}
use Rattle.report.specs.Report.{report_text, ReportOutcome, report_outcome, report_of}
use Rattle.std.specs.Prelude.{Ok, Err, Result}

module _ (log b e : Bytes) (r : Result ℕ Refusal) (h : 128 ≤ length b) (q : report_outcome r e ≡ report_of log b) where
  allowed : log_allowed (length log) ≡ true → report_outcome r e ≡ report_outcome (Ok (length (report_text log))) (put b 0 (report_text log))
  unfolding report_of
  allowed t = rw (le-ltb (length b) 128 h, t) at q

  barred : log_allowed (length log) ≡ false → report_outcome r e ≡ report_outcome (Err LogLength) b
  unfolding report_of
  barred t = rw (le-ltb (length b) 128 h, t) at q

  pub if_written : (n : ℕ) → r ≡ Ok n → (log_allowed (length log) ≡ true) × (e ≡ put b 0 (report_text log)) × (n ≡ length (report_text log))
  if_written n w = go (log_allowed (length log)) refl
    where
      go : (t : Bool) → log_allowed (length log) ≡ t → (log_allowed (length log) ≡ true) × (e ≡ put b 0 (report_text log)) × (n ≡ length (report_text log))
      go true p =
          let a : ◌≡◌ {A = Result ℕ Refusal} (Ok n) (Ok (length (report_text log))) = sym w ∙ ap (λ (o : ReportOutcome). o.answer) (allowed p) in
          (p, ap (λ (o : ReportOutcome). o.buffer) (allowed p), cc)
      go false p =
          let a : ◌≡◌ {A = Result ℕ Refusal} (Ok n) (Err LogLength) = sym w ∙ ap (λ (o : ReportOutcome). o.answer) (barred p) in
          let z : ◌≡◌ {A = ℕ} 0 1 = cc in
          absurd (omega arith)

  pub if_refused : (w : Refusal) → r ≡ Err w → (log_allowed (length log) ≡ false) × (e ≡ b)
  if_refused w v = go (log_allowed (length log)) refl
    where
      go : (t : Bool) → log_allowed (length log) ≡ t → (log_allowed (length log) ≡ false) × (e ≡ b)
      go true p =
          let a : ◌≡◌ {A = Result ℕ Refusal} (Err w) (Ok (length (report_text log))) = sym v ∙ ap (λ (o : ReportOutcome). o.answer) (allowed p) in
          let z : ◌≡◌ {A = ℕ} 0 1 = cc in
          absurd (omega arith)
      go false p = (p, ap (λ (o : ReportOutcome). o.buffer) (barred p))

-- what stands at the front of a buffer fits in it
pub front_fits : (e x rest : Bytes) (r : ℕ) → e ≡ x ++ rest → r ≡ length x → r ≤ length e
front_fits e x rest r p q = omega (arith, ap length p, length-append x rest)

pub written-fits : (log b e : Bytes) (r : Result ℕ Refusal) (n : ℕ) → report_outcome r e ≡ report_of log b → r ≡ Ok n → 128 ≤ length b → n ≤ length e
written-fits log b e r n q w h = let g = if_written log b e r h q n w in front_fits e (report_text log) (drop (0 + length (report_text log)) b) n g.1 g.2
