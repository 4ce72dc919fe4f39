-- A report's outcome and a sound block's size in numbers: both are small, and each case of the calls.
use mathlib.Core.Path.{◌≡◌, refl, sym, ap, ◌∙◌}
use mathlib.Core.Bool.{Bool, true, false}
use mathlib.Core.List.{[], ◌∷◌}
use Prim.Native.Nat.{ℕ, ◌+◌, ◌*◌, ◌/◌, ◌≤◌}
use native.Mathlib.Omega.{arith}
use lib.Dec.{ltb}
use lib.ListN.{length, replicate, length-append}
use Rattle.bedrock.proofs.Choices.{cond_ind}
use Rattle.buffer.specs.Bytes.{Bytes}
use Rattle.refusal.specs.Number.{number_of}
use Rattle.refusal.specs.declared.Refusal.TheVariants.{LogLength}
use Rattle.sector.specs.Sector.{line, lines}
use Rattle.block.specs.declared.Block.{Block}
use Rattle.reader.specs.Reader.{placed}
use Rattle.lookup.proofs.Outcomes.{placed-some, placed-none}
use Rattle.block.specs.Log.{used, sound}
use Rattle.block.proofs.Apart.{none-past}
use Rattle.block.proofs.Used.{used_le_sectors}
use Rattle.sector_log.specs.LookUp.{log_allowed}
use Rattle.survey.specs.Survey.{survey_of}
use Rattle.print.specs.Text.{sectors_name, used_name, records_name, doubtful_name, verdict_name, decimal, verdict, text_of}
use Rattle.print.proofs.Lines.{verdict-length, line-short}
use Rattle.report.specs.Report.{report_text, ReportOutcome, report_outcome, report_of}
use Rattle.report.proofs.Printed.{report_room}
use Rattle.survey_calls.specs.Survey.{report_number, text_length, reported, report_result, sound_result}
use Rattle.std.specs.Prelude.{Some, None, Result, Option as Optional}
use Rattle.refusal.specs.declared.Refusal.{Refusal}

-- ---- the report

five_length : (a b c d e : Bytes) → length (lines (a ∷ b ∷ c ∷ d ∷ e ∷ [])) ≡ length a + (length b + (length c + (length d + (length e + 0))))
five_length a b c d e = simp length-append

text-short : (log : Bytes) → log_allowed (length log) ≡ true → length (report_text log) ≤ 128
unfolding report_text text_of
text-short log q =
    let s = survey_of log in
    let h = report_room log (replicate 128 0) (omega arith) true (sym q) (used log) s refl refl refl in
    let a = line-short sectors_name (length log / 512) h.1 in
    let b = line-short used_name (used log) h.2 in
    let c = line-short records_name s.records h.3 in
    let d = line-short doubtful_name s.doubtful h.4 in
    let e = verdict-length s.doubtful in
    let all = five_length (line sectors_name (decimal (length log / 512))) (line used_name (decimal (used log))) (line records_name (decimal s.records))
    (line doubtful_name (decimal s.doubtful)) (line verdict_name (verdict s.doubtful)) in
    omega (arith, all)

told-short : (log b : Bytes) → text_length (report_of log b).answer ≤ 128
unfolding report_of
told-short log b =
    cond_ind (λ (o : ReportOutcome). text_length o.answer ≤ 128) (ltb (length b) 128) _ _ (λ _. omega arith)
    (λ _. cond_ind (λ (o : ReportOutcome). text_length o.answer ≤ 128) (log_allowed (length log)) _ _ (λ q. text-short log q) (λ _. omega arith))

pub report_short : (log b e : Bytes) (r : Result ℕ Refusal) → report_outcome r e ≡ report_of log b → text_length r ≤ 128
report_short log b e r q = rw (ap (λ (o : ReportOutcome). o.answer) q) (told-short log b)

pub reported_so : (r : Result ℕ Refusal) (b : Bytes) (o : ReportOutcome) (k : ℕ) → report_outcome r b ≡ o → k ≡ report_number r → reported k b ≡ report_result o
reported_so r b o k e f = ap (λ (x : ℕ). reported x b) f ∙ ap report_result e

-- ---- the sound block at a sector

module _ (log : Bytes) (n : ℕ) (a : Bool) (e : a ≡ log_allowed (length log)) where
  pub sound_barred : a ≡ false → (k : ℕ) → k ≡ number_of LogLength → k ≡ sound_result log n
  unfolding sound_result
  sound_barred q k z = rw (sym e ∙ q) z

  module _ (q : a ≡ true) where
    pub sound-past : length log / 512 ≤ n → 0 ≡ sound_result log n
    unfolding sound_result
    sound-past h = rw (sym e ∙ q, none-past log n (omega (arith, used_le_sectors log))) refl

    pub sound_sized : (p : Optional Block) (b : Block) → p ≡ placed (sound log n) → p ≡ Some b → 256 * b.size ≡ sound_result log n
    unfolding sound_result
    sound_sized p b z g =
        let r = placed-some (sound log n) p b z g in
        rw (sym e ∙ q, r.1) (ap (λ (x : Block). 256 * x.size) r.2)

    pub sound_none : (p : Optional Block) → p ≡ placed (sound log n) → p ≡ None → 0 ≡ sound_result log n
    unfolding sound_result
    sound_none p z g = rw (sym e ∙ q, placed-none (sound log n) p z g) refl
