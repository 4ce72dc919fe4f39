use mathlib.Core.Path.{◌∙◌}
use native.Mathlib.Omega.{arith}
use borrow.Author.Tests.{not-true, not-false}
use Rattle.reader.proofs.Alone.{placed-alone}
use Rattle.lookup.proofs.Outcomes.{block-bounds}
use Rattle.survey_calls.proofs.SurveyLaws.{sound_barred, sound-past, sound_sized, sound_none}
use Rattle.survey_calls.proofs.sound_at.Goals as goal

pub returns-then-not-is_allowed : goal.returns-then-not-is_allowed
returns-then-not-is_allowed c = let args = c.args in
    sound_barred args.log.now args.n _ (c.is_allowed.ensures) c.if-not-is_allowed.true _ (c.number.ensures)

pub returns-then-count-n : goal.returns-then-count-n
returns-then-count-n c = let args = c.args in
    sound-past args.log.now args.n _ (c.is_allowed.ensures) c.if-not-is_allowed.false (omega (arith, c.if-count-n.true))

pub overflow_cast-result-in-Some : goal.overflow_cast-result-in-Some
overflow_cast-result-in-Some c = let args = c.args in
    let sound-at = c.sound_at-place in
    let b = block-bounds args.log.now args.n _ _ (sound-at.ensures ∙ placed-alone args.log.now args.n) (c.in-Some.is) in
    omega (arith, b.1)

pub overflow_mul-result : goal.overflow_mul-result
overflow_mul-result c = let args = c.args in
    let sound-at = c.sound_at-place in
    let b = block-bounds args.log.now args.n _ _ (sound-at.ensures ∙ placed-alone args.log.now args.n) (c.in-Some.is) in
    omega (arith, b.1)

pub returns-in-Some : goal.returns-in-Some
returns-in-Some c = let args = c.args in
    let if1 = c.if-not-is_allowed in
    let is-allowed = c.is_allowed in
    let sound-at = c.sound_at-place in
    sound_sized args.log.now args.n _ is-allowed.ensures if1.false _ _ (sound-at.ensures ∙ placed-alone args.log.now args.n) (c.in-Some.is)

pub returns-in-None : goal.returns-in-None
returns-in-None c = let args = c.args in
    let if1 = c.if-not-is_allowed in
    let is-allowed = c.is_allowed in
    sound_none args.log.now args.n _ is-allowed.ensures if1.false _ (c.sound_at-place.ensures ∙ placed-alone args.log.now args.n)
    (c.in-None.is)
