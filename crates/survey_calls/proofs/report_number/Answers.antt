use mathlib.Core.Path.{sym, ap, ◌∙◌}
use native.Mathlib.Omega.{arith}
use Rattle.survey_calls.specs.Survey.{report_number, text_length}
use Rattle.survey_calls.proofs.report_number.Goals as goal

pub overflow_cast-result : goal.overflow_cast-result
overflow_cast-result c = omega (arith, c.requires, ap text_length c.in-Ok.is)

pub overflow_mul-result : goal.overflow_mul-result
overflow_mul-result c = omega (arith, c.requires, ap text_length c.in-Ok.is)

pub returns-in-Ok : goal.returns-in-Ok
returns-in-Ok c = sym (ap report_number c.in-Ok.is)

pub returns-in-Err : goal.returns-in-Err
returns-in-Err c = c.number.ensures ∙ sym (ap report_number c.in-Err.is)
