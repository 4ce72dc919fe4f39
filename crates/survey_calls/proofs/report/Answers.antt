use Rattle.survey_calls.proofs.SurveyLaws.{report_short, reported_so}
use Rattle.survey_calls.proofs.report.Goals as goal

pub report_number-requires : goal.report_number-requires
report_number-requires c = report_short _ _ _ c.report.result c.report.ensures

pub returns : goal.returns
returns c = reported_so c.report.result _ _ c.report_number.result c.report.ensures c.report_number.ensures
