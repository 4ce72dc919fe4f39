use mathlib.Core.Path.{sym}
use lib.Seq.{length-take-le}
use Rattle.report_main.specs.Printed.{printed}
use Rattle.report.proofs.Answer.{front_fits}
use Rattle.report_main.proofs.main.Goals as goal

pub slice_bounds-text-end : goal.slice_bounds-text-end
slice_bounds-text-end c =
    let a = c.answer-end in
    front_fits _ (printed _) _ _ a.ensures.0 a.ensures.1

pub slice_bounds-write_all-end : goal.slice_bounds-write_all-end
slice_bounds-write_all-end c =
    let a = c.answer-end in
    sym (length-take-le _ _ (front_fits _ (printed _) _ _ a.ensures.0 a.ensures.1))
