use mathlib.Core.Path.{sym}
use native.Mathlib.Omega.{arith}
use lib.Seq.{length-take-le}
use Rattle.report.proofs.Answer.{written-fits}
use Rattle.report_blank.proofs.main.Goals as goal

pub slice_bounds-text-end : goal.slice_bounds-text-end
slice_bounds-text-end c = written-fits _ _ _ _ _ c.report.ensures c.in-Ok.is (omega arith)

pub slice_bounds-write_all-end : goal.slice_bounds-write_all-end
slice_bounds-write_all-end c =
    sym (length-take-le _ _ (written-fits _ _ _ _ _ c.report.ensures c.in-Ok.is (omega arith)))
