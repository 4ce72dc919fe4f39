use native.Mathlib.Omega.{arith}
use Rattle.report_main.proofs.Printed.{print_long, print_refused, print_report}
use Rattle.report_main.proofs.answer.Goals as goal

pub returns-then-log-gt65024 : goal.returns-then-log-gt65024
returns-then-log-gt65024 c =
    print_long c.args.log.now c.args.d.now _ c.refuse.result (omega (arith, c.if-log-gt65024.true)) c.refuse.ensures

pub returns-in_default : goal.returns-in_default
returns-in_default c =
    print_refused c.args.log.now c.args.d.now _ c.report.result (omega (arith, c.if-log-gt65024.false)) c.requires
    c.report.ensures
    _ _ c.refuse-in_default.result c.in_default.is c.refuse-in_default.ensures

pub returns : goal.returns
returns c =
    print_report c.args.log.now c.args.d.now _ c.report.result (omega
    (arith, c.if-log-gt65024.false)) c.requires c.report.ensures
    _ c.in-Ok.is
