use native.Mathlib.Omega.{arith}
use borrow.Author.Tests.{not-true, not-false}
use Rattle.report.proofs.Printed.{report_buffer, report_log, report_room, report_written}
use Rattle.report.proofs.report.Goals as goal

-- `report::report` meets its contract: refused for the buffer, refused for the log, or written.
pub returns-then-buffer-lt128 : goal.returns-then-buffer-lt128
returns-then-buffer-lt128 c =
    let a = c.args in
    report_buffer a.log.now a.buffer.now (omega (arith, c.if-buffer-lt128.true))

pub returns-then-not-is_allowed : goal.returns-then-not-is_allowed
returns-then-not-is_allowed c =
    let a = c.args in
    report_log a.log.now a.buffer.now (omega (arith, c.if-buffer-lt128.false)) _ c.is_allowed.ensures c.if-not-is_allowed.true

pub scan-s-requires : goal.scan-s-requires
scan-s-requires c = c.used_part-end.ensures

pub write_text-requires : goal.write_text-requires
write_text-requires c =
    let a = c.args in
    let g =
    report_room a.log.now a.buffer.now (omega (arith, c.if-buffer-lt128.false)) _ c.is_allowed.ensures
    c.used_part-end.result.0 c.scan-s.result c.if-not-is_allowed.false c.used_part-end.ensures c.scan-s.ensures in
    (g.0, omega (arith, g.1, g.2), omega (arith, g.2), g.3, g.4)

pub returns : goal.returns
returns c = let args = c.args in
    let if1 = c.if-buffer-lt128 in
    let if2 = c.if-not-is_allowed in
    let is-allowed = c.is_allowed in
    let scan = c.scan-s in
    let used-part = c.used_part-end in
    let write-text = c.write_text in
    let a = args in
    report_written a.log.now a.buffer.now (omega (arith, if1.false)) _ is-allowed.ensures _
    used-part.result.0 scan.result write-text.result if2.false
    used-part.ensures scan.ensures write-text.ensures
