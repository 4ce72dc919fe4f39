use native.Mathlib.Omega.{arith}
use Rattle.print.specs.Text.{sectors_name, used_name, records_name, doubtful_name}
use Rattle.print.proofs.Lines.{line-room, line-end, text-written}
use Rattle.print.proofs.write_text.Goals as goal

pub write_line-a-requires : goal.write_line-a-requires
write_line-a-requires c =
    line-room sectors_name 0 c.args.count _ c.requires.1 (omega (arith, c.requires.0))

pub write_line-b-requires : goal.write_line-b-requires
write_line-b-requires c =
    let w1 = c.write_line-a in
    let p1 = line-end sectors_name 0 w1.result c.args.count c.requires.1 w1.ensures.1 in
    line-room used_name w1.result c.args.end _ c.requires.2 (omega (arith, c.requires.0, w1.auto.d))

pub write_line-c-requires : goal.write_line-c-requires
write_line-c-requires c =
    let w1 = c.write_line-a in
    let p1 = line-end sectors_name 0 w1.result c.args.count c.requires.1 w1.ensures.1 in
    let w2 = c.write_line-b in
    let p2 = line-end used_name w1.result w2.result c.args.end c.requires.2 w2.ensures.1 in
    line-room records_name w2.result c.args.s.records _ c.requires.3 (omega (arith, c.requires.0, w1.auto.d, w2.auto.d))

pub write_line-e-requires : goal.write_line-e-requires
write_line-e-requires c =
    let w1 = c.write_line-a in
    let p1 = line-end sectors_name 0 w1.result c.args.count c.requires.1 w1.ensures.1 in
    let w2 = c.write_line-b in
    let p2 = line-end used_name w1.result w2.result c.args.end c.requires.2 w2.ensures.1 in
    let w3 = c.write_line-c in
    let p3 = line-end records_name w2.result w3.result c.args.s.records c.requires.3 w3.ensures.1 in
    line-room doubtful_name w3.result c.args.s.doubtful _ c.requires.4 (omega (arith, c.requires.0, w1.auto.d, w2.auto.d, w3.auto.d))

pub write_verdict-requires : goal.write_verdict-requires
write_verdict-requires c =
    let w1 = c.write_line-a in
    let p1 = line-end sectors_name 0 w1.result c.args.count c.requires.1 w1.ensures.1 in
    let w2 = c.write_line-b in
    let p2 = line-end used_name w1.result w2.result c.args.end c.requires.2 w2.ensures.1 in
    let w3 = c.write_line-c in
    let p3 = line-end records_name w2.result w3.result c.args.s.records c.requires.3 w3.ensures.1 in
    let w4 = c.write_line-e in
    let p4 = line-end doubtful_name w3.result w4.result c.args.s.doubtful c.requires.4 w4.ensures.1 in
    omega (arith, c.requires.0, w1.auto.d, w2.auto.d, w3.auto.d, w4.auto.d)

pub returns : goal.returns
returns c =
    let write-line = c.write_line-a in
    let write-line2 = c.write_line-b in
    let write-line3 = c.write_line-c in
    let write-line4 = c.write_line-e in
    let write-verdict = c.write_verdict in
    text-written c.args.d.now _ _ _ _ _ c.args.count c.args.end c.args.s _ _ _ _ _ c.requires
    write-line.ensures
    write-line2.ensures
    write-line3.ensures
    write-line4.ensures
    write-verdict.ensures
