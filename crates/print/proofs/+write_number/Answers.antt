-- `print::write_number` meets its contract: the digits of the tenth, then the last digit.
use native.Mathlib.Omega.{arith}
use Rattle.print.proofs.Lines.{one-room, tenth_room, number-one, number_more}
use Rattle.print.proofs.+write_number.Goals as goal

pub bounds-d-at : goal.bounds-d-at
bounds-d-at t c =
    let a = c.args in
    one-room a.d.now a.at a.n c.if-n-lt10.true c.requires

pub returns-then-n-lt10 : goal.returns-then-n-lt10
returns-then-n-lt10 t c =
    let a = c.args in
    number-one a.d.now a.at a.n c.if-n-lt10.true c.requires

pub write_number-end-requires : goal.write_number-end-requires
write_number-end-requires t c =
    let a = c.args in
    let room = tenth_room a.d.now a.at a.n c.if-n-lt10.false c.requires in
    (omega (arith, c.decreases), omega arith)

pub bounds-d-end : goal.bounds-d-end
bounds-d-end t c =
    let a = c.args in
    let w = c.write_number-end in
    let room = tenth_room a.d.now a.at a.n c.if-n-lt10.false c.requires in
    omega (arith, w.auto.d, w.ensures.1)

pub returns : goal.returns
returns t c =
    let a = c.args in
    let w = c.write_number-end in
    number_more a.d.now _ a.at w.result a.n c.if-n-lt10.false c.requires w.ensures
