use mathlib.Core.Path.{refl}
use native.Mathlib.Omega.{arith}
use Rattle.card.proofs.Parts.{byte-here, byte-on, byte-none}
use Rattle.card.proofs.byte_from.Goals as goal

pub loop-i-init : goal.loop-i-init
loop-i-init c = refl

pub returns-then-s-i : goal.returns-then-s-i
returns-then-s-i c =
    let l = c.loop-i in
    let a = c.args in
    (omega (arith, l.invariant, byte-here a.byte a.s.now l.i (omega arith) c.if-s-i.true), omega arith)

pub loop-i-preserved : goal.loop-i-preserved
loop-i-preserved c =
    let l = c.loop-i in
    let a = c.args in
    omega (arith, l.invariant, byte-on a.byte a.s.now l.i (omega arith) c.if-s-i.false)

pub returns : goal.returns
returns c =
    let l = c.loop-i in
    let a = c.args in
    (omega (arith, l.invariant, byte-none a.byte a.s.now l.i (omega arith)), omega arith)
