use Prim.Native.Nat.{◌-◌}
use mathlib.Core.Path.{refl}
use native.Mathlib.Omega.{arith}
use native.Mathlib.Nat.{mod-one}
use lib.ListN.{length}
use Rattle.cut.specs.Cut.{zero_byte}
use Rattle.cut.proofs.Turns.{Cutting, cutting, cut_again, cut_stop, cut_all, byte-zero, byte_other}
use Rattle.cut.proofs.cut_bytes.Goals as goal

pub loop-n-init : goal.loop-n-init
loop-n-init c =
    let a = c.args in
    cutting zero_byte a.b.now (mod-one (length a.b.now))

pub returns-then-b-at-ne0 : goal.returns-then-b-at-ne0
returns-then-b-at-ne0 c =
    let a = c.args in
    let l = c.loop-n in
    cut_stop zero_byte a.b.now 1 l.n refl l.invariant (omega arith)
    (byte_other a.b.now (l.n - 1) (omega (arith, l.invariant.within)) c.if-b-at-ne0.true)

pub loop-n-preserved : goal.loop-n-preserved
loop-n-preserved c =
    let a = c.args in
    let l = c.loop-n in
    cut_again zero_byte a.b.now 1 l.n refl l.invariant (omega arith) (omega arith)
    (byte-zero a.b.now (l.n - 1) (omega (arith, l.invariant.within)) c.if-b-at-ne0.false)

pub returns : goal.returns
returns c =
    let l = c.loop-n in
    cut_all zero_byte c.args.b.now 1 l.n refl l.invariant (omega arith)
