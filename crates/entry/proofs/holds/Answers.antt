use Prim.Native.Nat.{◌*◌, ◌-◌, ◌^◌, ◌≤◌}
use mathlib.Core.Path.{◌≡◌}
use native.Mathlib.Omega.{arith}
use Rattle.entry.proofs.Room.{room-start, room_next, room_within, room_passed, room-end}
use Rattle.entry.proofs.holds.Goals as goal

pub loop-level-init : goal.loop-level-init
loop-level-init c =
    let a = c.args in
    room-start a.dsize a.p

pub overflow_mul-product : goal.overflow_mul-product
overflow_mul-product c =
    let a = c.args in
    let l = c.loop-level in
    omega (arith, room_within a.size a.dsize a.p a.depth l._level l.product c.requires l.invariant c.if-product-limit.true)

pub loop-level-preserved : goal.loop-level-preserved
loop-level-preserved c =
    let a = c.args in
    let l = c.loop-level in
    room_next a.size a.dsize a.p a.depth l._level l.product c.requires l.invariant

pub returns-else-product-limit : goal.returns-else-product-limit
returns-else-product-limit c =
    let a = c.args in
    let l = c.loop-level in
    room_passed a.size a.dsize a.p a.depth l._level l.product c.requires l.invariant c.loop-level-test.true c.if-product-limit.false

pub returns : goal.returns
returns c =
    let a = c.args in
    let l = c.loop-level in
    room-end a.size a.dsize a.p a.depth l._level l.product c.requires l.invariant (omega arith)
