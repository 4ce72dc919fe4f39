use Prim.Native.Nat.{◌-◌}
use native.Mathlib.Omega.{arith}
use Rattle.writer.proofs.Depth.{Seeking, seeking_start, seeking_found, seeking_next, seeking_none, room_fits}
use Rattle.depth.proofs.least_depth.Goals as goal

pub loop-d-init : goal.loop-d-init
loop-d-init c = seeking_start (c.args.n) (c.args.dsize) (c.args.p)

pub returns-then-n-room : goal.returns-then-n-room
returns-then-n-room c = let a = c.args in
    let l = c.loop-d in
    seeking_found a.n a.dsize a.p l.room l.d l.invariant (c.loop-d-test.true) ((omega (arith, c.if-n-room.true)))

pub overflow_mul-room : goal.overflow_mul-room
overflow_mul-room c = let a = c.args in
    let given = c.requires in
    omega (arith, room_fits a.n a.dsize a.p (c.loop-d.room) ((omega (arith, c.if-n-room.false))) given.0 given.2)

pub loop-d-preserved : goal.loop-d-preserved
loop-d-preserved c = let a = c.args in
    let l = c.loop-d in
    let given = c.requires in
    seeking_next a.n a.dsize a.p l.room l.d given.1 l.invariant (c.loop-d-test.true) ((omega (arith, c.if-n-room.false)))

pub returns : goal.returns
returns c = let a = c.args in
    let l = c.loop-d in
    seeking_none a.n a.dsize a.p l.room l.d l.invariant (c.loop-d-test.false)
