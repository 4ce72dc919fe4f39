use native.Mathlib.Omega.{arith}
use Rattle.sha1_schedule.proofs.Schedule.{made, ring_next}
use Rattle.sha1_schedule.proofs.latest.Goals as goal

pub returns : goal.returns
returns c =
    let a = c.args in
    let x = c.rotate_left-x.result in
    λ m r. let e = made m a.w.now a.t _ _ _ _ x c.rotate_left-x.ensures (omega arith) (omega arith) (omega arith) (omega arith) (omega arith) (omega arith) r in
    (ring_next m a.w.now a.t _ x (omega arith) (omega arith) (omega arith) e r, e)
