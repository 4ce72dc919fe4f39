use mathlib.Core.Path.{◌≡◌, refl}
use Prim.Native.Nat.{ℕ, ◌≤◌}
use native.Mathlib.Omega.{arith}
use Rattle.sha1_block.specs.Block.{rounds_of, schedule_of}
use Rattle.sha1_schedule.proofs.Schedule.{ring_at}
use Rattle.sha1_block.proofs.Turns.{round_more}
use Rattle.sha1_block.proofs.first_rounds.Goals as goal

pub loop-x-init : goal.loop-x-init
unfolding rounds_of
loop-x-init c = λ m r. refl

pub loop-x-preserved : goal.loop-x-preserved
loop-x-preserved c =
    let l = c.loop-x in
    let a = c.args in
    let i = l.x-index in
    λ m r. round_more (schedule_of 64 m) a.h l.s c.round-s.result i 0 _ (omega arith)
    (ring_at m a.w.now 15 i i (omega arith) (omega arith) (omega arith) r) (l.invariant m r) c.round-s.ensures

pub returns : goal.returns
returns c =
    let l = c.loop-x in
    let e : l.x-index ≡ 16 = omega arith in
    λ m r. rw e at (l.invariant m r)
