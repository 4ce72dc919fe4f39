use Prim.Native.Nat.{◌+◌, ◌-◌}
use native.Mathlib.Omega.{arith}
use Rattle.sha1_block.specs.Block.{schedule_of}
use Rattle.sha1_block.specs.Rounds.{RoundsDone}
use Rattle.sha1_schedule.proofs.Schedule.{ring_move}
use Rattle.sha1_block.proofs.Turns.{round_more}
use Rattle.sha1_block.proofs.turn.Goals as goal

pub returns : goal.returns
unfolding RoundsDone
returns c =
    let a = c.args in
    let x = c.latest-x.result in
    λ m h p. let l = c.latest-x.ensures m p.0 in (
      ring_move m _ a.t (a.t + 1 - 1) (omega arith) l.0,
      round_more (schedule_of 64 m) h a.s c.round.result a.t a.q x (omega arith) l.1 p.1 c.round.ensures,
    )
