use mathlib.Core.Path.{◌≡◌}
use mathlib.Core.List.{List}
use Prim.Native.Nat.{ℕ, ◌≤◌, ◌-◌, ◌+◌, ◌%◌}
use native.Mathlib.Omega.{arith}
use Rattle.sha1_block.specs.declared.Hash.{Hash}
use Rattle.sha1_block.specs.Rounds.{RoundsDone}
use Rattle.sha1_block.proofs.Turns.{after_move}
use Rattle.sha1_block.proofs.quarter.Goals as goal

pub loop-t-init : goal.loop-t-init
loop-t-init c = (omega arith, omega arith, omega arith, λ m h p. p)

pub loop-t-preserved : goal.loop-t-preserved
loop-t-preserved c =
    let l = c.loop-t in (
      omega arith,
      omega arith,
      omega arith,
      λ m h p. after_move m h (l.t + 1 + 1) (l.t + 2) _ _ (omega arith) (c.turn-v.ensures m h (c.turn.ensures m h (l.invariant.3 m h p))),
    )

pub returns : goal.returns
returns c =
    let l = c.loop-t in
    λ m h p. after_move m h l.t c.args.to _ _ (omega arith) (l.invariant.3 m h p)
