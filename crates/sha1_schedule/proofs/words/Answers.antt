use mathlib.Core.Path.{◌≡◌, refl, sym, ◌∙◌}
use Prim.Native.Nat.{◌≤◌, ◌-◌}
use native.Mathlib.Omega.{arith}
use lib.ListN.{length, take, length-set}
use lib.Seq.{take_all}
use Rattle.sha1_schedule.specs.Schedule.{words_of}
use Rattle.sha1_schedule.proofs.Schedule.{word_more}
use Rattle.sha1_schedule.proofs.words.Goals as goal

pub loop-i-init : goal.loop-i-init
unfolding words_of
loop-i-init c = refl

pub loop-i-preserved : goal.loop-i-preserved
loop-i-preserved c = let l = c.loop-i in word_more _ _ _ _ (omega arith) c.word_at.ensures l.invariant

pub returns : goal.returns
returns c = let l = c.loop-i in let e : l.i ≡ 16 = omega arith in sym (take_all 16 l.x-items (omega arith)) ∙ rw e at l.invariant
