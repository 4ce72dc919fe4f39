use mathlib.Core.Path.{◌≡◌}
use lib.ListN.{take}
use Rattle.sha1_schedule.specs.Schedule.{words_of}
use Rattle.sha1_schedule.proofs.words.Given as goal

-- `sha1_schedule::words` meets its contract. The loop's invariant: the first i words are the block's. Assumes nothing.
abbrev pub invariant-loop-i : goal.invariant-loop-i
invariant-loop-i l = take l.i l.x-items ≡ words_of l.i l.b
