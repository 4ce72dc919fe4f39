use Rattle.sha1_block.specs.Rounds.{RoundsDone}
use Rattle.sha1_block.proofs.rounds.Goals as goal

pub returns : goal.returns
unfolding RoundsDone
returns c = let a = c.args in
    let first-rounds = c.first_rounds-s in
    let quarter = c.quarter-s0 in
    let quarter2 = c.quarter-s1 in
    let h = a.h in
    λ m r. let s = first-rounds.ensures m r in
    c.quarter.ensures m h (c.quarter-s2.ensures m h (quarter2.ensures m h (quarter.ensures m h (r, s))))
