use Rattle.writer.proofs.Depth.{dsize-under, dsize-over, psize-under, psize-over, sizes_in}
use Rattle.depth.proofs.depth_of.Goals as goal

pub returns-then-dsize-lt1 : goal.returns-then-dsize-lt1
returns-then-dsize-lt1 c = dsize-under (c.args.n) (c.args.dsize) (c.args.psize) (c.if-dsize-lt1.true)

pub returns-then-dsize-gt-LONGEST : goal.returns-then-dsize-gt-LONGEST
returns-then-dsize-gt-LONGEST c = dsize-over (c.args.n) (c.args.dsize) (c.args.psize) (c.if-dsize-lt1.false) (c.if-dsize-gt-LONGEST.true)

pub returns-then-psize-lt40 : goal.returns-then-psize-lt40
returns-then-psize-lt40 c = let a = c.args in
    psize-under a.n a.dsize a.psize (c.if-dsize-lt1.false) (c.if-dsize-gt-LONGEST.false) (c.if-psize-lt40.true)

pub returns-then-psize-gt-LONGEST : goal.returns-then-psize-gt-LONGEST
returns-then-psize-gt-LONGEST c = let a = c.args in
    let if1 = c.if-dsize-lt1 in
    psize-over a.n a.dsize a.psize if1.false (c.if-dsize-gt-LONGEST.false) (c.if-psize-lt40.false) (c.if-psize-gt-LONGEST.true)

pub returns : goal.returns
returns c = let a = c.args in
    let if1 = c.if-dsize-lt1 in
    let if2 = c.if-dsize-gt-LONGEST in
    sizes_in a.n a.dsize a.psize if1.false if2.false (c.if-psize-lt40.false) _ (c.if-psize-gt-LONGEST.false) (c.least_depth.ensures)
