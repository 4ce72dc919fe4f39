-- A tree beside itself: nothing is read.
use borrow.Author.Tests.{le-ltb}
use Rattle.walk.specs.Walk.{most_allowance}
use Rattle.verdict.proofs.Verdicts.{equal_skip}
use Rattle.comparison.specs.Differences.{differences_in}
use Rattle.compare_laws.specs.Equal.{EqualIsNone}

pub equal-is-none : EqualIsNone
unfolding differences_in
equal-is-none log waiting x allowance l a d = rw (l, le-ltb most_allowance allowance a, d, equal_skip x)
