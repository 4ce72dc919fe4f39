use Rattle.lookup.proofs.Outcomes.{count-refused, count-over, count-found}
use Rattle.index_lookup.proofs.fetch_by.Goals as goal

pub returns-then-count-b : goal.returns-then-count-b
returns-then-count-b c = let a = c.args in
    let look-up-by = c.look_up_by in
    count-over a.count _ _ _ look-up-by.ensures c.in_ok-b.was c.if-count-b.true

pub returns : goal.returns
returns c = let a = c.args in
    let look-up-by = c.look_up_by in
    count-found a.count _ _ _ look-up-by.ensures c.in_ok-b.was c.if-count-b.false
