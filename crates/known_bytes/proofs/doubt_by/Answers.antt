use Rattle.known_bytes.proofs.Numbers.{clear_by, at_by}
use Rattle.known_bytes.proofs.doubt_by.Goals as goal

-- `known_bytes::doubt_by` meets its contract.
pub returns-then-n-eq0 : goal.returns-then-n-eq0
returns-then-n-eq0 c =
    let if1 = c.if-n-eq0 in
    clear_by _ if1.true

pub returns : goal.returns
returns c =
    let if1 = c.if-n-eq0 in
    at_by _ if1.false
