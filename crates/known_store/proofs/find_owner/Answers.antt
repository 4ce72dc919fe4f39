use Rattle.known_store.proofs.Found.{owner-known, owner_scan}
use Rattle.known_store.proofs.find_owner.Goals as goal

pub returns-then-known : goal.returns-then-known
returns-then-known c =
    let a = c.args in
    owner-known a.known a.log.now a.waiting.now a.index.now a.kind a.score.now _ c.if-known.true c.find_known.ensures

pub returns : goal.returns
returns c =
    let a = c.args in
    owner_scan a.known a.log.now a.waiting.now a.index.now a.kind a.score.now _ c.if-known.false c.find_held.ensures
