use lib.ListN.{length}
use Rattle.known.specs.Known.{can_settle_known, settled_known}
use Rattle.known.proofs.Belongs.{belongs-within}
use Rattle.known_store.proofs.settle_known.Goals as goal

-- `known_store::settle_known` meets its contract.
pub move_behind-requires : goal.move_behind-requires
move_behind-requires c =
    let a = c.args in
    let q = c.requires in
    let b = belongs-within a.known (length a.log.now) (length a.waiting.now) q in
    (b.0, b.1)

pub returns : goal.returns
unfolding can_settle_known settled_known
returns c =
    let move-behind = c.move_behind in record { fits = move-behind.ensures.fits; lent = move-behind.ensures.lent }
