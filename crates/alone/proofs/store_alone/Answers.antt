use native.Mathlib.Omega.{arith}
use Rattle.block.specs.Log.{joined}
use Rattle.block.proofs.Joined.{sectors-joined}
use Rattle.sector_log.specs.Parts.{alone}
use Rattle.alone.proofs.Alone.{alone-found, alone-new}
use Rattle.store.proofs.Outcomes.{found_within}
use Rattle.alone.proofs.store_alone.Goals as goal

pub returns-in_default : goal.returns-in_default
returns-in_default c =
    let a = c.args in
    alone-new a.log.now a.kind a.date.now a.«data».now _ _ _ c.sha1-score.ensures c.find_held.ensures _ c.in_default.is c.append_new-stored.ensures

pub compare-stored-requires : goal.compare-stored-requires
compare-stored-requires c =
    let a = c.args in
    let w = a.log.now in
    (omega arith, found_within (joined 0 w w) a.kind _ _ _ _ c.find_held.ensures c.in-Some.is (sectors-joined 0 w w (omega arith)))

pub returns : goal.returns
returns c =
    let a = c.args in
    alone-found a.log.now a.kind a.date.now a.«data».now _ _ _ c.sha1-score.ensures c.find_held.ensures _ c.in-Some.is
    (c.compare-stored.ensures (alone a.log.now))
