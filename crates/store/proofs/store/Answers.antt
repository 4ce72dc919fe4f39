use mathlib.Core.Path.{sym, ◌∙◌}
use native.Mathlib.Omega.{arith}
use lib.Seq.{length-take-le}
use Rattle.block.specs.Log.{joined}
use Rattle.block.proofs.Used.{used_le_sectors}
use Rattle.block.proofs.Joined.{sectors-joined}
use Rattle.lookup.proofs.Both.{used-before}
use Rattle.sector_log.specs.Parts.{beside}
use Rattle.store.proofs.Outcomes.{found_within, store_found, store-new}
use Rattle.store.proofs.store.Goals as goal

pub slice_bounds-used_part-end : goal.slice_bounds-used_part-end
slice_bounds-used_part-end c =
    let border = c.border-end in
    sym (length-take-le _ _ (omega (arith, border.ensures.within)))

pub append_new-stored-requires : goal.append_new-stored-requires
append_new-stored-requires c =
    let border = c.border-end in
    let a = c.args in
    let pre = c.requires in
    let used = c.used_part-used.ensures ∙ used-before a.log.now a.waiting.now border.result.0 border.ensures.within border.ensures.alike in
    (pre.0, pre.1, c.sha1-score.ensures, omega (arith, used, used_le_sectors a.log.now, border.ensures.within))

pub returns-in_default : goal.returns-in_default
returns-in_default c =
    let border = c.border-end in
    let here = c.side_by_side.ensures in
    let found = rw (here.end, here.log, here.waiting) at c.find_held.ensures in
    let a = c.args in
    let used = c.used_part-used.ensures ∙ used-before a.log.now a.waiting.now border.result.0 border.ensures.within border.ensures.alike in
    store-new a.log.now a.waiting.now _ a.kind a.date.now a.«data».now _ _ _ border.ensures.alike c.sha1-score.ensures found _
    c.in_default.is
    (c.append_new-stored.ensures a.log.now (omega arith) (sym used))

pub compare-stored-requires : goal.compare-stored-requires
compare-stored-requires c = let args = c.args in
    let border-here = c.border-end in
    let here = c.side_by_side.ensures in
    let there = c.side_by_side-2.ensures in
    let found = rw (here.end, here.log, here.waiting) at c.find_held.ensures in
    let border = border-here in
    let a = args in
    let J = joined border.result.0 a.log.now a.waiting.now in rw (there.end, there.log, there.waiting) (
      border.ensures.within,
      found_within J a.kind _ _ _ _ found c.in-Some.is
          (sectors-joined border.result.0 a.log.now a.waiting.now border.ensures.within),
    )

pub returns : goal.returns
returns c =
    let here = c.side_by_side.ensures in
    let there = c.side_by_side-2.ensures in
    let found = rw (here.end, here.log, here.waiting) at c.find_held.ensures in
    let border = c.border-end in
    let a = c.args in
    store_found a.log.now a.waiting.now _ a.kind a.date.now a.«data».now _ _ _ border.ensures.alike c.sha1-score.ensures found _
    c.in-Some.is
    (rw (there.end, there.log, there.waiting) at (c.compare-stored.ensures (beside a.log.now a.waiting.now)))
