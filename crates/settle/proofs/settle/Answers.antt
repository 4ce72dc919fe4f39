use mathlib.Core.Path.{◌∙◌}
use native.Mathlib.Omega.{arith}
use Rattle.block.proofs.Used.{used_le_sectors}
use Rattle.settle.proofs.Moved.{fits-used, moved-used}
use Rattle.settle.proofs.settle.Goals as goal

pub move_behind-requires : goal.move_behind-requires
move_behind-requires c =
    let a = c.args in
    let used-part = c.used_part-used in
    let used-part2 = c.used_part-waits in
    (omega (arith, used-part.ensures, used_le_sectors a.log.now), omega (arith, used-part2.ensures, used_le_sectors a.waiting.now))

pub returns : goal.returns
returns c =
    let a = c.args in
    let used-part = c.used_part-used in
    let used-part2 = c.used_part-waits in
    let move-behind = c.move_behind in
    let u = used-part.result.0 in
    let n = used-part2.result.0 in record { fits = move-behind.ensures.fits ∙ fits-used u n a.log.now a.waiting.now used-part.ensures used-part2.ensures; lent = move-behind.ensures.lent ∙ moved-used u n a.log.now a.waiting.now used-part.ensures used-part2.ensures }
