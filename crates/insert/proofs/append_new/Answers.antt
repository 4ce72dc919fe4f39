use mathlib.Core.Path.{◌∙◌}
use native.Mathlib.Omega.{arith}
use Rattle.block.proofs.Used.{used_le_sectors}
use Rattle.insert.proofs.Inserted.{behind-used}
use Rattle.insert.proofs.append_new.Goals as goal

pub append_behind-requires : goal.append_behind-requires
append_behind-requires c =
    let q = c.requires in
    let a = c.args in
    let used-part = c.used_part-waits in
    (q.0, q.1, q.2, q.3, omega (arith, used-part.ensures, used_le_sectors a.waiting.now))

pub returns : goal.returns
returns c =
    let a = c.args in
    let used-part = c.used_part-waits in
    let append-behind = c.append_behind in
    λ log p q.
    append-behind.ensures log p
    ∙ behind-used a.from.0 used-part.result.0 log a.waiting.now a.date.now a.kind (a.«data»).now q used-part.ensures
