use mathlib.Core.Path.{ap, ◌∙◌}
use Prim.Native.Nat.{◌-◌}
use native.Mathlib.Omega.{arith}
use lib.ListN.{length}
use Rattle.sector_lines.proofs.Written.{front-written}
use Rattle.sector.proofs.Dates.{length-date}
use Rattle.sector_lines.proofs.write_front.Goals as goal

pub shape_of-d : goal.shape_of-d
shape_of-d c = let a = c.args in
    let copy_at = c.copy_at in
    let given = c.requires in
    ap length (front-written a.d.now _ _ a.date.now given.0 given.1 copy_at.ensures (c.copy_at-2.ensures))
    ∙ omega (arith, given.0, given.1, length-date a.date.now)

pub returns : goal.returns
returns c = let a = c.args in
    let copy_at = c.copy_at in
    let given = c.requires in
    front-written a.d.now _ _ a.date.now given.0 given.1 copy_at.ensures (c.copy_at-2.ensures)
