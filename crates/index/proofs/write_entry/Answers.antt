use native.Mathlib.Omega.{arith}
use Rattle.index.proofs.Turns.{named-length, entry-written, entry_length_lem}
use Rattle.index.proofs.write_entry.Goals as goal

pub slice_bounds-put_be-end : goal.slice_bounds-put_be-end
slice_bounds-put_be-end c = let args = c.args in
    let given = c.requires in
    let a = args in
    let k = named-length a.place.now _ a.score.now a.kind given.0 given.1 c.copy_at.ensures in
    omega (arith, k)

pub shape_of-place : goal.shape_of-place
shape_of-place c = let copy_at = c.copy_at in
    let a = c.args in
    entry_length_lem a.place.now _ a.score.now a.kind c.requires.0 c.requires.1 copy_at.ensures _ a.first.0 c.put_be.ensures

pub returns : goal.returns
returns c = let copy_at = c.copy_at in
    let a = c.args in
    entry-written a.place.now _ a.score.now a.kind c.requires.0 c.requires.1 copy_at.ensures _ a.first.0 c.put_be.ensures
