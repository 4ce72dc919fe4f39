use Prim.Native.Nat.{◌-◌}
use native.Mathlib.Omega.{arith}
use Rattle.append.specs.Append.{row_of}
use Rattle.append.proofs.Images.{start-behind, sector_made}
use Rattle.append.proofs.write_part.Goals as goal

pub overflow_mul-from : goal.overflow_mul-from
overflow_mul-from c = let a = c.args in
    let given = c.requires in
    let b = start-behind a.front.now a.«data».now a.k _ given.2 given.4 (c.payload_of-p.ensures) in
    omega (arith, given.0)

pub overflow_add-from : goal.overflow_add-from
overflow_add-from c = let a = c.args in
    let given = c.requires in
    let b = start-behind a.front.now a.«data».now a.k _ given.2 given.4 (c.payload_of-p.ensures) in
    omega (arith, given.0, c.payload_of-p.ensures)

pub slice_bounds-piece-count : goal.slice_bounds-piece-count
slice_bounds-piece-count c = let a = c.args in
    let given = c.requires in
    let b = start-behind a.front.now a.«data».now a.k _ given.2 given.4 (c.payload_of-p.ensures) in
    omega (arith, c.min-to.ensures)

pub slice_bounds-piece-start : goal.slice_bounds-piece-start
slice_bounds-piece-start c = let a = c.args in
    let given = c.requires in
    let b = start-behind a.front.now a.«data».now a.k _ given.2 given.4 (c.payload_of-p.ensures) in
    omega (arith, c.min-to.ensures)

pub returns : goal.returns
returns c = let a = c.args in
    let parts-of = c.parts_of-of in
    let payload-of = c.payload_of-p in
    let given = c.requires in
    let least = c.min-to in
    let write-sector = c.write_sector in
    λ date f. sector_made (row_of a.kind a.score.now a.«data».now a.first.0 date) a.part.now a.front.now a.k f given.1 given.2 given.3 given.4 _ _ _ _
    payload-of.ensures parts-of.ensures least.ensures write-sector.ensures
