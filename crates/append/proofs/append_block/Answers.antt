use Prim.Native.Nat.{◌-◌}
use Rattle.append.proofs.Images.{front-short, room-behind, dated-written}
use Rattle.append.proofs.append_block.Goals as goal

pub write_parts-requires : goal.write_parts-requires
write_parts-requires c = let a = c.args in
    let given = c.requires in
    let write-front = c.write_front in (
      given.0,
      given.1,
      front-short a.date.now _ a.«data».now a.part.now 0 given.2 write-front.ensures,
      room-behind a.date.now _ a.«data».now a.part.now
          (a.first.0 - a.from.0) given.2 write-front.ensures given.4,
    )

pub returns : goal.returns
returns c = let a = c.args in
    let given = c.requires in
    let write-front = c.write_front in
    let write-parts = c.write_parts in
    dated-written a.from.0 a.kind a.first.0 a.part.now _ a.score.now a.«data».now a.date.now _ given.2 write-front.ensures given.1 given.4 write-parts.ensures
