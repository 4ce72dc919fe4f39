use Prim.Native.Nat.{◌-◌}
use native.Mathlib.Omega.{arith}
use Rattle.sector.specs.Sector.{label_of}
use Rattle.sector.proofs.Fields.{length_label}
use Rattle.sector_lines.proofs.Written.{three-front, sector_written}
use Rattle.sector_lines.proofs.write_sector.Goals as goal

pub slice_bounds-crc32-end-2 : goal.slice_bounds-crc32-end-2
slice_bounds-crc32-end-2 c = let a =
    c.args in
    let clear = c.clear in
    let copy_at = c.copy_at in
    let copy-at2 = c.copy_at-2 in
    let given = c.requires in
    let write-label = c.write_label in
    three-front a.d.now _ _ _ _ a.d.now a.front.now (label_of a.l a.score.now) a.piece.now 0 (omega arith) (length_label a.l a.score.now given.1) given.2
    copy_at.ensures write-label.ensures copy-at2.ensures clear.ensures

pub returns : goal.returns
returns c =
    let a = c.args in
    let clear = c.clear in
    let copy_at = c.copy_at in
    let copy-at2 = c.copy_at-2 in
    let crc32 = c.crc32-crc in
    let given = c.requires in
    let write-label = c.write_label in
    sector_written a.d.now _ _ _ _ _ a.front.now (label_of a.l a.score.now) a.piece.now crc32.result (omega arith) (length_label a.l a.score.now given.1) given.2
    copy_at.ensures write-label.ensures copy-at2.ensures clear.ensures crc32.ensures (c.write_line.ensures)
