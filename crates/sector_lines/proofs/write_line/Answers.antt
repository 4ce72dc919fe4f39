use mathlib.Core.Path.{ap}
use Prim.Native.Nat.{◌+◌, ◌-◌}
use native.Mathlib.Omega.{arith}
use lib.ListN.{length}
use Rattle.buffer.proofs.Put.{length-put}
use Rattle.hexadecimal.specs.Hex.{hex}
use Rattle.hexadecimal.proofs.HexLaws.{hex-length}
use Rattle.sector_lines.proofs.Written.{digits_part, line-written, line-length}
use Rattle.sector_lines.proofs.write_line.Goals as goal

pub shape_of-d : goal.shape_of-d
shape_of-d c = let a = c.args in
    let copy_at = c.copy_at in
    line-length a.d.now _ _ a.name.now (hex a.width a.n) a.at a.width (omega arith) copy_at.ensures (hex-length a.width a.n)
    (digits_part _ _ (a.at + length a.name.now) a.width a.n (omega (arith, ap length copy_at.ensures, length-put a.d.now a.at a.name.now (omega arith)))
    (c.put_hex.ensures))

pub returns : goal.returns
returns c = let a = c.args in
    let copy_at = c.copy_at in
    line-written a.d.now _ _ a.name.now (hex a.width a.n) a.at a.width (omega arith) copy_at.ensures (hex-length a.width a.n)
    (digits_part _ _ (a.at + length a.name.now) a.width a.n (omega (arith, ap length copy_at.ensures, length-put a.d.now a.at a.name.now (omega arith)))
    (c.put_hex.ensures))
