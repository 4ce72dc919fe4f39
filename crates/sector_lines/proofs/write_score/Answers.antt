use native.Mathlib.Omega.{arith}
use Rattle.hexadecimal.specs.Hex.{hex_bytes}
use Rattle.hexadecimal.proofs.HexLaws.{hex_bytes-length}
use Rattle.sector.specs.Sector.{score_name}
use Rattle.sector_lines.proofs.Written.{line-written, line-length}
use Rattle.sector_lines.proofs.write_score.Goals as goal

pub shape_of-d : goal.shape_of-d
shape_of-d c = let a = c.args in
    let copy_at = c.copy_at in
    let put-hex-bytes = c.put_hex_bytes in
    line-length a.d.now _ _ score_name (hex_bytes a.score.now) a.at 40 (omega arith) copy_at.ensures (omega (arith, hex_bytes-length a.score.now)) put-hex-bytes.ensures

pub returns : goal.returns
returns c = let a = c.args in
    let copy_at = c.copy_at in
    let put-hex-bytes = c.put_hex_bytes in
    line-written a.d.now _ _ score_name (hex_bytes a.score.now) a.at 40 (omega arith) copy_at.ensures (omega (arith, hex_bytes-length a.score.now)) put-hex-bytes.ensures
