use mathlib.Core.Path.{◌≡◌, refl, sym, ap, ap₂, ◌∙◌}
use Prim.Native.Nat.{ℕ, ◌-◌}
use native.Mathlib.Omega.{arith}
use lib.ListN.{length, take, drop, length-drop, replicate}
use lib.Seq.{length-take-le, take_all}
use Rattle.buffer.specs.Bytes.{same}
use Rattle.buffer.proofs.Put.{put_whole}
use Rattle.hexadecimal.specs.Hex.{hex}
use Rattle.sector.specs.Sector.{line, crc_name, check, fits}
use Rattle.sector_lines.proofs.has_check.Goals as goal

pub slice_bounds-by_digits-end : goal.slice_bounds-by_digits-end
slice_bounds-by_digits-end c = sym (length-take-le 499 (c.args.s.now) (omega arith))

pub returns : goal.returns
unfolding fits check hex
returns c = let a = c.args in
    let crc = c.by_digits-crc in
    let write-line = c.write_line in
    let s = a.s.now in
    let tail : take (length s - 499) (drop 499 s) ≡ drop 499 s = take_all (length s - 499) (drop 499 s) (omega (arith, length-drop 499 s)) in
    c.equal.ensures ∙ ap₂ same tail (write-line.ensures ∙ put_whole (replicate 13 0) (line crc_name (hex 8 crc.result)) refl ∙ ap (λ (k : ℕ). line crc_name (hex 8 k)) crc.ensures)
