use mathlib.Core.Path.{◌≡◌}
use Prim.Native.Nat.{◌-◌, ◌≤◌}
use native.Mathlib.Omega.{arith}
use lib.ListN.{length}
use Rattle.sector_lines.proofs.Written.{label-written}
use Rattle.sector_lines.proofs.write_label.Goals as goal

pub write_score-requires : goal.write_score-requires
write_score-requires c =
    let a =
    c.args in
    let given = c.requires in
    let write-line = c.write_line in
    let write-line2 = c.write_line-2 in
    let write-line3 = c.write_line-3 in
    let write-line4 = c.write_line-4 in
    let write-line5 = c.write_line-5 in
    let k₁ : length write-line.new.d ≡ length a.d.now = write-line.auto.d in
    let k₂ : length write-line2.new.d ≡ length write-line.new.d = write-line2.auto.d in
    let k₃ : length write-line3.new.d ≡ length write-line2.new.d = write-line3.auto.d in
    let k₄ : length write-line4.new.d ≡ length write-line3.new.d = write-line4.auto.d in
    let k₅ : length write-line5.new.d ≡ length write-line4.new.d = write-line5.auto.d in
    let p : 96 ≤ length a.d.now = given.0 in
    let g : 96 ≤ length write-line5.new.d = omega (arith, p) in
    (g, given.1)

pub returns : goal.returns
returns c =
    let a = c.args in
    let given = c.requires in
    let write-line = c.write_line in
    let write-line2 = c.write_line-2 in
    let write-line3 = c.write_line-3 in
    let write-line4 = c.write_line-4 in
    let write-line5 = c.write_line-5 in
    let write-score = c.write_score in
    label-written a.d.now _ _ _ _ _ _ a.l a.score.now given.0 given.1 write-line.ensures write-line2.ensures write-line3.ensures write-line4.ensures
    write-line5.ensures write-score.ensures
