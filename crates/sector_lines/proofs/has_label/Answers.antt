use mathlib.Core.Path.{sym, ap, ◌∙◌}
use Prim.Native.Nat.{◌+◌, ◌-◌}
use native.Mathlib.Omega.{arith}
use lib.ListN.{length, take, drop}
use lib.Seq.{length-take-le}
use borrow.Author.Tests.{not-true, not-false}
use Rattle.buffer.specs.Bytes.{same}
use Rattle.buffer.proofs.Put.{put_whole}
use Rattle.sector.specs.Sector.{label_of}
use Rattle.sector.proofs.Fields.{length_label}
use Rattle.sector_lines.proofs.Written.{label_unlike, label-alike}
use Rattle.sector_lines.proofs.has_label.Goals as goal

pub slice_bounds-equal-end : goal.slice_bounds-equal-end
slice_bounds-equal-end c = let a = c.args in
    let given = c.requires in
    sym (length-take-le (length a.front.now) a.s.now (omega (arith, given.0)))

pub returns-then-not-equal : goal.returns-then-not-equal
returns-then-not-equal c = let a = c.args in
    let given = c.requires in
    sym (label_unlike a.s.now a.front.now (label_of a.l a.score.now) 96 _ (length_label a.l a.score.now given.1) given.0 (c.equal.ensures)
    c.if-not-equal.true)

pub returns : goal.returns
returns c = let a = c.args in
    let equal = c.equal in
    let if1 = c.if-not-equal in
    let given = c.requires in
    let write-label = c.write_label in
    label-alike a.s.now a.front.now (label_of a.l a.score.now) 96 _ _ (length_label a.l a.score.now given.1) given.0 equal.ensures if1.false
    (c.agree.ensures ∙ ap (same (take (length a.front.now + 96 - length a.front.now) (drop (length a.front.now) a.s.now)))
    (write-label.ensures ∙ put_whole _ (label_of a.l a.score.now) (length_label a.l a.score.now given.1)))
