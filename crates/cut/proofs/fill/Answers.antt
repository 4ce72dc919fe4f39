use mathlib.Core.Path.{sym, ap, ◌∙◌}
use borrow.Author.Tests.{not-true, not-false}
use lib.ListN.{length}
use Rattle.buffer.specs.Bytes.{Bytes}
use Rattle.cut.specs.Cut.{whole_units}
use Rattle.cut.proofs.Tests.{unit_pointer, filled-scores, filled-bytes}
use Rattle.cut.proofs.fill.Goals as goal

pub returns-then-not-is_pointer : goal.returns-then-not-is_pointer
returns-then-not-is_pointer c = let args = c.args in
    let if1 = c.if-not-is_pointer in
    let is_pointer = c.is_pointer in
    let a = args in
    filled-bytes a.kind (length a.d.now) _ (sym is_pointer.ensures ∙ if1.true) c.clear.ensures

pub fill_scores-requires : goal.fill_scores-requires
fill_scores-requires c = let args = c.args in
    let given = c.requires in
    let a = args in
    ap (λ (u : Bytes). whole_units u (length a.d.now)) (sym (unit_pointer a.kind (sym c.is_pointer.ensures ∙ c.if-not-is_pointer.false))) ∙ given

pub returns : goal.returns
returns c = let args = c.args in
    let fill-scores = c.fill_scores in
    let if1 = c.if-not-is_pointer in
    let is_pointer = c.is_pointer in
    let a = args in
    filled-scores a.kind (length a.d.now) _ (sym is_pointer.ensures ∙ if1.false) fill-scores.ensures
