use mathlib.Core.Path.{sym, ap, ◌∙◌}
use borrow.Author.Tests.{not-true, not-false}
use lib.ListN.{length}
use Rattle.buffer.specs.Bytes.{Bytes}
use Rattle.cut.specs.Cut.{cut_length, whole_units}
use Rattle.cut.proofs.Tests.{unit_pointer, unit_other, cut_unlawful, cut_ragged, cut_done}
use Rattle.cut.proofs.cut.Goals as goal

pub returns-then-not-lawful : goal.returns-then-not-lawful
returns-then-not-lawful c =
    let a = c.args in
    cut_unlawful a.kind a.block.now (sym c.is_lawful-lawful.ensures ∙ c.if-not-lawful.true)

pub returns-then-not-whole_units : goal.returns-then-not-whole_units
returns-then-not-whole_units c = let args = c.args in
    let is_lawful = c.is_lawful-lawful in
    let a = args in
    cut_ragged a.kind a.block.now (sym is_lawful.ensures ∙ c.if-not-lawful.false) (sym c.is_whole-whole_units.ensures ∙ c.if-not-whole_units.true)

pub cut_scores-requires : goal.cut_scores-requires
cut_scores-requires c =
    let a = c.args in
    ap (λ (u : Bytes). whole_units u (length a.block.now)) (sym (unit_pointer a.kind (sym c.is_pointer.ensures ∙ c.if-is_pointer.true)))
    ∙ (sym c.is_whole-whole_units.ensures ∙ c.if-not-whole_units.false)

pub returns-then-is_pointer : goal.returns-then-is_pointer
returns-then-is_pointer c = let args = c.args in
    let if1 = c.if-not-lawful in
    let if2 = c.if-not-whole_units in
    let is_lawful = c.is_lawful-lawful in
    let is_whole = c.is_whole-whole_units in
    let a = args in
    cut_done a.kind a.block.now c.cut_scores.result (sym is_lawful.ensures ∙ if1.false) (sym is_whole.ensures ∙ if2.false)
    (c.cut_scores.ensures ∙ ap (λ (u : Bytes). cut_length u a.block.now) (sym (unit_pointer a.kind (sym c.is_pointer.ensures ∙ c.if-is_pointer.true))))

pub returns : goal.returns
returns c = let args = c.args in
    let if1 = c.if-not-lawful in
    let if2 = c.if-not-whole_units in
    let is_lawful = c.is_lawful-lawful in
    let is_whole = c.is_whole-whole_units in
    let a = args in
    cut_done a.kind a.block.now c.cut_bytes.result (sym is_lawful.ensures ∙ if1.false) (sym is_whole.ensures ∙ if2.false)
    (c.cut_bytes.ensures ∙ ap (λ (u : Bytes). cut_length u a.block.now) (sym (unit_other a.kind (sym c.is_pointer.ensures ∙ c.if-is_pointer.false))))
