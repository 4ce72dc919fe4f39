use mathlib.Core.Path.{sym, ◌∙◌}
use borrow.Author.Tests.{not-true, not-false}
use Rattle.cut.specs.Cut.{unit_of}
use Rattle.cut.proofs.Tests.{pad_short, pad_past, pad_ragged, pad_units}
use Rattle.cut.proofs.may_pad.Goals as goal

-- `cut::may_pad` meets its contract: each return knows its tests.
pub returns-then-target-len : goal.returns-then-target-len
returns-then-target-len c =
    let a = c.args in
    pad_short (unit_of a.kind) a.size a.len a.target c.if-target-len.true

pub returns-then-size-target : goal.returns-then-size-target
returns-then-size-target c =
    let a = c.args in
    pad_past (unit_of a.kind) a.size a.len a.target c.if-target-len.false c.if-size-target.true

pub returns-then-not-is_whole : goal.returns-then-not-is_whole
returns-then-not-is_whole c =
    let a = c.args in
    pad_ragged (unit_of a.kind) a.size a.len a.target c.if-target-len.false c.if-size-target.false (sym c.is_whole.ensures ∙ c.if-not-is_whole.true)

pub returns : goal.returns
returns c = let args = c.args in
    let if1 = c.if-target-len in
    let if2 = c.if-size-target in
    let a = args in
    c.is_whole-2.ensures ∙ pad_units (unit_of a.kind) a.size a.len a.target if1.false if2.false (sym c.is_whole.ensures ∙ c.if-not-is_whole.false)
