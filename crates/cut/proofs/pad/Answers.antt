use mathlib.Core.Path.{sym, ap, ◌∙◌}
use native.Mathlib.Omega.{arith}
use borrow.Author.Tests.{not-true, not-false}
use lib.ListN.{length}
use Rattle.cut.specs.Cut.{unit_of}
use Rattle.cut.specs.Pad.{after_pad}
use Rattle.std.specs.Prelude.{Ok}
use Rattle.cut.proofs.Tests.{allowed, part_whole, part_filled, pad_unlawful, pad_refused, pad_done}
use Rattle.cut.proofs.pad.Goals as goal

pub returns-then-not-lawful_type : goal.returns-then-not-lawful_type
returns-then-not-lawful_type c =
    let a = c.args in
    pad_unlawful a.kind a.buffer.now a.len a.target (sym c.is_lawful-lawful_type.ensures ∙ c.if-not-lawful_type.true)

pub returns-then-not-allowed : goal.returns-then-not-allowed
returns-then-not-allowed c = let args = c.args in
    let is_lawful = c.is_lawful-lawful_type in
    let a = args in
    pad_refused a.kind a.buffer.now a.len a.target (sym is_lawful.ensures ∙ c.if-not-lawful_type.false) (sym c.may_pad-allowed.ensures ∙ c.if-not-allowed.true)

pub slice_bounds-fill-count : goal.slice_bounds-fill-count
slice_bounds-fill-count c =
    let a = c.args in
    let h = allowed (unit_of a.kind) (length a.buffer.now) a.len a.target (sym c.may_pad-allowed.ensures ∙ c.if-not-allowed.false) in
    omega (arith, h.longer, h.within)

pub slice_bounds-fill-start : goal.slice_bounds-fill-start
slice_bounds-fill-start c =
    let a = c.args in
    let h = allowed (unit_of a.kind) (length a.buffer.now) a.len a.target (sym c.may_pad-allowed.ensures ∙ c.if-not-allowed.false) in
    omega (arith, h.longer, h.within)

pub slice_bounds-fill-end : goal.slice_bounds-fill-end
slice_bounds-fill-end c =
    let a = c.args in
    let h = allowed (unit_of a.kind) (length a.buffer.now) a.len a.target (sym c.may_pad-allowed.ensures ∙ c.if-not-allowed.false) in
    omega (arith, h.within)

pub fill-requires : goal.fill-requires
fill-requires c =
    let a = c.args in
    let h = allowed (unit_of a.kind) (length a.buffer.now) a.len a.target (sym c.may_pad-allowed.ensures ∙ c.if-not-allowed.false) in
    part_whole (unit_of a.kind) a.buffer.now a.len a.target h

pub returns : goal.returns
returns c = let args = c.args in
    let if1 = c.if-not-lawful_type in
    let if2 = c.if-not-allowed in
    let is_lawful = c.is_lawful-lawful_type in
    let may-pad = c.may_pad-allowed in
    let a = args in
    let h = allowed (unit_of a.kind) (length a.buffer.now) a.len a.target (sym may-pad.ensures ∙ if2.false) in
    ap (after_pad (Ok tt)) (part_filled (unit_of a.kind) a.buffer.now a.len a.target h _ c.fill.ensures)
    ∙ pad_done a.kind a.buffer.now a.len a.target (sym is_lawful.ensures ∙ if1.false) (sym may-pad.ensures ∙ if2.false)
