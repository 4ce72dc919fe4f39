use mathlib.Core.Path.{◌∙◌}
use native.Mathlib.Omega.{arith}
use borrow.Author.Tests.{not-true, not-false}
use Prim.Native.Nat.{◌-◌, min}
use lib.ListN.{length, length-take, length-drop}
use Rattle.block.specs.Log.{joined}
use Rattle.sector_log.specs.Parts.{tape}
use Rattle.entry.specs.Entry.{score_of}
use Rattle.file.proofs.Tests.{entry_whole, readable-length, opened}
use Rattle.fill_file.proofs.Border.{filled-alike}
use Rattle.fill_file.proofs.Tests.{fill_stops_log, fill_stops_entry, fill_stops_offset, fill_goes_down}
use Rattle.fill_file.proofs.fill.Goals as goal

pub returns-then-not-are_allowed : goal.returns-then-not-are_allowed
returns-then-not-are_allowed c =
    let a = c.args in
    let are-allowed = c.are_allowed in
    let if1 = c.if-not-are_allowed in
    fill_stops_log _ (tape a.log.now a.waiting.now) a.entry.now a.offset a.d.now _ are-allowed.ensures if1.true

pub returns-then-not-is_readable : goal.returns-then-not-is_readable
returns-then-not-is_readable c =
    let a = c.args in
    let are-allowed = c.are_allowed in
    let if1 = c.if-not-are_allowed in
    let is-readable = c.is_readable in
    let if2 = c.if-not-is_readable in
    fill_stops_entry _ (tape a.log.now a.waiting.now) a.entry.now a.offset a.d.now _ are-allowed.ensures if1.false _
    is-readable.ensures if2.true

pub entry_at-e-requires : goal.entry_at-e-requires
entry_at-e-requires c =
    let a = c.args in
    let is-readable = c.is_readable in
    let if2 = c.if-not-is_readable in
    omega (arith, readable-length a.entry.now _ is-readable.ensures if2.false)

pub returns-then-e-offset : goal.returns-then-e-offset
returns-then-e-offset c =
    let a = c.args in
    let are-allowed = c.are_allowed in
    let if1 = c.if-not-are_allowed in
    let is-readable = c.is_readable in
    let if2 = c.if-not-is_readable in
    let entry_at = c.entry_at-e in
    let if3 = c.if-e-offset in
    let l = readable-length a.entry.now _ is-readable.ensures if2.false in
    fill_stops_offset _ (tape a.log.now a.waiting.now) a.entry.now a.offset a.d.now _ are-allowed.ensures if1.false _
    is-readable.ensures if2.false
    _ (entry_whole a.entry.now _ l entry_at.ensures) if3.true

pub slice_bounds-fill_leaves-end : goal.slice_bounds-fill_leaves-end
slice_bounds-fill_leaves-end c =
    let a = c.args in
    let is-readable = c.is_readable in
    let if2 = c.if-not-is_readable in
    omega (arith, readable-length a.entry.now _ is-readable.ensures if2.false)

pub fill_leaves-requires : goal.fill_leaves-requires
fill_leaves-requires c =
    let a = c.args in
    let is-readable = c.is_readable in
    let if2 = c.if-not-is_readable in
    let entry_at = c.entry_at-e in
    let if3 = c.if-e-offset in
    let l = readable-length a.entry.now _ is-readable.ensures if2.false in
    let whole = entry_whole a.entry.now _ l entry_at.ensures in (
      c.border-end.ensures.within,
      opened a.entry.now _ a.offset _ is-readable.ensures if2.false whole if3.false,
      simp (length-take, length-drop) (omega (arith, l)),
    )

pub returns : goal.returns
returns c =
    let a = c.args in
    let are-allowed = c.are_allowed in
    let if1 = c.if-not-are_allowed in
    let is-readable = c.is_readable in
    let if2 = c.if-not-is_readable in
    let entry_at = c.entry_at-e in
    let if3 = c.if-e-offset in
    let fill-leaves = c.fill_leaves in
    let l = readable-length a.entry.now _ is-readable.ensures if2.false in
    let whole = entry_whole a.entry.now _ l entry_at.ensures in
    let e = entry_at.result in
    let border = c.border-end in
    fill-leaves.ensures
    ∙ filled-alike (joined border.result.0 a.log.now a.waiting.now) (tape a.log.now a.waiting.now) border.ensures.alike e (score_of a.entry.now)
    (min (length a.d.now) (e.size - a.offset)) a.offset a.d.now
    ∙ fill_goes_down _ (tape a.log.now a.waiting.now) a.entry.now a.offset a.d.now _ are-allowed.ensures if1.false _
    is-readable.ensures if2.false
    _ whole if3.false
