use mathlib.Core.Path.{refl, ap, ◌∙◌}
use Prim.Native.Nat.{◌*◌}
use native.Mathlib.Omega.{arith}
use borrow.Author.Tests.{not-true, not-false}
use lib.ListN.{length, length-take, length-drop}
use Rattle.sector_log.specs.Parts.{tape}
use Rattle.lookup.proofs.Outcomes.{lent-sectors}
use Rattle.entry.specs.Entry.{score_of}
use Rattle.file.specs.File.{split}
use Rattle.file.proofs.Tests.{entry_whole, readable-length, opened, stops_log, stops_page, stops_entry, stops_offset, goes_down, shown}
use Rattle.leaf.proofs.Places.{lies_more, few_addressable}
use Rattle.file.proofs.Border.{border_split}
use Rattle.file.proofs.locate.Goals as goal

pub returns-then-not-are_allowed : goal.returns-then-not-are_allowed
returns-then-not-are_allowed c =
    let a = c.args in
    let are-allowed = c.are_allowed in
    let if1 = c.if-not-are_allowed in
    let both = tape a.log.now a.waiting.now in
    shown a.log.now a.waiting.now a.page.now a.entry.now a.offset _
    (stops_log _ both a.page.now a.entry.now a.offset _ are-allowed.ensures if1.true)

pub returns-then-not-is_page : goal.returns-then-not-is_page
returns-then-not-is_page c =
    let a = c.args in
    let are-allowed = c.are_allowed in
    let if1 = c.if-not-are_allowed in
    let is-page = c.is_page in
    let if2 = c.if-not-is_page in
    let both = tape a.log.now a.waiting.now in
    shown a.log.now a.waiting.now a.page.now a.entry.now a.offset _
    (stops_page _ both a.page.now a.entry.now a.offset _ are-allowed.ensures if1.false _ is-page.ensures if2.true)

pub returns-then-not-is_readable : goal.returns-then-not-is_readable
returns-then-not-is_readable c =
    let a = c.args in
    let are-allowed = c.are_allowed in
    let if1 = c.if-not-are_allowed in
    let is-page = c.is_page in
    let if2 = c.if-not-is_page in
    let is-readable = c.is_readable in
    let if3 = c.if-not-is_readable in
    let both = tape a.log.now a.waiting.now in
    shown a.log.now a.waiting.now a.page.now a.entry.now a.offset _
    (stops_entry _ both a.page.now a.entry.now a.offset _ are-allowed.ensures if1.false _ is-page.ensures if2.false _
    is-readable.ensures if3.true)

pub entry_at-e-requires : goal.entry_at-e-requires
entry_at-e-requires c =
    let a = c.args in
    let is-readable = c.is_readable in
    let if3 = c.if-not-is_readable in
    omega (arith, readable-length a.entry.now _ is-readable.ensures if3.false)

pub returns-then-e-offset : goal.returns-then-e-offset
returns-then-e-offset c =
    let a = c.args in
    let is-readable = c.is_readable in
    let if3 = c.if-not-is_readable in
    let are-allowed = c.are_allowed in
    let if1 = c.if-not-are_allowed in
    let is-page = c.is_page in
    let if2 = c.if-not-is_page in
    let entry_at = c.entry_at-e in
    let if4 = c.if-e-offset in
    let both = tape a.log.now a.waiting.now in
    let readable = is-readable.ensures in
    let yes = if3.false in
    let l = readable-length a.entry.now _ readable yes in
    shown a.log.now a.waiting.now a.page.now a.entry.now a.offset _
    (stops_offset _ both a.page.now a.entry.now a.offset _ are-allowed.ensures if1.false _ is-page.ensures if2.false _
    readable yes _ (entry_whole a.entry.now _ l entry_at.ensures) if4.true)

pub slice_bounds-descend-end : goal.slice_bounds-descend-end
slice_bounds-descend-end c =
    let a = c.args in
    let is-readable = c.is_readable in
    let if3 = c.if-not-is_readable in
    omega (arith, readable-length a.entry.now _ is-readable.ensures if3.false)

pub descend-look-requires : goal.descend-look-requires
descend-look-requires c =
    let a = c.args in
    let is-readable = c.is_readable in
    let if3 = c.if-not-is_readable in
    let border = c.border-end in
    let entry_at = c.entry_at-e in
    let if4 = c.if-e-offset in
    let readable = is-readable.ensures in
    let yes = if3.false in
    let l = readable-length a.entry.now _ readable yes in (
      border.ensures.within,
      opened a.entry.now _ a.offset _ readable yes (entry_whole a.entry.now _ l entry_at.ensures) if4.false,
      simp (length-take, length-drop) (omega (arith, l)),
    )

pub run_in-requires : goal.run_in-requires
run_in-requires c = let are-allowed-here = c.are_allowed in
    let args = c.args in
    let entry-at-here = c.entry_at-e in
    let if1-here = c.if-not-are_allowed in
    let if3-here = c.if-not-is_readable in
    let if4-here = c.if-e-offset in
    let is-readable-here = c.is_readable in
    let a = args in
    let is-readable = is-readable-here in
    let if3 = if3-here in
    let entry_at = entry-at-here in
    let if4 = if4-here in
    let are-allowed = are-allowed-here in
    let if1 = if1-here in
    let border = c.border-end in
    let descend = c.descend-look in
    let readable = is-readable.ensures in
    let yes = if3.false in
    let l = readable-length a.entry.now _ readable yes in
    let o = opened a.entry.now _ a.offset _ readable yes (entry_whole a.entry.now _ l entry_at.ensures) if4.false in
    let few = lent-sectors (length a.log.now) (length a.waiting.now) _ are-allowed.ensures if1.false in (
      o.dsize-from,
      o.inside,
      lies_more _ _ descend.result (few_addressable border.result.0 (length a.log.now) (length a.waiting.now) border.ensures.within few.0 few.1)
          descend.ensures.room,
    )

pub split-requires : goal.split-requires
split-requires c =
    let border = c.border-end in
    let good = c.well_formed in
    omega (arith, border.ensures.within, good.0.0)

pub returns : goal.returns
returns c =
    let a = c.args in
    let border = c.border-end in
    let entry_at = c.entry_at-e in
    let is-readable = c.is_readable in
    let if3 = c.if-not-is_readable in
    let run_in_lem = c.run_in in
    let descend = c.descend-look in
    let are-allowed = c.are_allowed in
    let if1 = c.if-not-are_allowed in
    let is-page = c.is_page in
    let if2 = c.if-not-is_page in
    let if4 = c.if-e-offset in
    let log = a.log.now in
    let waiting = a.waiting.now in
    let e = entry_at.result in
    let readable = is-readable.ensures in
    let yes = if3.false in
    let l = readable-length a.entry.now _ readable yes in
    c.split.ensures
    ∙ ap (split (512 * border.result.0)) (run_in_lem.ensures ∙ descend.ensures.run (length a.page.now) a.offset refl)
    ∙ border_split log waiting border.result.0 border.ensures.within border.ensures.alike (length a.page.now) e a.offset e.depth (score_of a.entry.now)
    ∙ shown log waiting a.page.now a.entry.now a.offset _
    (goes_down _ (tape log waiting) a.page.now a.entry.now a.offset _ are-allowed.ensures if1.false _ is-page.ensures if2.false _
    readable yes _ (entry_whole a.entry.now _ l entry_at.ensures) if4.false)
