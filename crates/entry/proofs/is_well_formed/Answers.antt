use mathlib.Core.Path.{◌∙◌}
use mathlib.Core.Logic.{⊎_elim}
use native.Mathlib.Omega.{arith}
use borrow.Author.Tests.{not-true, not-false}
use Rattle.entry.proofs.Tests.{psize-under, psize-over, dsize-under, dsize-over, dsize-ragged, flagged, unclean, in_room, entries-whole, entries_none}
use Rattle.entry.proofs.is_well_formed.Goals.{else-e, then-e+else-e-ne0}
use Rattle.entry.proofs.is_well_formed.Goals as goal

-- `entry::is_well_formed` meets its contract: each return knows its tests.
pub returns-then-e-lt40 : goal.returns-then-e-lt40
returns-then-e-lt40 c = psize-under c.args.e c.if-e-lt40.true

pub returns-then-e-gt-LONGEST : goal.returns-then-e-gt-LONGEST
returns-then-e-gt-LONGEST c = psize-over c.args.e c.if-e-lt40.false c.if-e-gt-LONGEST.true

pub returns-then-e-lt1 : goal.returns-then-e-lt1
returns-then-e-lt1 c = dsize-under c.args.e c.if-e-lt40.false c.if-e-gt-LONGEST.false c.if-e-lt1.true

pub returns-then-e-gt-LONGEST-2 : goal.returns-then-e-gt-LONGEST-2
returns-then-e-gt-LONGEST-2 c = let a = c.args in
    let if1 = c.if-e-lt40 in
    let if2 = c.if-e-gt-LONGEST in
    dsize-over a.e if1.false if2.false c.if-e-lt1.false c.if-e-gt-LONGEST-2.true

pub returns-then-e-ne0 : goal.returns-then-e-ne0
returns-then-e-ne0 c = let a = c.args in
    let if1 = c.if-e-lt40 in
    let if2 = c.if-e-gt-LONGEST in
    let if3 = c.if-e-lt1 in
    let if4 = c.if-e-gt-LONGEST-2 in
    dsize-ragged a.e if1.false if2.false if3.false if4.false c.if-e.true (λ z. omega arith)

pub returns-then-not-e : goal.returns-then-not-e
returns-then-not-e c =
    let e = c.args.e in
    flagged e c.if-e-lt40.false c.if-e-gt-LONGEST.false c.if-e-lt1.false
    c.if-e-gt-LONGEST-2.false (elim c.if-e.branch [ then-e+else-e-ne0 w ↦ entries-whole e.directory e.dsize w.if-e.true (omega (arith, w.if-e-ne0.false)) | else-e w ↦ entries_none e.directory e.dsize w.if-e.false ]) (not-true _ c.if-not-e.true)

pub returns-then-not-e-2 : goal.returns-then-not-e-2
returns-then-not-e-2 c =
    let e = c.args.e in
    unclean e c.if-e-lt40.false c.if-e-gt-LONGEST.false c.if-e-lt1.false
    c.if-e-gt-LONGEST-2.false (elim c.if-e.branch [ then-e+else-e-ne0 w ↦ entries-whole e.directory e.dsize w.if-e.true (omega (arith, w.if-e-ne0.false)) | else-e w ↦ entries_none e.directory e.dsize w.if-e.false ]) (not-false _ c.if-not-e.false) (not-true _ c.if-not-e-2.true)

pub returns : goal.returns
returns c = let if7 = c.if-not-e in
    let e = c.args.e in
    c.holds.ensures ∙ in_room e c.if-e-lt40.false c.if-e-gt-LONGEST.false c.if-e-lt1.false
    c.if-e-gt-LONGEST-2.false (elim c.if-e.branch [ then-e+else-e-ne0 w ↦ entries-whole e.directory e.dsize w.if-e.true (omega (arith, w.if-e-ne0.false)) | else-e w ↦ entries_none e.directory e.dsize w.if-e.false ]) (not-false _ if7.false) (not-false _ c.if-not-e-2.false)
