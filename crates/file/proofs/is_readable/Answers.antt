use borrow.Author.Tests.{not-true, not-false}
use Rattle.file.proofs.Tests.{entry_whole, entry_length_lem, entry-inactive, entry-active}
use Rattle.file.proofs.is_readable.Goals as goal

-- `file::is_readable` meets its contract.
pub returns-then-b-ne-ENTRY : goal.returns-then-b-ne-ENTRY
returns-then-b-ne-ENTRY c = entry_length_lem c.args.b.now c.if-b-ne-ENTRY.true

pub returns-then-not-e : goal.returns-then-not-e
returns-then-not-e c =
    let a = c.args in
    let if1 = c.if-b-ne-ENTRY in
    let entry_at = c.entry_at-e in
    let if2 = c.if-not-e in
    entry-inactive a.b.now _ if1.false (entry_whole a.b.now _ if1.false entry_at.ensures) (not-true _ if2.true)

pub returns : goal.returns
returns c =
    let a = c.args in
    let if1 = c.if-b-ne-ENTRY in
    let entry_at = c.entry_at-e in
    let if2 = c.if-not-e in
    let is-well-formed = c.is_well_formed in
    entry-active a.b.now _ _ if1.false (entry_whole a.b.now _ if1.false entry_at.ensures) (not-false _ if2.false) is-well-formed.ensures
