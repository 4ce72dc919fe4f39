use mathlib.Core.Path.{refl}
use native.Mathlib.Omega.{arith}
use borrow.Author.Tests.{not-true, not-false}
use Rattle.message.proofs.Requests.{write-length}
use Rattle.sector_log.specs.Parts.{beside}
use Rattle.writing.proofs.Returns.{write-kind, write-long, write-stored, write_as}
use Rattle.writing.proofs.serve_write.Goals as goal

-- `writing::serve_write` meets its contract: a case for each return.
pub tag_of-tag-requires : goal.tag_of-tag-requires
tag_of-tag-requires c =
    omega (arith, write-length _ _ c.requires.0)

pub returns-then-not-is_lawful : goal.returns-then-not-is_lawful
returns-then-not-is_lawful c = let args = c.args in
    let if1 = c.if-not-is_lawful in
    let is_lawful = c.is_lawful in
    let tag_of = c.tag_of-tag in
    let a = args in
    write_as a.message.now a.index.now (beside a.log.now a.waiting.now) _ _ tag_of.ensures a.date.now a.kind _ _ refl
    (write-kind _ _ _ _ _ _ _ _ is_lawful.ensures if1.true _ (c.refuse.ensures _ _))

pub data_of-data-requires : goal.data_of-data-requires
data_of-data-requires c =
    write-length _ _ c.requires.0

pub returns-then-data-gt-LONGEST : goal.returns-then-data-gt-LONGEST
returns-then-data-gt-LONGEST c = let args = c.args in
    let data_of = c.data_of-data in
    let if1 = c.if-not-is_lawful in
    let if2 = c.if-data-gt-LONGEST in
    let is_lawful = c.is_lawful in
    let tag_of = c.tag_of-tag in
    let a = args in
    write_as a.message.now a.index.now (beside a.log.now a.waiting.now) _ _ tag_of.ensures a.date.now a.kind _ _ data_of.ensures
    (write-long _ _ _ _ _ _ _ _ is_lawful.ensures if1.false if2.true _ (c.refuse-then-data-gt-LONGEST.ensures _ _))

pub returns : goal.returns
returns c =
    let answer-store = c.answer_store in
    let args = c.args in
    let data_of = c.data_of-data in
    let enter-stored = c.enter_stored in
    let if1 = c.if-not-is_lawful in
    let if2 = c.if-data-gt-LONGEST in
    let is_lawful = c.is_lawful in
    let store = c.store-receipt in
    let tag_of = c.tag_of-tag in
    let a = args in
    write_as a.message.now a.index.now (beside a.log.now a.waiting.now) _ _ tag_of.ensures a.date.now a.kind _ _ data_of.ensures
    (write-stored _ _ _ _ _ _ _ _ is_lawful.ensures if1.false _ _ _ _ if2.false store.ensures (answer-store.ensures _ _) enter-stored.ensures)
