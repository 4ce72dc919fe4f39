use mathlib.Core.Path.{refl}
use native.Mathlib.Omega.{arith}
use borrow.Author.Tests.{not-true, not-false}
use Rattle.message.proofs.Requests.{write-length}
use Rattle.known_writing.proofs.Writing.{write-kind, write-long, write-stored, write_as}
use Rattle.known_writing.proofs.serve_write.Goals as goal

-- `known_writing::serve_write` meets its contract: a case for each return.
pub tag_of-tag-requires : goal.tag_of-tag-requires
tag_of-tag-requires c =
    omega (arith, write-length _ _ c.requires.1)

pub returns-then-not-is_lawful : goal.returns-then-not-is_lawful
returns-then-not-is_lawful c =
    let tag_of = c.tag_of-tag in
    let is_lawful = c.is_lawful in
    let if1 = c.if-not-is_lawful in
    let refuse = c.refuse-answer in
    let a = c.args in
    write_as a.known a.date.now a.kind a.message.now a.index.now a.log.now a.waiting.now a.reply.now _ _ _ tag_of.ensures refl
    (write-kind a.known a.date.now a.kind _ _ a.index.now a.log.now a.waiting.now a.reply.now _ is_lawful.ensures if1.true _ (refuse.ensures _ _))

pub data_of-data-requires : goal.data_of-data-requires
data_of-data-requires c =
    write-length _ _ c.requires.1

pub returns-then-data-gt-LONGEST : goal.returns-then-data-gt-LONGEST
returns-then-data-gt-LONGEST c =
    let tag_of = c.tag_of-tag in
    let is_lawful = c.is_lawful in
    let if1 = c.if-not-is_lawful in
    let data_of = c.data_of-data in
    let if2 = c.if-data-gt-LONGEST in
    let refuse2 = c.refuse-answer-then-data-gt-LONGEST in
    let a = c.args in
    write_as a.known a.date.now a.kind a.message.now a.index.now a.log.now a.waiting.now a.reply.now _ _ _ tag_of.ensures data_of.ensures
    (write-long a.known a.date.now a.kind _ _ a.index.now a.log.now a.waiting.now a.reply.now _ is_lawful.ensures if1.false if2.true _
    (refuse2.ensures _ _))

pub returns : goal.returns
returns c =
    let tag_of = c.tag_of-tag in
    let is_lawful = c.is_lawful in
    let if1 = c.if-not-is_lawful in
    let data_of = c.data_of-data in
    let if2 = c.if-data-gt-LONGEST in
    let store-block = c.store_block in
    let a = c.args in
    write_as a.known a.date.now a.kind a.message.now a.index.now a.log.now a.waiting.now a.reply.now _ _ _ tag_of.ensures data_of.ensures
    (write-stored a.known a.date.now a.kind _ _ a.index.now a.log.now a.waiting.now a.reply.now _ is_lawful.ensures if1.false if2.false _
    store-block.ensures)
