use mathlib.Core.Path.{refl, ap, ◌∙◌}
use native.Mathlib.Omega.{arith}
use lib.ListN.{length}
use borrow.Author.Tests.{not-true, not-false}
use Rattle.block.proofs.Joined.{sectors-joined}
use Rattle.known.proofs.Belongs.{belongs-within}
use Rattle.lookup.proofs.Held.{found_within, found-most}
use Rattle.known_store.proofs.Found.{known-found}
use Rattle.message.proofs.Requests.{read_length, read-score}
use Rattle.known_reading.proofs.Reading.{read-kind, read-missing, read-over, read-granted, read_as}
use Rattle.known_reading.proofs.serve_read.Goals as goal

-- `known_reading::serve_read` meets its contract: a case for each return.
pub tag_of-tag-requires : goal.tag_of-tag-requires
tag_of-tag-requires c =
    omega (arith, read_length _ _ _ c.requires.1)

pub returns-then-not-is_lawful : goal.returns-then-not-is_lawful
returns-then-not-is_lawful c =
    let tag_of = c.tag_of-tag in
    let is_lawful = c.is_lawful in
    let if1 = c.if-not-is_lawful in
    let refuse = c.refuse in
    let a = c.args in
    read_as a.known a.message.now a.index.now a.log.now a.waiting.now a.reply.now _ a.kind a.count _ _ tag_of.ensures refl
    (read-kind a.known a.kind a.count _ _ a.index.now a.log.now a.waiting.now a.reply.now _ _ is_lawful.ensures if1.true (refuse.ensures _ _))

pub score_of-score-requires : goal.score_of-score-requires
score_of-score-requires c =
    omega (arith, read_length _ _ _ c.requires.1)

pub find_known-requires : goal.find_known-requires
find_known-requires c =
    let score-of = c.score_of-score in
    let a = c.args in
    let b = belongs-within a.known (length a.log.now) (length a.waiting.now) c.requires.0 in
    (b.0, ap length score-of.ensures ∙ read-score _ _ _ c.requires.1)

pub returns-in_default : goal.returns-in_default
returns-in_default c =
    let tag_of = c.tag_of-tag in
    let is_lawful = c.is_lawful in
    let if1 = c.if-not-is_lawful in
    let score-of = c.score_of-score in
    let find-known = c.find_known in
    let missing-by = c.missing_by-why in
    let refuse2 = c.refuse-in_default in
    let a = c.args in
    read_as a.known a.message.now a.index.now a.log.now a.waiting.now a.reply.now _ a.kind a.count _ _ tag_of.ensures score-of.ensures
    (read-missing a.known a.kind a.count _ _ a.index.now a.log.now a.waiting.now a.reply.now _ _ is_lawful.ensures if1.false
    _ find-known.ensures _ c.in_default.is missing-by.ensures (refuse2.ensures _ _))

pub returns-then-count-b : goal.returns-then-count-b
returns-then-count-b c =
    let tag_of = c.tag_of-tag in
    let is_lawful = c.is_lawful in
    let if1 = c.if-not-is_lawful in
    let score-of = c.score_of-score in
    let find-known = c.find_known in
    let if2 = c.if-count-b in
    let refuse3 = c.refuse-then-count-b in
    let a = c.args in
    read_as a.known a.message.now a.index.now a.log.now a.waiting.now a.reply.now _ a.kind a.count _ _ tag_of.ensures score-of.ensures
    (read-over a.known a.kind a.count _ _ a.index.now a.log.now a.waiting.now a.reply.now _ _ is_lawful.ensures if1.false
    _ find-known.ensures _ c.in-Some.is if2.true (refuse3.ensures _ _))

pub answer_read-requires : goal.answer_read-requires
answer_read-requires c =
    let score-of = c.score_of-score in
    let find-known = c.find_known in
    let a = c.args in
    let s = score-of.result.now in
    let b = belongs-within a.known (length a.log.now) (length a.waiting.now) c.requires.0 in
    let f = known-found a.known a.log.now a.waiting.now a.index.now a.kind s find-known.ensures c.in-Some.is in (
      b.0,
      found_within f _ (sectors-joined a.known.used.0 a.log.now a.waiting.now b.0),
      found-most f,
      c.requires.2,
    )

pub returns : goal.returns
returns c =
    let tag_of = c.tag_of-tag in
    let is_lawful = c.is_lawful in
    let if1 = c.if-not-is_lawful in
    let score-of = c.score_of-score in
    let find-known = c.find_known in
    let if2 = c.if-count-b in
    let answer-read = c.answer_read in
    let a = c.args in
    read_as a.known a.message.now a.index.now a.log.now a.waiting.now a.reply.now _ a.kind a.count _ _ tag_of.ensures score-of.ensures
    (read-granted a.known a.kind a.count _ _ a.index.now a.log.now a.waiting.now a.reply.now _ _ is_lawful.ensures if1.false
    _ find-known.ensures _ c.in-Some.is if2.false answer-read.ensures)
