use mathlib.Core.Path.{refl, sym, ap, ◌∙◌}
use native.Mathlib.Omega.{arith}
use lib.ListN.{length}
use borrow.Author.Tests.{not-true, not-false}
use Rattle.message.proofs.Requests.{read_length, read-score}
use Rattle.block.specs.Log.{joined}
use Rattle.block.proofs.Joined.{sectors-joined}
use Rattle.sector_log.specs.Parts.{beside}
use Rattle.sector_log.proofs.Counted.{counted-found}
use Rattle.hint.specs.Hint.{look_up_by}
use Rattle.lookup.proofs.Held.{found_within, found-most}
use Rattle.index_lookup.proofs.Held.{look_by_found}
use Rattle.reading.proofs.Returns.{read-kind, read-refused, read_found_lem, read_as}
use Rattle.reading.proofs.read_anywhere.Goals as goal

-- `reading::read_anywhere` meets its contract: a case for each return. The log of both parts is read from the border on that was chosen.
pub tag_of-tag-requires : goal.tag_of-tag-requires
tag_of-tag-requires c =
    omega (arith, read_length _ _ _ c.requires.0)

pub returns-then-not-is_lawful : goal.returns-then-not-is_lawful
returns-then-not-is_lawful c =
    let a = c.args in
    read_as a.message.now a.index.now (beside a.log.now a.waiting.now) _ _ c.tag_of-tag.ensures a.kind a.count _ _ refl
    (c.refuse.ensures _ _ ∙ read-kind _ _ _ _ _ _ _ _ c.is_lawful.ensures c.if-not-is_lawful.true)

pub score_of-score-requires : goal.score_of-score-requires
score_of-score-requires c =
    omega (arith, read_length _ _ _ c.requires.0)

pub fetch_by-look-requires : goal.fetch_by-look-requires
fetch_by-look-requires c =
    (c.border-end.ensures.within, ap length c.score_of-score.ensures ∙ read-score _ _ _ c.requires.0)

pub answer_read-requires : goal.answer_read-requires
answer_read-requires c = let args = c.args in
    let border-here = c.border-end in
    let fetch-by = c.fetch_by-look in
    let given = c.requires in
    let score-of = c.score_of-score in
    let a = args in
    let border = border-here in
    let s = score-of.result.now in
    let J = joined border.result.0 a.log.now a.waiting.now in
    let e = (counted-found a.count (look_up_by J _ a.kind s) _ (sym fetch-by.ensures ∙ c.in-Ok.is)).0 in
    let n = sectors-joined border.result.0 a.log.now a.waiting.now border.ensures.within in
    let found = look_by_found J _ a.kind s _ e in
    (border.ensures.within, found_within found _ n, found-most found, given.1)

pub returns-in-Ok : goal.returns-in-Ok
returns-in-Ok c = let answer-read = c.answer_read in
    let args = c.args in
    let border-here = c.border-end in
    let fetch-by = c.fetch_by-look in
    let if1 = c.if-not-is_lawful in
    let is_lawful = c.is_lawful in
    let score-of = c.score_of-score in
    let tag_of = c.tag_of-tag in
    let a = args in
    let border = border-here in
    let L = beside a.log.now a.waiting.now in
    let J = joined border.result.0 a.log.now a.waiting.now in
    read_as a.message.now a.index.now L _ _ tag_of.ensures a.kind a.count _ _ score-of.ensures
    (answer-read.ensures
    ∙ read_found_lem a.kind a.count _ _ a.index.now L _ _ is_lawful.ensures if1.false J border.ensures.alike _ fetch-by.ensures _ c.in-Ok.is)

pub returns-in-Err : goal.returns-in-Err
returns-in-Err c = let args = c.args in
    let border-here = c.border-end in
    let fetch-by = c.fetch_by-look in
    let if1 = c.if-not-is_lawful in
    let is_lawful = c.is_lawful in
    let score-of = c.score_of-score in
    let tag_of = c.tag_of-tag in
    let a = args in
    let border = border-here in
    let L = beside a.log.now a.waiting.now in
    let J = joined border.result.0 a.log.now a.waiting.now in
    read_as a.message.now a.index.now L _ _ tag_of.ensures a.kind a.count _ _ score-of.ensures
    (c.refuse-in-Err.ensures _ _
    ∙ read-refused a.kind a.count _ _ a.index.now L _ _ is_lawful.ensures if1.false J border.ensures.alike _ fetch-by.ensures _ c.in-Err.is)
