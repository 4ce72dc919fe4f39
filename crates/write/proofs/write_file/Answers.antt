use borrow.Author.Tests.{not-true, not-false}
use mathlib.Core.Path.{sym, ◌∙◌}
use Prim.Native.Nat.{◌/◌}
use lib.ListN.{length}
use Rattle.sector.proofs.Dates.{date-length}
use Rattle.writer.proofs.Depth.{depth-some, depth-none, depth_lies, least-found}
use Rattle.writer.proofs.Tested.{entry-short, scores-short, log-refused, date-refused, slice-long, sizes-refused, tests_passed}
use Rattle.write.proofs.write_file.Goals as goal

pub returns-then-entry-ne-ENTRY : goal.returns-then-entry-ne-ENTRY
returns-then-entry-ne-ENTRY c = let a = c.args in
    entry-short a.log.now a.waiting.now a.date.now a.slice.now a.dsize a.psize a.entry.now a.scores.now (c.if-entry-ne-ENTRY.true)

pub returns-then-scores-lt-SCORES : goal.returns-then-scores-lt-SCORES
returns-then-scores-lt-SCORES c = let a = c.args in
    scores-short a.log.now a.waiting.now a.date.now a.slice.now a.dsize a.psize a.entry.now a.scores.now (c.if-entry-ne-ENTRY.false) (c.if-scores-lt-SCORES.true)

pub returns-then-not-are_allowed : goal.returns-then-not-are_allowed
returns-then-not-are_allowed c = let a = c.args in
    let if1 = c.if-entry-ne-ENTRY in
    log-refused a.log.now a.waiting.now a.date.now a.slice.now a.dsize a.psize a.entry.now a.scores.now if1.false (c.if-scores-lt-SCORES.false) _
    (c.are_allowed.ensures) c.if-not-are_allowed.true

pub returns-then-not-is_date : goal.returns-then-not-is_date
returns-then-not-is_date c = let are-allowed = c.are_allowed in
    let a = c.args in
    let if1 = c.if-entry-ne-ENTRY in
    let if2 = c.if-scores-lt-SCORES in
    date-refused a.log.now a.waiting.now a.date.now a.slice.now a.dsize a.psize a.entry.now a.scores.now if1.false if2.false _ are-allowed.ensures
    c.if-not-are_allowed.false _ (c.is_date.ensures) c.if-not-is_date.true

pub returns-then-slice-gt-LONGEST : goal.returns-then-slice-gt-LONGEST
returns-then-slice-gt-LONGEST c = let are-allowed = c.are_allowed in
    let a = c.args in
    let if1 = c.if-entry-ne-ENTRY in
    let if2 = c.if-scores-lt-SCORES in
    let if3 = c.if-not-are_allowed in
    slice-long a.log.now a.waiting.now a.date.now a.slice.now a.dsize a.psize a.entry.now a.scores.now if1.false if2.false _ are-allowed.ensures
    if3.false _ (c.is_date.ensures) c.if-not-is_date.false (c.if-slice-gt-LONGEST.true)

pub returns-in_default : goal.returns-in_default
returns-in_default c = let are-allowed = c.are_allowed in
    let a = c.args in
    let if1 = c.if-entry-ne-ENTRY in
    let if2 = c.if-scores-lt-SCORES in
    let if3 = c.if-not-are_allowed in
    let if4 = c.if-not-is_date in
    let is-date = c.is_date in
    sizes-refused a.log.now a.waiting.now a.date.now a.slice.now a.dsize a.psize a.entry.now a.scores.now if1.false if2.false _ are-allowed.ensures
    if3.false _ is-date.ensures if4.false (c.if-slice-gt-LONGEST.false)
    (depth-none (length a.slice.now) a.dsize a.psize (sym c.in_default.is ∙ c.depth_of.ensures))

pub write_tested-requires : goal.write_tested-requires
write_tested-requires c = let a = c.args in
    let if1 = c.if-entry-ne-ENTRY in
    let if2 = c.if-scores-lt-SCORES in
    let if4 = c.if-not-is_date in
    let if5 = c.if-slice-gt-LONGEST in
    let is-date = c.is_date in
    let d = depth_lies (length a.slice.now) a.dsize a.psize _ (depth-some (length a.slice.now) a.dsize a.psize _ (sym c.in-Some.is ∙ c.depth_of.ensures)) in
    (date-length a.date.now (sym is-date.ensures ∙ if4.false), if5.false, d.dsize-from, d.dsize-to, d.psize-from, d.psize-to, (least-found (length a.slice.now) a.dsize (a.psize / 20) _ d.least).0, if1.false, if2.false)

pub returns : goal.returns
returns c =
    let are-allowed = c.are_allowed in
    let a = c.args in
    let if1 = c.if-entry-ne-ENTRY in
    let if2 = c.if-scores-lt-SCORES in
    let if3 = c.if-not-are_allowed in
    let if4 = c.if-not-is_date in
    let if5 = c.if-slice-gt-LONGEST in
    let is-date = c.is_date in
    let write-tested = c.write_tested in
    write-tested.ensures ∙ tests_passed a.log.now a.waiting.now a.date.now a.slice.now a.dsize a.psize a.entry.now a.scores.now if1.false if2.false _
    are-allowed.ensures if3.false _ is-date.ensures if4.false if5.false _
    (depth-some (length a.slice.now) a.dsize a.psize _ (sym c.in-Some.is ∙ c.depth_of.ensures))
