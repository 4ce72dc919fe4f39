use mathlib.Core.Path.{sym, ◌∙◌}
use mathlib.Core.Option.{some}
use borrow.Author.Tests.{not-true, not-false}
use Rattle.message.proofs.Requests.{framed-head}
use Rattle.sector.proofs.Dates.{date-length}
use Rattle.sector_log.specs.Parts.{beside}
use Rattle.archive.proofs.Returns.{step-frame, step-buffer, step-log, step_in, in_closed, fresh-undated, in_fresh, greeted-undated, in_greeted}
use Rattle.archive.proofs.serve.Goals as goal

pub returns-then-not-is_framed : goal.returns-then-not-is_framed
returns-then-not-is_framed c = let args = c.args in
    let a = args in
    let L = beside a.log.now a.waiting.now in
    step-frame _ a.message.now (some a.date.now) a.index.now L _ _ c.is_framed.ensures c.if-not-is_framed.true _
    (c.refuse_silently.ensures _ _ a.reply.now)

pub returns-then-reply-lt-REPLY_ROOM : goal.returns-then-reply-lt-REPLY_ROOM
returns-then-reply-lt-REPLY_ROOM c = let args = c.args in
    let is_framed = c.is_framed in
    let a = args in
    let L = beside a.log.now a.waiting.now in
    step-buffer _ a.message.now (some a.date.now) a.index.now L _ _ is_framed.ensures c.if-not-is_framed.false c.if-reply-lt-REPLY_ROOM.true _
    (c.refuse_silently-then-reply-lt-REPLY_ROOM.ensures _ _ a.reply.now)

pub returns-then-not-are_allowed : goal.returns-then-not-are_allowed
returns-then-not-are_allowed c = let are-allowed = c.are_allowed in
    let args = c.args in
    let if1 = c.if-not-is_framed in
    let if2 = c.if-reply-lt-REPLY_ROOM in
    let is_framed = c.is_framed in
    let a = args in
    let L = beside a.log.now a.waiting.now in
    step-log _ a.message.now (some a.date.now) a.index.now L _ _ is_framed.ensures if1.false if2.false _ are-allowed.ensures c.if-not-are_allowed.true
    _ (c.refuse_silently-then-not-are_allowed.ensures _ _ a.reply.now)

pub returns-then-not-is_date : goal.returns-then-not-is_date
returns-then-not-is_date c = let are-allowed = c.are_allowed in
    let args = c.args in
    let if1 = c.if-not-is_framed in
    let if2 = c.if-reply-lt-REPLY_ROOM in
    let if3 = c.if-not-are_allowed in
    let is_framed = c.is_framed in
    let a = args in
    let L = beside a.log.now a.waiting.now in
    step_in _ a.message.now (some a.date.now) a.index.now L _ _ is_framed.ensures if1.false if2.false _ are-allowed.ensures if3.false _ _
    c.in-Fresh.is
    (fresh-undated a.message.now a.date.now a.index.now L _ _ c.is_date.ensures c.if-not-is_date.true _ _
    (c.refuse_silently-then-not-is_date.ensures _ _ a.reply.now) c.in-Fresh.is)

pub serve_fresh-requires : goal.serve_fresh-requires
serve_fresh-requires c = let if1 = c.if-not-is_framed in
    let if2 = c.if-reply-lt-REPLY_ROOM in
    let is_framed = c.is_framed in
    ((framed-head _ (sym is_framed.ensures ∙ if1.false)).0, if2.false)

pub returns-then-not-is_date-2 : goal.returns-then-not-is_date-2
returns-then-not-is_date-2 c = let are-allowed = c.are_allowed in
    let args = c.args in
    let if1 = c.if-not-is_framed in
    let if2 = c.if-reply-lt-REPLY_ROOM in
    let if3 = c.if-not-are_allowed in
    let is_framed = c.is_framed in
    let a = args in
    let L = beside a.log.now a.waiting.now in
    step_in _ a.message.now (some a.date.now) a.index.now L _ _ is_framed.ensures if1.false if2.false _ are-allowed.ensures if3.false _ _
    c.in-Greeted.is
    (greeted-undated a.message.now a.date.now a.index.now L _ _ c.is_date-in-Greeted.ensures c.if-not-is_date-2.true _ _
    (c.refuse_silently-then-not-is_date-2.ensures _ _ a.reply.now) c.in-Greeted.is)

pub serve_greeted-requires : goal.serve_greeted-requires
serve_greeted-requires c = let args =
    c.args in
    let if1 = c.if-not-is_framed in
    let if2 = c.if-reply-lt-REPLY_ROOM in
    let if5 = c.if-not-is_date-2 in
    let is-date2 = c.is_date-in-Greeted in
    let is_framed = c.is_framed in
    ((framed-head _ (sym is_framed.ensures ∙ if1.false)).0, if2.false, date-length args.date.now (sym is-date2.ensures ∙ if5.false))

pub returns-in-Closed : goal.returns-in-Closed
returns-in-Closed c = let are-allowed = c.are_allowed in
    let args = c.args in
    let if1 = c.if-not-is_framed in
    let if2 = c.if-reply-lt-REPLY_ROOM in
    let if3 = c.if-not-are_allowed in
    let is_framed = c.is_framed in
    let a = args in
    let L = beside a.log.now a.waiting.now in
    step_in _ a.message.now (some a.date.now) a.index.now L _ _ is_framed.ensures if1.false if2.false _ are-allowed.ensures if3.false _ _
    c.in-Closed.is
    (in_closed a.message.now a.date.now a.index.now L _ _ _ (c.refuse_silently-in-Closed.ensures _ _ a.reply.now) c.in-Closed.is)

pub returns-else-not-is_date : goal.returns-else-not-is_date
returns-else-not-is_date c = let are-allowed = c.are_allowed in
    let args = c.args in
    let if1 = c.if-not-is_framed in
    let if2 = c.if-reply-lt-REPLY_ROOM in
    let if3 = c.if-not-are_allowed in
    let if4 = c.if-not-is_date in
    let is-date = c.is_date in
    let is_framed = c.is_framed in
    let serve-fresh = c.serve_fresh in
    let a = args in
    let L = beside a.log.now a.waiting.now in
    step_in _ a.message.now (some a.date.now) a.index.now L _ _ is_framed.ensures if1.false if2.false _ are-allowed.ensures if3.false _ _
    c.in-Fresh.is
    (in_fresh a.message.now a.date.now a.index.now L _ _ is-date.ensures if4.false _ (serve-fresh.ensures _ _))

pub returns-else-not-is_date-2 : goal.returns-else-not-is_date-2
returns-else-not-is_date-2 c =
    let are-allowed = c.are_allowed in
    let args = c.args in
    let if1 = c.if-not-is_framed in
    let if2 = c.if-reply-lt-REPLY_ROOM in
    let if3 = c.if-not-are_allowed in
    let if5 = c.if-not-is_date-2 in
    let is-date2 = c.is_date-in-Greeted in
    let is_framed = c.is_framed in
    let serve-greeted = c.serve_greeted in
    let a = args in
    let L = beside a.log.now a.waiting.now in
    step_in _ a.message.now (some a.date.now) a.index.now L _ _ is_framed.ensures if1.false if2.false _ are-allowed.ensures if3.false _ _
    c.in-Greeted.is
    (in_greeted a.message.now a.date.now a.index.now L _ _ is-date2.ensures if5.false _ serve-greeted.ensures)
