use mathlib.Core.Path.{sym, ◌∙◌}
use lib.ListN.{length}
use Rattle.message.proofs.Requests.{framed-head}
use Rattle.sector.proofs.Dates.{date-length}
use Rattle.quick.proofs.Admission.{passed, roomy_enough, others-handed-on, read-admitted, write-admitted, sync-admitted}
use borrow.Enum.Refused.{opened}
use Rattle.quick.proofs.serve_admitted.Goals as goal

-- `quick::serve_admitted` meets its contract: a case for each request.
pub tag_of-tag-requires : goal.tag_of-tag-requires
tag_of-tag-requires c =
    let a = c.args in
    let p = passed a.session a.message.now a.date.now (length a.log.now) (length a.waiting.now) (length a.reply.now) c.requires in
    (framed-head a.message.now p.is_framed).0

pub parse-request-requires : goal.parse-request-requires
parse-request-requires c =
    let a = c.args in
    let p = passed a.session a.message.now a.date.now (length a.log.now) (length a.waiting.now) (length a.reply.now) c.requires in
    (framed-head a.message.now p.is_framed).0

pub serve_read-answer-requires : goal.serve_read-answer-requires
serve_read-answer-requires c =
    let parse = c.parse-request in
    let renew = c.renew-current in
    let a = c.args in
    let p = passed a.session a.message.now a.date.now (length a.log.now) (length a.waiting.now) (length a.reply.now) c.requires in
    (renew.ensures.fits, sym parse.ensures ∙ c.in-Read.is, roomy_enough _ _ _ _ _ _ p)

pub serve_write-requires : goal.serve_write-requires
serve_write-requires c =
    let parse = c.parse-request in
    let renew2 = c.renew-current-in-Write in
    let a = c.args in
    let p = passed a.session a.message.now a.date.now (length a.log.now) (length a.waiting.now) (length a.reply.now) c.requires in
    (renew2.ensures.fits, sym parse.ensures ∙ c.in-Write.is, date-length a.date.now p.dated, roomy_enough _ _ _ _ _ _ p)

pub serve_sync-requires : goal.serve_sync-requires
serve_sync-requires c =
    let renew3 = c.renew-current-in-Sync in
    let a = c.args in
    let p = passed a.session a.message.now a.date.now (length a.log.now) (length a.waiting.now) (length a.reply.now) c.requires in
    (renew3.ensures.fits, roomy_enough _ _ _ _ _ _ p)

pub returns-in-Read : goal.returns-in-Read
returns-in-Read c =
    let parse = c.parse-request in
    let renew = c.renew-current in
    let serve-read = c.serve_read-answer in
    let a = c.args in
    let p = passed a.session a.message.now a.date.now (length a.log.now) (length a.waiting.now) (length a.reply.now) c.requires in
    read-admitted a.known a.session a.message.now a.date.now a.index.now a.log.now a.waiting.now a.reply.now p _ _ _ parse.ensures renew.ensures.anew _
    _ c.in-Read.is serve-read.ensures

pub returns-in-Write : goal.returns-in-Write
returns-in-Write c =
    let parse = c.parse-request in
    let renew2 = c.renew-current-in-Write in
    let serve-write = c.serve_write in
    let a = c.args in
    let p = passed a.session a.message.now a.date.now (length a.log.now) (length a.waiting.now) (length a.reply.now) c.requires in
    write-admitted a.known a.session a.message.now a.date.now a.index.now a.log.now a.waiting.now a.reply.now p _ _ _ parse.ensures renew2.ensures.anew
    _ c.in-Write.is serve-write.ensures

pub returns-in-Sync : goal.returns-in-Sync
returns-in-Sync c =
    let tag_of = c.tag_of-tag in
    let parse = c.parse-request in
    let renew3 = c.renew-current-in-Sync in
    let serve-sync = c.serve_sync in
    let a = c.args in
    let p = passed a.session a.message.now a.date.now (length a.log.now) (length a.waiting.now) (length a.reply.now) c.requires in
    sync-admitted a.known a.session a.message.now a.date.now a.index.now a.log.now a.waiting.now a.reply.now p _ _ _ parse.ensures renew3.ensures.anew
    _ tag_of.ensures c.in-Sync.is (serve-sync.ensures a.index.now)

pub returns-in_default : goal.returns-in_default
returns-in_default c =
    let parse = c.parse-request in
    let match = c.in_default.in_default-own in
    let hand_on = c.hand_on in
    let a = c.args in
    let p = passed a.session a.message.now a.date.now (length a.log.now) (length a.waiting.now) (length a.reply.now) c.requires in
    hand_on.ensures ∙ others-handed-on a.known a.session a.message.now a.date.now a.index.now a.log.now a.waiting.now a.reply.now p _
    (sym parse.ensures) (opened match.keys4)
