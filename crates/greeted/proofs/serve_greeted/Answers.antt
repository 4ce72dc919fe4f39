use mathlib.Core.Path.{refl, sym, ap, ◌∙◌}
use Rattle.sector_log.specs.Parts.{beside}
use Rattle.request.specs.Step.{greeted}
use Rattle.indexed.specs.Indexed.{keeping, greeted_by}
use Rattle.greeted.proofs.Returns.{greeted_as}
use Rattle.greeted.proofs.serve_greeted.Goals as goal

pub serve_read-requires : goal.serve_read-requires
serve_read-requires c = let parse = c.parse-request in
    let given = c.requires in
    (sym parse.ensures ∙ c.in-Read.is, given.1)

pub serve_write-requires : goal.serve_write-requires
serve_write-requires c = let parse = c.parse-request in
    let given = c.requires in
    (sym parse.ensures ∙ c.in-Write.is, given.1, given.2)

pub returns-in-Unknown : goal.returns-in-Unknown
unfolding greeted_by greeted
returns-in-Unknown c = let args = c.args in
    let parse = c.parse-request in
    let tag_of = c.tag_of-tag in
    let a = args in
    greeted_as _ a.date.now a.index.now (beside a.log.now a.waiting.now) _ _ _ _ _ parse.ensures c.in-Unknown.is tag_of.ensures
    (ap (keeping a.index.now) (c.refuse.ensures _ _))

pub returns-in-Ill : goal.returns-in-Ill
unfolding greeted_by greeted
returns-in-Ill c = let args = c.args in
    let parse = c.parse-request in
    let tag_of = c.tag_of-tag in
    let a = args in
    greeted_as _ a.date.now a.index.now (beside a.log.now a.waiting.now) _ _ _ _ _ parse.ensures c.in-Ill.is tag_of.ensures
    (ap (keeping a.index.now) (c.refuse-in-Ill.ensures _ _))

pub returns-in-Goodbye : goal.returns-in-Goodbye
unfolding greeted_by greeted
returns-in-Goodbye c = let args = c.args in
    let parse = c.parse-request in
    let tag_of = c.tag_of-tag in
    let a = args in
    greeted_as _ a.date.now a.index.now (beside a.log.now a.waiting.now) _ _ _ _ _ parse.ensures c.in-Goodbye.is tag_of.ensures
    (ap (keeping a.index.now) (c.close.ensures _ _ a.reply.now))

pub returns-in-Hello : goal.returns-in-Hello
unfolding greeted_by greeted
returns-in-Hello c = let args = c.args in
    let parse = c.parse-request in
    let tag_of = c.tag_of-tag in
    let a = args in
    greeted_as _ a.date.now a.index.now (beside a.log.now a.waiting.now) _ _ _ _ _ parse.ensures c.in-Hello.is tag_of.ensures
    (ap (keeping a.index.now) (c.refuse-in-Hello.ensures _ _))

pub returns-in-Ping : goal.returns-in-Ping
unfolding greeted_by greeted
returns-in-Ping c = let acknowledge = c.acknowledge in
    let args = c.args in
    let parse = c.parse-request in
    let tag_of = c.tag_of-tag in
    let a = args in
    greeted_as _ a.date.now a.index.now (beside a.log.now a.waiting.now) _ _ _ _ _ parse.ensures c.in-Ping.is tag_of.ensures
    (ap (keeping a.index.now) (acknowledge.ensures _ _))

pub returns-in-Sync : goal.returns-in-Sync
unfolding greeted_by greeted
returns-in-Sync c = let args = c.args in
    let parse = c.parse-request in
    let serve-sync = c.serve_sync in
    let tag_of = c.tag_of-tag in
    let a = args in
    greeted_as _ a.date.now a.index.now (beside a.log.now a.waiting.now) _ _ _ _ _ parse.ensures c.in-Sync.is tag_of.ensures
    (ap (keeping a.index.now) serve-sync.ensures)

pub returns-in-Read : goal.returns-in-Read
unfolding greeted_by greeted
returns-in-Read c = let args = c.args in
    let parse = c.parse-request in
    let a = args in
    greeted_as _ a.date.now a.index.now (beside a.log.now a.waiting.now) _ _ _ _ _ parse.ensures c.in-Read.is refl
    c.serve_read.ensures

pub returns-in-Write : goal.returns-in-Write
unfolding greeted_by greeted
returns-in-Write c =
    let args = c.args in
    let parse = c.parse-request in
    let serve-write = c.serve_write in
    let a = args in
    greeted_as _ a.date.now a.index.now (beside a.log.now a.waiting.now) _ _ _ _ _ parse.ensures c.in-Write.is refl
    serve-write.ensures
