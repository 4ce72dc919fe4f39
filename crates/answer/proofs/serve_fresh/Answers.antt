use mathlib.Core.Path.{refl}
use Rattle.sector_log.specs.Parts.{beside}
use Rattle.request.specs.Step.{fresh}
use Rattle.answer.proofs.Returns.{fresh_as}
use Rattle.answer.proofs.serve_fresh.Goals as goal

pub returns-in-Unknown : goal.returns-in-Unknown
unfolding fresh
returns-in-Unknown c = let parse = c.parse-request in
    let tag_of = c.tag_of-tag in
    λ log w. fresh_as _ (beside log w) _ _ _ _ _ parse.ensures c.in-Unknown.is tag_of.ensures (c.refuse.ensures log w)

pub returns-in-Ill : goal.returns-in-Ill
unfolding fresh
returns-in-Ill c = let parse = c.parse-request in
    let tag_of = c.tag_of-tag in
    λ log w. fresh_as _ (beside log w) _ _ _ _ _ parse.ensures c.in-Ill.is tag_of.ensures (c.refuse-in-Ill.ensures log w)

pub returns-in-Goodbye : goal.returns-in-Goodbye
unfolding fresh
returns-in-Goodbye c = let args = c.args in
    let parse = c.parse-request in
    let tag_of = c.tag_of-tag in
    λ log w. fresh_as _ (beside log w) _ _ _ _ _ parse.ensures c.in-Goodbye.is tag_of.ensures (c.close.ensures log w args.reply.now)

pub returns-in-Hello : goal.returns-in-Hello
returns-in-Hello c = let parse = c.parse-request in
    λ log w. fresh_as _ (beside log w) _ _ _ _ _ parse.ensures c.in-Hello.is refl (c.greet.ensures log w)

pub returns-in-Ping : goal.returns-in-Ping
unfolding fresh
returns-in-Ping c = let parse = c.parse-request in
    let tag_of = c.tag_of-tag in
    λ log w. fresh_as _ (beside log w) _ _ _ _ _ parse.ensures c.in-Ping.is tag_of.ensures (c.refuse-in-Ping.ensures log w)

pub returns-in-Sync : goal.returns-in-Sync
unfolding fresh
returns-in-Sync c = let parse = c.parse-request in
    let tag_of = c.tag_of-tag in
    λ log w. fresh_as _ (beside log w) _ _ _ _ _ parse.ensures c.in-Sync.is tag_of.ensures (c.refuse-in-Sync.ensures log w)

pub returns-in-Read : goal.returns-in-Read
unfolding fresh
returns-in-Read c = let parse = c.parse-request in
    let tag_of = c.tag_of-tag in
    λ log w. fresh_as _ (beside log w) _ _ _ _ _ parse.ensures c.in-Read.is tag_of.ensures (c.refuse-in-Read.ensures log w)

pub returns-in-Write : goal.returns-in-Write
unfolding fresh
returns-in-Write c = let parse = c.parse-request in
    let tag_of = c.tag_of-tag in
    λ log w. fresh_as _ (beside log w) _ _ _ _ _ parse.ensures c.in-Write.is tag_of.ensures (c.refuse-in-Write.ensures log w)
