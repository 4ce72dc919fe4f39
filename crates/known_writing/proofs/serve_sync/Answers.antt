use native.Mathlib.Omega.{arith}
use lib.ListN.{length}
use borrow.Author.Tests.{not-true, not-false}
use Rattle.known.proofs.Belongs.{belongs-within}
use Rattle.known_writing.proofs.Syncing.{sync-refused, sync-moved}
use Rattle.known_writing.proofs.serve_sync.Goals as goal

pub returns-then-not-settle_known : goal.returns-then-not-settle_known
returns-then-not-settle_known c =
    let settle-known = c.settle_known in
    let if1 = c.if-not-settle_known in
    let refuse = c.refuse-answer in
    let a = c.args in
    λ index. sync-refused a.known a.tag index a.log.now a.waiting.now a.reply.now _ _ _ settle-known.ensures.fits settle-known.ensures.lent if1.true
    (refuse.ensures _ _)

pub after_sync-settled-requires : goal.after_sync-settled-requires
after_sync-settled-requires c =
    let a = c.args in
    let b = belongs-within a.known (length a.log.now) (length a.waiting.now) c.requires.0 in
    omega (arith, b.0, b.1)

pub returns : goal.returns
returns c =
    let settle-known = c.settle_known in
    let if1 = c.if-not-settle_known in
    let acknowledge = c.acknowledge-answer in
    let after-sync = c.after_sync-settled in
    let a = c.args in
    λ index. sync-moved a.known a.tag index a.log.now a.waiting.now a.reply.now _ _ _ settle-known.ensures.fits settle-known.ensures.lent if1.false
    (acknowledge.ensures _ _) _ after-sync.ensures
