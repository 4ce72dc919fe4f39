use mathlib.Core.Path.{ap, ◌∙◌}
use native.Mathlib.Omega.{arith}
use lib.ListN.{length}
use Rattle.block.proofs.Facts.{parts-bounds}
use Rattle.sha1_digest.proofs.Digest.{digest_length}
use Rattle.insert.proofs.Inserted.{lacks_in_waiting, lacks_in_log, has_room_lem, parts-dated}
use Rattle.insert.proofs.append_behind.Goals as goal

pub overflow_add-waits : goal.overflow_add-waits
overflow_add-waits c =
    let a = c.args in
    let q = c.requires in
    let parts-of = c.parts_of-count in
    omega (arith, parts-of.ensures, parts-bounds 389 (omega arith) (length (a.«data»).now), q.0, q.4)

pub returns-then-waiting-waits : goal.returns-then-waiting-waits
returns-then-waiting-waits c =
    let a = c.args in
    let q = c.requires in
    let parts-of = c.parts_of-count in
    let if1 = c.if-waiting-waits in
    let n = parts-dated a.date.now (a.«data»).now _ q.1 parts-of.ensures in
    λ log p. lacks_in_waiting a.from.0 a.waits.0 log a.waiting.now a.date.now a.kind (a.«data»).now (omega (arith, n, if1.true))

pub returns-then-most-first : goal.returns-then-most-first
returns-then-most-first c =
    let a = c.args in
    let q = c.requires in
    let parts-of = c.parts_of-count in
    let if2 = c.if-most-first in
    let n = parts-dated a.date.now (a.«data»).now _ q.1 parts-of.ensures in
    λ log p. lacks_in_log a.from.0 a.waits.0 log a.waiting.now a.date.now a.kind (a.«data»).now (omega (arith, n, p, if2.true))

pub append_block-requires : goal.append_block-requires
append_block-requires c =
    let a = c.args in
    let q = c.requires in
    let parts-of = c.parts_of-count in
    let if1 = c.if-waiting-waits in
    let n = parts-dated a.date.now (a.«data»).now _ q.1 parts-of.ensures in
    (q.0, ap length q.2 ∙ digest_length (a.«data»).now, q.1, omega arith, omega (arith, n, if1.false))

pub returns : goal.returns
returns c =
    let a = c.args in
    let q = c.requires in
    let parts-of = c.parts_of-count in
    let if1 = c.if-waiting-waits in
    let if2 = c.if-most-first in
    let append-block = c.append_block in
    let n = parts-dated a.date.now (a.«data»).now _ q.1 parts-of.ensures in
    λ log p. has_room_lem a.from.0 a.waits.0 log a.waiting.now a.date.now a.kind (a.«data»).now a.score.now _ q.2
    (omega (arith, n, p, if2.false)) (omega (arith, n, if1.false)) append-block.ensures
