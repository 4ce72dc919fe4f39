use Prim.Native.Nat.{◌+◌, ◌<◌, ◌^◌}
use native.Mathlib.Omega.{arith}
use lib.ListN.{length}
use Rattle.block.proofs.Facts.{parts-bounds}
use Rattle.insert.proofs.Inserted.{parts-dated}
use Rattle.known.proofs.Belongs.{belongs-within}
use Rattle.known_writing.proofs.Writing.{stored-answered}
use borrow.Author.Rules.{rules}
use Rattle.known_writing.proofs.store_block.Goals as goal

pub known_after-after-requires : goal.known_after-after-requires
known_after-after-requires c =
    let parts-of = c.parts_of-count in
    let a = c.args in
    let b = belongs-within a.known (length a.log.now) (length a.waiting.now) c.requires.0 in
    let u : a.known.used.0 + a.known.waits.0 < 2 ^ 64 = omega (arith, b.0, b.1, c.well_formed) in
    let v : a.known.waits.0 + parts-of.result < 2 ^ 64 = omega (arith, b.1, c.well_formed, parts-of.ensures, parts-bounds 389 (omega arith) (length a.«data».now), c.requires.1) in
    (search rules, u, v)

pub answer_store-answer-requires : goal.answer_store-answer-requires
answer_store-answer-requires c =
    c.requires.3

pub returns : goal.returns
returns c =
    let store-known = c.store_known-receipt in
    let enter-stored = c.enter_stored in
    let parts-of = c.parts_of-count in
    let known-after = c.known_after-after in
    let answer-store = c.answer_store-answer in
    let a = c.args in
    stored-answered a.known a.date.now a.kind a.tag a.«data».now a.index.now a.log.now a.waiting.now a.reply.now _ _ _ _ _ _ store-known.ensures
    (answer-store.ensures _ _) enter-stored.ensures
    (parts-dated a.date.now a.«data».now _ c.requires.2 parts-of.ensures) known-after.ensures
