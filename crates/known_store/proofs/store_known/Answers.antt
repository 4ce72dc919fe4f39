use native.Mathlib.Omega.{arith}
use lib.ListN.{length}
use Rattle.block.proofs.Joined.{sectors-joined}
use Rattle.sector_log.specs.Parts.{beside}
use Rattle.known.proofs.Belongs.{belongs-within}
use Rattle.lookup.proofs.Held.{found_within}
use Rattle.known_store.proofs.Found.{owner-found}
use Rattle.known_store.proofs.Stored.{store_found, store-new}
use borrow.Author.Rules.{rules}
use Rattle.known_store.proofs.store_known.Goals as goal

pub find_owner-requires : goal.find_owner-requires
find_owner-requires c =
    let a = c.args in
    let q = c.requires in
    let b = belongs-within a.known (length a.log.now) (length a.waiting.now) q.0 in
    (b.0, search rules)

pub append_behind-stored-requires : goal.append_behind-stored-requires
append_behind-stored-requires c =
    let a = c.args in
    let q = c.requires in
    let sha1 = c.sha1-score in
    let b = belongs-within a.known (length a.log.now) (length a.waiting.now) q.0 in
    (q.1, q.2, sha1.ensures, omega (arith, b.0), b.1)

pub returns-in_default : goal.returns-in_default
returns-in_default c =
    let a = c.args in
    let sha1 = c.sha1-score in
    let find-owner = c.find_owner in
    let append-behind = c.append_behind-stored in
    store-new a.known a.log.now a.waiting.now a.index.now a.date.now a.kind (a.«data»).now _ _ _ sha1.ensures find-owner.ensures _
    c.in_default.is (append-behind.ensures a.log.now (omega arith))

pub compare-stored-requires : goal.compare-stored-requires
compare-stored-requires c =
    let a = c.args in
    let q = c.requires in
    let find-owner = c.find_owner in
    let b = belongs-within a.known (length a.log.now) (length a.waiting.now) q.0 in (
      b.0,
      found_within (owner-found a.known a.log.now a.waiting.now a.index.now a.kind _ find-owner.ensures c.in-Some.is) _
          (sectors-joined a.known.used.0 a.log.now a.waiting.now b.0),
    )

pub returns : goal.returns
returns c =
    let a = c.args in
    let sha1 = c.sha1-score in
    let find-owner = c.find_owner in
    let compare = c.compare-stored in
    store_found a.known a.log.now a.waiting.now a.index.now a.date.now a.kind (a.«data»).now _ _ _ sha1.ensures find-owner.ensures _
    c.in-Some.is (compare.ensures (beside a.log.now a.waiting.now))
