-- Equal scores are skipped unread, a missing block is its refusal, and a refusal stops all.
use native.Mathlib.Omega.{arith}
use borrow.Author.Tests.{le-ltb, ne_eqb}
use Rattle.buffer.proofs.Bytes.{same_refl, same_false}
use Rattle.pair.specs.Opened.{opened}
use Rattle.comparison.specs.Compared.{in_order}
use Rattle.comparison.specs.Compare.{spending, compare_blocks}
use Rattle.comparison.specs.Absent.{EqualScoresUnread, FirstMissing, FirstRefusalStops}

pub equal-scores_unread : EqualScoresUnread
unfolding compare_blocks
equal-scores_unread f log e level nest s left = rw (same_refl s)

pub first-missing : FirstMissing
unfolding compare_blocks spending opened
first-missing f log e level nest s t left n h p m = rw (same_false s t n, le-ltb 16 nest h, ne_eqb left 0 (λ z. omega arith), m)

pub first-refusal_stops : FirstRefusalStops
unfolding in_order
first-refusal_stops at left k i m n w e = rw e
