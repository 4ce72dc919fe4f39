-- Room for a block, and for what waits: the tests of a log with its waiting part, read and met.
use mathlib.Core.Path.{◌≡◌, refl, sym, ap}
use mathlib.Core.Bool.{true, false, cond, ◌&&◌}
use Prim.Native.Nat.{ℕ, ◌+◌, ◌≤◌, ◌<◌}
use lib.Dec.{leb}
use borrow.Author.Tests.{leb-true, le-leb, lt-leb}
use lib.ListN.{length}
use Rattle.bedrock.proofs.Choices.{and-true, and-false}
use Rattle.buffer.specs.Bytes.{Bytes}
use Rattle.sha1_digest.specs.Sha1.{sha1_of}
use Rattle.refusal.specs.declared.Refusal.TheVariants.{NoRoom}
use Rattle.block.specs.Log.{sectors, used}
use Rattle.block.proofs.Joined.{used-joined}
use Rattle.sector_log.specs.Parts.{written_from, moved, beside, room_for, append_row, can_settle, settled}
use Rattle.sector_log.specs.Store.{after_store, receipt, parts_for, appended}
use Rattle.sector_log.specs.Behind.{moved_behind, room_behind, appended_behind}
use Rattle.sector_log.specs.declared.Stored.TheVariants.{New}
use Rattle.std.specs.Prelude.{Ok, Err}

module _ (log w : Bytes) (k : ℕ) where
  pub room-there : used log + used w + k ≤ sectors (length log) → used w + k ≤ sectors (length w) → room_for (beside log w) k ≡ true
  unfolding room_for
  room-there a b = rw (le-leb (used log + used w + k) (sectors (length log)) a, le-leb (used w + k) (sectors (length w)) b)

  pub room-reads : room_for (beside log w) k ≡ true → (used log + used w + k ≤ sectors (length log)) × (used w + k ≤ sectors (length w))
  unfolding room_for
  room-reads h =
      let p = and-true (leb (used log + used w + k) (sectors (length log))) (leb (used w + k) (sectors (length w))) h in
      (leb-true _ _ p.0, leb-true _ _ p.1)

module _ (log w : Bytes) where
  pub can_settle_lem : used log + used w ≤ sectors (length log) → can_settle (beside log w) ≡ true
  unfolding can_settle
  can_settle_lem h = le-leb (used log + used w) (sectors (length log)) h

  pub cannot_settle : sectors (length log) < used log + used w → can_settle (beside log w) ≡ false
  unfolding can_settle
  cannot_settle h = lt-leb (used log + used w) (sectors (length log)) h

  pub settle-reads : can_settle (beside log w) ≡ true → used log + used w ≤ sectors (length log)
  unfolding can_settle
  settle-reads h = leb-true _ _ h

-- ---- behind any number of sectors of both parts

module _ (u n m w k : ℕ) where
  pub room-behind : u + n + k ≤ sectors m → n + k ≤ sectors w → room_behind u n m w k ≡ true
  unfolding room_behind
  room-behind a b = rw (le-leb (u + n + k) (sectors m) a, le-leb (n + k) (sectors w) b)

  pub lacks_behind-log : sectors m < u + n + k → room_behind u n m w k ≡ false
  unfolding room_behind
  lacks_behind-log h = rw (lt-leb (u + n + k) (sectors m) h)

  pub lacks_behind-waiting : sectors w < n + k → room_behind u n m w k ≡ false
  unfolding room_behind
  lacks_behind-waiting h = rw (lt-leb (n + k) (sectors w) h) (and-false (leb (u + n + k) (sectors m)))

-- behind the used sectors of both
pub appended-behind : (log w date : Bytes) (t : ℕ) (d : Bytes) → appended_behind (used log) (used w) log w date t d ≡ appended (beside log w) date t d
unfolding room_behind room_for append_row
appended-behind log w date t d =
    ap (λ (n : ℕ). cond (leb (used log + used w + parts_for date d) (sectors (length log)) && leb (used w + parts_for date d) (sectors (length w)))
    (after_store (receipt (sha1_of d) (Ok (New (record { 0 = n })))) (beside log (written_from (used log) w (record { kind = t; score = sha1_of d; bytes = d; first = n; date = date }))))
    (after_store (receipt (sha1_of d) (Err NoRoom)) (beside log w)))
    (sym (used-joined log w))

pub moved-behind : (log w : Bytes) → moved_behind (used log) (used w) log w ≡ settled (beside log w)
unfolding settled moved
moved-behind log w = refl
