-- Laws of a log with its waiting part that the ledger's theorem asks for: a row written, all settled, the log alone, growth.
use mathlib.Core.Path.{◌≡◌, refl, sym, ap, ap₂, ◌∙◌}
use mathlib.Core.Bool.{Bool, true, false, cond, ◌&&◌, false≢true, true≢false}
use mathlib.Core.List.{◌++◌}
use mathlib.Core.Option.{Option, none, some}
use Prim.Native.Nat.{ℕ, ◌+◌, ◌-◌, ◌*◌, ◌%◌, ◌≤◌, ◌<◌}
use native.Mathlib.Omega.{arith}
use lib.Dec.{leb, ltb, eqb}
use lib.ListN.{length, take, replicate, length-take, length-replicate}
use lib.Seq.{take-append-le}
use borrow.Author.Tests.{leb-true, lt-leb, ltb-true, ltb-false}
use Rattle.bedrock.specs.Choice.{on}
use Rattle.bedrock.specs.Places.{within}
use Rattle.bedrock.proofs.Choices.{and-true}
use Rattle.buffer.specs.Bytes.{Bytes}
use Rattle.buffer.proofs.Put.{length-put}
use Rattle.sector.specs.Sector.{blank}
use Rattle.block.specs.Block.{Row, parts, image, valid, written}
use Rattle.block.specs.Log.{sectors, at, Alike, joined, used}
use Rattle.block.proofs.At.{at-void}
use Rattle.block.proofs.Used.{used-void, used_le_sectors, at-beyond}
use Rattle.block.proofs.Joined.{at-log, length-joined, sectors-joined, used-joined}
use Rattle.block.proofs.Alike.{used-alike}
use Rattle.block.proofs.Written.{length-written, at-written}
use Rattle.sector_log.specs.Parts.{Lent, one_log, tape, written_from, moved, room_for, append_row, can_settle, settled}
use Rattle.sector_log.proofs.Room.{room-reads, settle-reads}
use Rattle.sector_log.proofs.Parts.{tape-alone, tape-written, at_moved, used-moved}
use Rattle.demands.specs.Ledger.{Extent, room_from}
use Rattle.demands.specs.Instance.{extent_of, void, relent, grown, length_of, blank_part}
use Rattle.demands.proofs.LogLaws.{at-grown, used-grown, length-grown}

-- ---- a blank part

pub length-blank : (o : Option ℕ) → length_of (blank_part o) ≡ o
length-blank none = refl
length-blank (some m) = ap some (length-replicate {A = ℕ} m 0)

-- behind a log, or none: the sectors are the log's
pub blank-behind : (log : Bytes) (o : Option ℕ) → Alike (one_log (record { log = log; waiting = blank_part o })) log
blank-behind log none n = refl
blank-behind log (some m) n = tape-alone log (replicate m 0) (used-void m) n

pub extent-void : (x : Extent) → extent_of (void x) ≡ x
extent-void x = λ i. record { size = length-replicate {A = ℕ} x.size 0 i; waiting = length-blank x.waiting i }

pub at-blank : (x : Extent) (n : ℕ) → at (one_log (void x)) n ≡ blank
at-blank x n = blank-behind (replicate x.size 0) x.waiting n ∙ at-void x.size n

-- ---- the log alone

pub extent-alone : (o : Option ℕ) (L : Lent) → extent_of (relent o L) ≡ record { size = length L.log; waiting = o }
extent-alone o L = λ i. record { size = length L.log; waiting = length-blank o i }

pub start-alone : (o : Option ℕ) (L : Lent) → used L.log ≡ used (one_log (relent o L))
start-alone o L = sym (used-alike (one_log (relent o L)) L.log (blank-behind L.log o))

front_same : (log : Bytes) (o : Option Bytes) (n : ℕ) → n < used log → at (one_log (record { log = log; waiting = o })) n ≡ at log n
front_same log none n h = refl
front_same log (some w) n h = at-log (used log) log w (used_le_sectors log) n h

pub at-alone : (o : Option ℕ) (L : Lent) (n : ℕ) → at (one_log (relent o L)) n ≡ cond (ltb n (used L.log)) (at (one_log L) n) blank
at-alone o L n = blank-behind L.log o n ∙ go (ltb n (used L.log)) refl
  where
    go : (b : Bool) → ltb n (used L.log) ≡ b → at L.log n ≡ cond b (at (one_log L) n) blank
    go true q = sym (front_same L.log L.waiting n (ltb-true n (used L.log) q))
    go false q = at-beyond L.log n (ltb-false n (used L.log) q)

-- ---- where no waiting part is lent

pub start_none : (log : Bytes) (o : Option Bytes) → on (length_of o) false (λ (m : ℕ). true) ≡ false → used log ≡ used (one_log (record { log = log; waiting = o }))
start_none log none e = refl
start_none log (some w) e = absurd (true≢false e)

pub start-before : (log : Bytes) (o : Option Bytes) → used log ≤ used (one_log (record { log = log; waiting = o }))
start-before log none = omega arith
start-before log (some w) = omega (arith, used-joined log w)

-- ---- room

pub room-inside : (x : Extent) (e f k : ℕ) → room_from x e f k ≡ true → f + k ≤ sectors x.size
unfolding room_from
room-inside x e f k h = go x.waiting h
  where
    go : (o : Option ℕ) → on o (leb (f + k) (sectors x.size)) (λ (m : ℕ). leb (f + k) (sectors x.size) && leb (f - e + k) (sectors m)) ≡ true → f + k ≤ sectors x.size
    go none q = leb-true (f + k) (sectors x.size) q
    go (some m) q = leb-true (f + k) (sectors x.size) (and-true (leb (f + k) (sectors x.size)) (leb (f - e + k) (sectors m)) q).0

room-waiting : (n m e f k : ℕ) → room_from (record { size = n; waiting = some m }) e f k ≡ true → f - e + k ≤ sectors m
unfolding room_from
room-waiting n m e f k q = leb-true (f - e + k) (sectors m) (and-true (leb (f + k) (sectors n)) (leb (f - e + k) (sectors m)) q).1

-- the archive's room is the ledger's
pub room-same : (log : Bytes) (o : Option Bytes) (k : ℕ) → let L : Lent = record { log = log; waiting = o } in
    room_for L k ≡ room_from (extent_of L) (used log) (used (one_log L)) k
unfolding room_for room_from
room-same log none k = refl
room-same log (some w) k =
    let e : used log + used w ≡ used (tape log w) = sym (used-joined log w) in
    let g : used w ≡ used (tape log w) - used log = omega (arith, used-joined log w) in
    ap₂ (λ (a b : ℕ). leb (a + k) (sectors (length log)) && leb (b + k) (sectors (length w))) e g

-- ---- a row written

module _ (log w : Bytes) (r : Row) (ok : valid r ≡ true) (behind : used log ≤ r.first) (fit : r.first - used log + parts r ≤ sectors (length w)) where
  inside : r.first + parts r ≤ sectors (length (tape log w))
  inside = omega (arith, sectors-joined (used log) log w (used_le_sectors log), behind, fit)

  pub length-beside : length (written_from (used log) w r) ≡ length w
  length-beside =
      let a = ap length (tape-written log w r behind) in
      let b = length-written (tape log w) r ok inside in
      omega (arith, a, b, length-joined (used log) log w (used_le_sectors log), length-joined (used log) log (written_from (used log) w r) (used_le_sectors log))

  pub at-beside : (n : ℕ) → at (tape log (written_from (used log) w r)) n ≡ cond (within r.first (parts r) n) (image r (n - r.first)) (at (tape log w) n)
  at-beside n = ap (λ (x : Bytes). at x n) (tape-written log w r behind) ∙ at-written (tape log w) r ok inside n

module _ (r : Row) (ok : valid r ≡ true) where
  pub extent-written : (log : Bytes) (o : Option Bytes) → let L : Lent = record { log = log; waiting = o } in
      used log ≤ r.first → room_from (extent_of L) (used log) r.first (parts r) ≡ true → extent_of (append_row L r) ≡ extent_of L
  unfolding append_row
  extent-written log none b fit =
      let e = length-written log r ok (room-inside (record { size = length log; waiting = none }) (used log) r.first (parts r) fit) in
      λ i. record { size = e i; waiting = none }
  extent-written log (some w) b fit =
      let e = length-beside log w r ok b (room-waiting (length log) (length w) (used log) r.first (parts r) fit) in
      λ i. record { size = length log; waiting = some (e i) }

  pub at_appended : (log : Bytes) (o : Option Bytes) (n : ℕ) → let L : Lent = record { log = log; waiting = o } in
      used log ≤ r.first → room_from (extent_of L) (used log) r.first (parts r) ≡ true
      → at (one_log (append_row L r)) n ≡ cond (within r.first (parts r) n) (image r (n - r.first)) (at (one_log L) n)
  unfolding append_row
  at_appended log none n b fit = at-written log r ok (room-inside (record { size = length log; waiting = none }) (used log) r.first (parts r) fit) n
  at_appended log (some w) n b fit = at-beside log w r ok b (room-waiting (length log) (length w) (used log) r.first (parts r) fit) n

pub start-written : (log : Bytes) (o : Option Bytes) (r : Row) → on (length_of o) false (λ (m : ℕ). true) ≡ true
    → used (append_row (record { log = log; waiting = o }) r).log ≡ used log
unfolding append_row
start-written log none r e = absurd (false≢true e)
start-written log (some w) r e = refl

-- both read as one log have the row written
pub one-appended : (log : Bytes) (o : Option Bytes) (r : Row) → let L : Lent = record { log = log; waiting = o } in
    r.first ≡ used (one_log L) → one_log (append_row L r) ≡ written (one_log L) r
unfolding append_row
one-appended log none r e = refl
one-appended log (some w) r e = tape-written log w r (omega (arith, e, used-joined log w))

-- a block that has room has it in both read as one log, and in the log
pub room-one : (log : Bytes) (o : Option Bytes) (k : ℕ) → let L : Lent = record { log = log; waiting = o } in
    room_for L k ≡ true → (used (one_log L) + k ≤ sectors (length (one_log L))) × (used (one_log L) + k ≤ sectors (length log))
unfolding room_for
room-one log none k q = let h = leb-true (used log + k) (sectors (length log)) q in (h, h)
room-one log (some w) k q =
    let p = room-reads log w k q in
    (omega (arith, p.1, used-joined log w, sectors-joined (used log) log w (used_le_sectors log)), omega (arith, p.0, used-joined log w))

-- ---- all settled

module _ (log w : Bytes) (room : used (tape log w) ≤ sectors (length log)) where
  both : used log + used w ≤ sectors (length log)
  both = omega (arith, room, used-joined log w)

  length_moved : length (moved log w) ≡ length log
  unfolding moved
  length_moved = length-put log (512 * used log) (take (512 * used w) w) (omega (arith, both, length-take (512 * used w) w))

  at-tape : (n : ℕ) → at (tape (moved log w) (replicate (length w) 0)) n ≡ at (tape log w) n
  at-tape n = tape-alone (moved log w) (replicate (length w) 0) (used-void (length w)) n ∙ at_moved log w both n

pub extent-settled : (log : Bytes) (o : Option Bytes) → let L : Lent = record { log = log; waiting = o } in
    used (one_log L) ≤ sectors (length log) → extent_of (settled L) ≡ extent_of L
unfolding settled
extent-settled log none h = refl
extent-settled log (some w) h =
    let e = length_moved log w h in
    let f : length {A = ℕ} (replicate (length w) 0) ≡ length w = length-replicate {A = ℕ} (length w) 0 in
    λ i. record { size = e i; waiting = some (f i) }

pub start-settled : (log : Bytes) (o : Option Bytes) → let L : Lent = record { log = log; waiting = o } in
    used (one_log L) ≤ sectors (length log) → used (settled L).log ≡ used (one_log L)
unfolding settled
start-settled log none h = refl
start-settled log (some w) h = used-moved log w (both log w h)

pub at-settled : (log : Bytes) (o : Option Bytes) (n : ℕ) → let L : Lent = record { log = log; waiting = o } in
    used (one_log L) ≤ sectors (length log) → at (one_log (settled L)) n ≡ at (one_log L) n
unfolding settled
at-settled log none n h = refl
at-settled log (some w) n h = at-tape log w h n

-- what can be settled fits into the log
pub settle-fits : (log : Bytes) (o : Option Bytes) → let L : Lent = record { log = log; waiting = o } in can_settle L ≡ true → used (one_log L) ≤ sectors (length log)
settle-fits log none q = used_le_sectors log
settle-fits log (some w) q = omega (arith, settle-reads log w q, used-joined log w)

-- what is in the log stays there, where a row is written and where all is settled
pub front-appended : (log : Bytes) (o : Option Bytes) (r : Row) (k : ℕ) → let L : Lent = record { log = log; waiting = o } in
    valid r ≡ true → r.first ≡ used (one_log L) → used (one_log L) + parts r ≤ sectors (length (one_log L)) → k < used log → at (append_row L r).log k ≡ at log k
unfolding append_row
front-appended log none r k v f room h = at-written log r v (omega (arith, f, room)) k ∙ rw (lt-leb r.first k (omega (arith, f, h)))
front-appended log (some w) r k v f room h = refl

pub front-settled : (log : Bytes) (o : Option Bytes) (k : ℕ) → let L : Lent = record { log = log; waiting = o } in
    used (one_log L) ≤ sectors (length log) → k < used log → at (settled L).log k ≡ at log k
unfolding settled
front-settled log none k room h = refl
front-settled log (some w) k room h = at_moved log w (both log w room) k ∙ at-log (used log) log w (used_le_sectors log) k h

-- ---- growth

pub extent-grown : (k : ℕ) (L : Lent) → extent_of (record { log = grown k L.log; waiting = L.waiting }) ≡ record { size = length L.log + 512 * k; waiting = length_of L.waiting }
extent-grown k L = λ i. record { size = length-grown k L.log i; waiting = length_of L.waiting }

pub tape-grown : (k : ℕ) (log w : Bytes) → eqb (length log % 512) 0 ≡ true → tape (grown k log) w ≡ tape log w
unfolding joined grown
tape-grown k log w may =
    ap (λ (u : ℕ). take (512 * u) (grown k log) ++ w) (used-grown k log may)
    ∙ ap (λ (x : Bytes). x ++ w) (take-append-le (512 * used log) log (replicate (512 * k) 0) (omega (arith, used_le_sectors log)))

pub one-grown : (k : ℕ) (log : Bytes) (o : Option Bytes) (n : ℕ) → eqb (length log % 512) 0 ≡ true
    → at (one_log (record { log = grown k log; waiting = o })) n ≡ at (one_log (record { log = log; waiting = o })) n
one-grown k log none n may = at-grown k log n may
one-grown k log (some w) n may = ap (λ (x : Bytes). at x n) (tape-grown k log w may)
