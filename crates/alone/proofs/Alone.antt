-- A store in a log for which nothing waits is the store of one whose first part is blank.
use mathlib.Core.Path.{◌≡◌, refl, sym, ap, ap₂, ◌∙◌}
use mathlib.Core.Bool.{Bool, true, false, cond, and_self}
use mathlib.Core.Option.{some}
use Prim.Native.Nat.{ℕ, ◌+◌}
use native.Mathlib.Nat.{sub-zero, zero-add}
use lib.Dec.{leb}
use lib.ListN.{length, replicate, length-replicate}
use Rattle.bedrock.specs.Choice.{on}
use Rattle.buffer.specs.Bytes.{Bytes}
use Rattle.sha1_digest.specs.Sha1.{sha1_of}
use Rattle.block.specs.Block.{Row, written}
use Rattle.block.specs.declared.Block.{Block}
use Rattle.block.specs.Log.{sectors, joined, used, bytes_of}
use Rattle.block.proofs.Used.{used-void}
use Rattle.reader.specs.Reader.{placed}
use Rattle.lookup.proofs.Held.{held-stands}
use Rattle.lookup.proofs.Outcomes.{placed-some, placed-none}
use Rattle.sector_log.specs.LookUp.{held}
use Rattle.sector_log.specs.Parts.{tape, written_from, alone, beside, room_for, append_row}
use Rattle.sector_log.specs.Store.{AfterStore, after_store, receipt, new_row, parts_for, appended, compared, store}
use Rattle.sector_log.specs.declared.Stored.{Stored}
use Rattle.sector_log.specs.declared.Stored.TheVariants.{New}
use Rattle.refusal.specs.declared.Refusal.TheVariants.{NoRoom}
use Rattle.std.specs.Prelude.{Some, None, Option as Optional, Ok, Err, Result}
use Rattle.refusal.specs.declared.Refusal.{Refusal}

-- nothing before a run is the run
pub nothing-before : (log w : Bytes) → joined 0 log w ≡ w
unfolding joined
nothing-before log w = refl

from_zero : (w : Bytes) (r : Row) → written_from 0 w r ≡ written w r
unfolding written_from written
from_zero w r = rw sub-zero

-- a part that waits behind nothing, as a log
abbrev only : AfterStore → AfterStore
only a = after_store a.receipt (alone (on a.lent.waiting a.lent.log (λ w. w)))

module _ (log w : Bytes) (u : used log ≡ 0) (l : sectors (length log) ≡ sectors (length w)) where
  tape-is-waiting : tape log w ≡ w
  tape-is-waiting = ap (λ (n : ℕ). joined n log w) u ∙ nothing-before log w

  room-alone : (k : ℕ) → room_for (beside log w) k ≡ room_for (alone w) k
  unfolding room_for
  room-alone k = rw (u, l, zero-add (used w)) (and_self (leb (used w + k) (sectors (length w))))

  row-alone : (r : Row) → written_from (used log) w r ≡ written w r
  row-alone r = ap (λ (n : ℕ). written_from n w r) u ∙ from_zero w r

  row-alone-new : (date : Bytes) (t : ℕ) (d : Bytes) → written_from (used log) w (new_row (beside log w) date t d) ≡ written w (new_row (alone w) date t d)
  row-alone-new date t d =
      row-alone (new_row (beside log w) date t d) ∙ ap (λ (x : Bytes). written w (record { kind = t; score = sha1_of d; bytes = d; first = used x; date = date })) tape-is-waiting

  only_by_room : (date : Bytes) (t : ℕ) (d : Bytes) (b : Bool)
      → only (cond b (after_store (receipt (sha1_of d) (Ok (New (record { 0 = used (tape log w) })))) (append_row (beside log w) (new_row (beside log w) date t d)))
      (after_store (receipt (sha1_of d) (Err NoRoom)) (beside log w)))
      ≡ cond b (after_store (receipt (sha1_of d) (Ok (New (record { 0 = used w })))) (append_row (alone w) (new_row (alone w) date t d)))
      (after_store (receipt (sha1_of d) (Err NoRoom)) (alone w))
  unfolding append_row
  only_by_room date t d true =
      ap₂ (λ (x y : Bytes). after_store (receipt (sha1_of d) (Ok (New (record { 0 = used x })))) (alone y)) tape-is-waiting (row-alone-new date t d)
  only_by_room date t d false = refl

  only-appended : (date : Bytes) (t : ℕ) (d : Bytes) → only (appended (beside log w) date t d) ≡ appended (alone w) date t d
  only-appended date t d = rw (room-alone (parts_for date d)) (only_by_room date t d (room_for (alone w) (parts_for date d)))

-- ---- a store, by what look-up finds

module _ (w : Bytes) (t : ℕ) (date d s : Bytes) (p : Optional Block) (r : Result Stored Refusal) (g : s ≡ sha1_of d) (e : p ≡ placed (held (joined 0 w w) t s)) where
  found : p ≡ placed (held w t s)
  found = e ∙ ap (λ (x : Bytes). placed (held x t s)) (nothing-before w w)

  pub alone-found : (b : Block) → p ≡ Some b
      → after_store (receipt (sha1_of d) r) (alone w) ≡ compared (alone w) (bytes_of (joined 0 w w) b) b.first.0 d → after_store (receipt s r) (alone w) ≡ store (alone w) date t d
  unfolding store
  alone-found b z c =
      let q = placed-some (held w t s) p b found z in
      let h : held w t (sha1_of d) ≡ some q.0 = ap (held w t) (sym g) ∙ q.1 in
      let x : bytes_of (joined 0 w w) b ≡ q.0.bytes =
      ap (λ (y : Bytes). bytes_of y b) (nothing-before w w) ∙ ap (bytes_of w) q.2 ∙ sym (held-stands w t s q.0 q.1).bytes-there in
      rw (g, h) (c ∙ ap₂ (λ (y : Bytes) (k : Block). compared (alone w) y k.first.0 d) x q.2)

  pub alone-new : (w' : Bytes) → p ≡ None
      → ((log : Bytes) → sectors (length log) ≡ sectors (length w) → used log ≡ 0 → after_store (receipt (sha1_of d) r) (beside log w') ≡ appended (beside log w) date t d)
      → after_store (receipt s r) (alone w') ≡ store (alone w) date t d
  unfolding store
  alone-new w' z c =
      let void : Bytes = replicate (length w) 0 in
      let l : sectors (length void) ≡ sectors (length w) = ap sectors (length-replicate (length w) 0) in
      rw (g, ap (held w t) (sym g) ∙ placed-none (held w t s) p found z)
      (ap only (c void l (used-void (length w))) ∙ only-appended void w (used-void (length w)) l date t d)
