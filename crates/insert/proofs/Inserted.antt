-- A block that look-up did not find: no room, or room.
use mathlib.Core.Path.{◌≡◌, sym, ap, ◌∙◌}
use mathlib.Core.Bool.{false}
use Prim.Native.Nat.{ℕ, ◌+◌, ◌≤◌, ◌<◌}
use lib.ListN.{length}
use Rattle.buffer.specs.Bytes.{Bytes}
use Rattle.sha1_digest.specs.Sha1.{sha1_of}
use Rattle.refusal.specs.declared.Refusal.TheVariants.{NoRoom}
use Rattle.sector.specs.Sector.{payload_of}
use Rattle.sector.proofs.Dates.{front-eight}
use Rattle.block.specs.Block.{parts_of}
use Rattle.block.specs.Log.{sectors, used}
use Rattle.sector_log.specs.Parts.{written_from, beside}
use Rattle.sector_log.specs.Store.{after_store, receipt, parts_for, appended}
use Rattle.sector_log.specs.Behind.{room_behind, appended_behind}
use Rattle.sector_log.specs.declared.Stored.TheVariants.{New}
use Rattle.sector_log.proofs.Room.{room-behind, lacks_behind-log, lacks_behind-waiting, appended-behind}
use Rattle.std.specs.Prelude.{Ok, Err}

module _ (u n : ℕ) (log w date : Bytes) (t : ℕ) (d : Bytes) where
  refused : room_behind u n (length log) (length w) (parts_for date d) ≡ false
      → after_store (receipt (sha1_of d) (Err NoRoom)) (beside log w) ≡ appended_behind u n log w date t d
  refused h = rw h

  pub lacks_in_waiting : sectors (length w) < n + parts_for date d → after_store (receipt (sha1_of d) (Err NoRoom)) (beside log w) ≡ appended_behind u n log w date t d
  lacks_in_waiting h = refused (lacks_behind-waiting u n (length log) (length w) (parts_for date d) h)

  pub lacks_in_log : sectors (length log) < u + n + parts_for date d → after_store (receipt (sha1_of d) (Err NoRoom)) (beside log w) ≡ appended_behind u n log w date t d
  lacks_in_log h = refused (lacks_behind-log u n (length log) (length w) (parts_for date d) h)

  pub has_room_lem : (s w' : Bytes) → s ≡ sha1_of d → u + n + parts_for date d ≤ sectors (length log) → n + parts_for date d ≤ sectors (length w)
      → w' ≡ written_from u w (record { kind = t; score = s; bytes = d; first = u + n; date = date })
      → after_store (receipt (sha1_of d) (Ok (New (record { 0 = u + n })))) (beside log w') ≡ appended_behind u n log w date t d
  has_room_lem s w' f a b p =
      let q : w' ≡ written_from u w (record { kind = t; score = sha1_of d; bytes = d; first = u + n; date = date }) =
      p ∙ (λ i. written_from u w (record { kind = t; score = f i; bytes = d; first = u + n; date = date })) in
      rw (room-behind u n (length log) (length w) (parts_for date d) a b) (ap (λ (x : Bytes). after_store (receipt (sha1_of d) (Ok (New (record { 0 = u + n })))) (beside log x)) q)

  -- behind the used sectors of both parts
  pub behind-used : used log ≡ u → n ≡ used w → appended_behind u n log w date t d ≡ appended (beside log w) date t d
  behind-used a b = (λ i. appended_behind (sym a i) (b i) log w date t d) ∙ appended-behind log w date t d

-- a date's labels
pub parts-dated : (date d : Bytes) (n : ℕ) → length date ≡ 8 → n ≡ parts_of (payload_of (14 + 96)) (length d) → n ≡ parts_for date d
parts-dated date d n h e = e ∙ ap (λ (k : ℕ). parts_of (payload_of (k + 96)) (length d)) (sym (front-eight date h))
