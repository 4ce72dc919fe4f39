-- A date with each request: each claim of specs/Dates.antt.
use mathlib.Core.Path.{◌≡◌, refl, sym, ap, ◌∙◌}
use mathlib.Core.Bool.{Bool, true, false}
use mathlib.Core.Option.{Option, none, some}
use Prim.Native.Nat.{ℕ}
use native.Mathlib.Omega.{arith}
use lib.ListN.{length}
use borrow.Author.Tests.{le-ltb}
use Rattle.buffer.specs.Bytes.{Bytes}
use Rattle.buffer.proofs.Bytes.{same_refl, small-drop}
use Rattle.digits.specs.Number.{small}
use Rattle.sha1_digest.specs.Sha1.{sha1_of}
use Rattle.block.specs.Block.{Row, valid}
use Rattle.block.specs.Log.{used}
use Rattle.sector_log.specs.LookUp as look
use Rattle.sector_log.specs.Parts.{Lent, one_log, room_for, append_row}
use Rattle.sector_log.specs.Store as stores
use Rattle.sector_log.proofs.Written.{held-appended}
use Rattle.sector_log.proofs.Allowed.{row-valid, some_bytes}
use Rattle.request.specs.Step.{Outcome, reply_room, date_of, in_session, step}
use Rattle.request.specs.declared.Session.TheVariants.{Fresh, Greeted, Closed as Shut}
use Rattle.promises.specs.Requests.{Writes}
use Rattle.promises.specs.Dates as claims
use Rattle.demands.proofs.Seen.{stored_as, kept}
use Rattle.demands.proofs.TellAdds.{date_or_none, log-allowed-of}
use Rattle.demands.proofs.LentLaws.{room-one, one-appended}
use Rattle.promises.proofs.Greeted.{write_step}
use Rattle.promises.proofs.Keeps.{list_keeps}

pub date-refused : claims.DateRefused
unfolding step in_session
date-refused Fresh m d L buffer f b a o n = rw (f, le-ltb (length buffer) reply_room b, a, n)
date-refused Greeted m d L buffer f b a o n = rw (f, le-ltb (length buffer) reply_room b, a, n)
date-refused Shut m d L buffer f b a o n = absurd (o refl)

pub closed_before-date : claims.ClosedBeforeDate
unfolding step in_session
closed_before-date m date L buffer f b a = rw (f, le-ltb (length buffer) reply_room b, a)

pub date-is_no_identity : claims.DateIsNoIdentity
unfolding stores.store
date-is_no_identity t d m date L buffer r e same_bytes W =
    write_step m date buffer L t d W ∙ ap (λ o. kept m buffer (stored_as L (date_of date) t d o)) e ∙ rw (same_bytes, same_refl d)

pub dates_stay : claims.DatesStay
dates_stay L past qs b = (list_keeps (record { log = L; past = past }) qs b).1

-- a write of data that is not found
module _ (t : ℕ) (d m : Bytes) (date : Option Bytes) (L : Lent) (buffer : Bytes) (sm : small m ≡ true) (W : Writes m date buffer L t d)
    (e : look.held (one_log L) t (sha1_of d) ≡ none) where
  abbrev added : Row
  added = stores.new_row L (date_of date) t d

  stored-new : step Greeted m date L buffer ≡ kept m buffer (stores.appended L (date_of date) t d)
  unfolding stores.store
  stored-new = write_step m date buffer L t d W ∙ ap (λ o. kept m buffer (stored_as L (date_of date) t d o)) e

  added-valid : room_for L (stores.parts_for (date_of date) d) ≡ true → valid added ≡ true
  added-valid q =
      row-valid (date_of date) t d (used (one_log L)) (length L.log) (date_or_none date W.asks.date-allowed) (log-allowed-of L.log L.waiting W.asks.lent-allowed)
      W.lawful_type W.not-long (some_bytes (one_log L) t d W.lawful_type e) (ap small (sym W.content) ∙ small-drop 8 m sm)
      (room-one L.log L.waiting (stores.parts_for (date_of date) d) q).1

  found-new : (step Greeted m date L buffer).number ≡ 0 → look.held (one_log (step Greeted m date L buffer).lent) t (sha1_of d) ≡ some added
  found-new n = go (room_for L (stores.parts_for (date_of date) d)) refl
    where
      go : (b : Bool) → room_for L (stores.parts_for (date_of date) d) ≡ b → look.held (one_log (step Greeted m date L buffer).lent) t (sha1_of d) ≡ some added
      go true q =
          let left : (step Greeted m date L buffer).lent ≡ append_row L added = ap (λ (o : Outcome). o.lent) stored-new ∙ rw q in
          ap (λ (l : Lent). look.held (one_log l) t (sha1_of d)) left
          ∙ ap (λ (x : Bytes). look.held x t (sha1_of d)) (one-appended L.log L.waiting added refl)
          ∙ held-appended (one_log L) added (added-valid q) refl (room-one L.log L.waiting (stores.parts_for (date_of date) d) q).0 e
      go false q = absurd (let z : ◌≡◌ {A = ℕ} 14 0 = rw (stored-new, q) at n in omega arith)

pub rows-keep_their_date : claims.RowsKeepTheirDate
rows-keep_their_date t d m date L buffer sm W e n past qs b =
    dates_stay (step Greeted m date L buffer).lent past qs b t (sha1_of d) (stores.new_row L (date_of date) t d) (found-new t d m date L buffer sm W e n)
