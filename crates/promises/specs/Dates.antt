-- "A date on each block": what is promised of requests with a date, in any log. A request of the first edition comes without one (`none`).
use Rattle.std.specs.Prelude.{◌≡◌, true, false, List, ◌≢◌, ℕ, ◌≤◌, length}
use Rattle.std.proofs.Math.Option.{Option, none, some}
use Rattle.buffer.specs.Bytes.{Bytes}
use Rattle.digits.specs.Number.{small}
use Rattle.sha1_digest.specs.Sha1.{sha1_of}
use Rattle.refusal.specs.declared.Refusal.TheVariants.{Closed, Date}
use Rattle.message.specs.Message.{framed, tag_of}
use Rattle.message.specs.Reply.{write_reply}
use Rattle.sector.specs.Sector.{is_date}
use Rattle.block.specs.Block.{Row}
use Rattle.sector_log.specs.LookUp.{held}
use Rattle.sector_log.specs.Parts.{Lent, one_log}
use Rattle.sector_log.specs.Store.{new_row}
use Rattle.request.specs.Step.{reply_room, allowed, date_of, step, granted, silent}
use Rattle.request.specs.declared.Session.{Session}
use Rattle.request.specs.declared.Session.TheVariants.{Greeted, Closed as Shut}
use Rattle.ledger.specs.History.{Item, AllOfBytes}
use Rattle.demands.specs.Instance.{archive}
use Rattle.promises.specs.Requests.{Writes}
use Rattle.promises.specs.Histories.{afterwards}

-- "A date that isn't eight decimal digits is refusal 24, after 4, outcome A": tests 1 to 4 pass, and it is not one. Whatever the message is, also of a type
-- that is not known, which is test 5
abbrev pub DateRefused : Type 0
DateRefused = (s : Session) (m d : Bytes) (L : Lent) (buffer : Bytes) → framed m ≡ true → reply_room ≤ length buffer → allowed L ≡ true → s ≢ Shut
    → is_date d ≡ false → step s m (some d) L buffer ≡ silent Date s L buffer

-- "after 4": in a closed session it is 4, whatever the date
abbrev pub ClosedBeforeDate : Type 0
ClosedBeforeDate = (m : Bytes) (date : Option Bytes) (L : Lent) (buffer : Bytes) → framed m ≡ true → reply_room ≤ length buffer → allowed L ≡ true
    → step Shut m date L buffer ≡ silent Closed Shut L buffer

-- "The date is no part of a block's identity: a duplicate keeps the old one": data that look-up finds, in a row of either edition and of any date, is answered
-- with any date, or none, and the log and the waiting part stay as they are
abbrev pub DateIsNoIdentity : Type 0
DateIsNoIdentity = (t : ℕ) (d m : Bytes) (date : Option Bytes) (L : Lent) (buffer : Bytes) (r : Row) → held (one_log L) t (sha1_of d) ≡ some r → r.bytes ≡ d
    → Writes m date buffer L t d → step Greeted m date L buffer ≡ granted (write_reply (tag_of m) (sha1_of d)) Greeted L buffer

-- what look-up finds it finds after any requests, with whatever dates: the same row, with its date
abbrev pub DatesStay : Type 0
DatesStay = (L : Lent) (past : List Session) (qs : List (Item archive)) → AllOfBytes archive qs → (t : ℕ) (s : Bytes) (r : Row)
    → held (one_log L) t s ≡ some r → held (one_log (afterwards L past qs)) t s ≡ some r

-- "a row keeps it": what a write was answered for that was not there is found then, and after any requests that follow, with the date that came with the write
abbrev pub RowsKeepTheirDate : Type 0
RowsKeepTheirDate = (t : ℕ) (d m : Bytes) (date : Option Bytes) (L : Lent) (buffer : Bytes) → small m ≡ true → Writes m date buffer L t d
    → held (one_log L) t (sha1_of d) ≡ none → (step Greeted m date L buffer).number ≡ 0 → (past : List Session) (qs : List (Item archive)) → AllOfBytes archive qs
    → held (one_log (afterwards (step Greeted m date L buffer).lent past qs)) t (sha1_of d) ≡ some (new_row L (date_of date) t d)
