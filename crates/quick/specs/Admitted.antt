-- What has to hold before a request goes by what is known: a greeted session, and tests 1, 2, 3 and 24 pass.
use Rattle.std.specs.Prelude.{Bool, true, false, cond, ℕ, ltb}
use Rattle.buffer.specs.Bytes.{Bytes}
use Rattle.sector.specs.Sector.{is_date}
use Rattle.sector_log.specs.LookUp.{lent_allowed}
use Rattle.message.specs.Message.{framed}
use Rattle.request.specs.Step.{reply_room}
use Rattle.request.specs.declared.Session.{Session}
use Rattle.request.specs.declared.Session.TheVariants.{Fresh, Greeted, Closed as Shut}

abbrev pub is_greeted : Session → Bool
is_greeted Fresh = false
is_greeted Greeted = true
is_greeted Shut = false

-- of a message and a date, with a log, a waiting part and a reply buffer of these lengths
unfoldable pub admitted : Session → Bytes → Bytes → ℕ → ℕ → ℕ → Bool
admitted s m date log waiting room =
    cond (framed m) (cond (ltb room reply_room) false (cond (lent_allowed log waiting) (cond (is_greeted s) (is_date date) false) false)) false
