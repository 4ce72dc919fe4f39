-- The limit, computed.
use mathlib.Core.Path.{refl}
use lib.ListN.{length}
use borrow.Author.Tests.{le-ltb}
use Rattle.sector_log.specs.LookUp.{log_allowed, waiting_allowed, lent_allowed}
use Rattle.request.specs.Step.{reply_room, step}
use Rattle.examples.specs.Limits.{Limits}

pub limits : Limits
unfolding log_allowed waiting_allowed lent_allowed step
limits = record {
  none = refl;
  over_the_old = refl;
  last = refl;
  beyond = refl;
  half = refl;
  none-waits = refl;
  last-waits = refl;
  beyond-waits = refl;
  half-waits = refl;
  three = λ s m date log waiting buffer l f h. rw (f, le-ltb (length buffer) reply_room h, l) refl;
}
