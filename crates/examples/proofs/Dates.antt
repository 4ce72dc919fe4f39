-- The dates of the table, computed.
use mathlib.Core.Path.{refl}
use Rattle.sector.specs.Sector.{is_date}
use Rattle.examples.specs.Dates.{Dates}

pub dates : Dates
unfolding is_date
dates = record {
  zeros = refl;
  nines = refl;
  no_day = refl;
  seven = refl;
  nine = refl;
  nothing = refl;
  low = refl;
  high = refl;
  low-last = refl;
  high-last = refl;
  without = refl;
  empty = refl;
  label = refl;
  payload = refl;
  first-label = refl;
  first-payload = refl;
}
