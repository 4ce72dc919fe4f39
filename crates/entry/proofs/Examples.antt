-- The two entries more than the marked ones, computed.
use mathlib.Core.Path.{refl}
use Rattle.digits.specs.Number.{digits, value_from}
use Rattle.entry.specs.Entry.{entry_of, well_formed}
use Rattle.entry.specs.Examples.{RoundedDown, NoWrap}

pub rounded_down : RoundedDown
unfolding digits value_from entry_of well_formed
rounded_down = refl

pub no_wrap : NoWrap
unfolding digits value_from entry_of well_formed
no_wrap = refl
