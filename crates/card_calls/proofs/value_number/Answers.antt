use mathlib.Core.Path.{sym, ap}
use Rattle.card_calls.specs.Search.{value_number}
use Rattle.card_calls.proofs.value_number.Goals as goal

pub returns-in-Yes : goal.returns-in-Yes
returns-in-Yes c = sym (ap value_number c.in-Yes.is)

pub returns-in-No : goal.returns-in-No
returns-in-No c = sym (ap value_number c.in-No.is)

pub returns-in-NotKnown : goal.returns-in-NotKnown
returns-in-NotKnown c = sym (ap value_number c.in-NotKnown.is)
