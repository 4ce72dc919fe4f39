-- The examples hold, by computation.
use mathlib.Core.Path.{refl}
use Rattle.antigen.specs.Name.{letter_or_digit, reserved, is_name}
use Rattle.query.specs.Grammar.{words, after, name_at, list_read_at, reading_of}
use Rattle.query.specs.Value.{value_of}
use Rattle.query.specs.Examples.{ExamplesHold, ValuesHold}

pub examples_hold : ExamplesHold
unfolding letter_or_digit reserved is_name words after name_at list_read_at reading_of
examples_hold = refl

pub values_hold : ValuesHold
unfolding letter_or_digit reserved is_name words after name_at list_read_at reading_of value_of
values_hold = refl
