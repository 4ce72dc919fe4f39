-- The table of cards, computed.
use mathlib.Core.Path.{refl}
use Rattle.antigen.specs.Name.{letter_or_digit, reserved, is_name, before}
use Rattle.card.specs.Card.{text, good_from, up_to, line_with, lines_at, front_lines, well_formed}
use Rattle.card.specs.Examples.{Examples}

pub examples : Examples
unfolding letter_or_digit reserved is_name before text good_from up_to line_with lines_at front_lines well_formed
examples = refl
