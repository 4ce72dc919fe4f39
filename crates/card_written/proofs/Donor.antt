-- The answers, computed of the bytes.
use mathlib.Core.Path.{◌≡◌, refl, ◌∙◌}
use mathlib.Core.Bool.{true}
use mathlib.Core.List.{map}
use Rattle.std.specs.Prelude.{Result}
use Rattle.buffer.specs.Bytes.{Bytes}
use Rattle.kleene.specs.declared.Value.{Value}
use Rattle.refusal.specs.declared.Refusal.{Refusal}
use Rattle.digits.specs.Number.{small}
use Rattle.antigen.specs.Name.{letter_or_digit, reserved, is_name, before}
use Rattle.card.specs.Card.{text, good_from, up_to, line_with, lines_at, front_lines, well_formed, say, value_in}
use Rattle.query.specs.Grammar.{words, after, name_at, list_read_at, reading_of}
use Rattle.query.specs.Value.{value_of}
use Rattle.query.specs.Examples.{Valued, values}
use Rattle.card_answer.specs.CardAnswer.{judged}
use Rattle.card_written.specs.Written.{answer_of}
use Rattle.card_written.specs.Donor.{Answers, Donor, ValuesOfWritten, counted, Border}
use Rattle.card_written.proofs.Written.{search_of-written, search_of-written-later}

answers : (slice query : Bytes) (answer : Result Value Refusal) → small slice ≡ true → answer_of slice query ≡ answer → Answers slice query answer
answers slice query answer sm e log waiting date dsize psize entry scores page p done past qs b =
    search_of-written-later log waiting date slice dsize psize entry scores page query sm p done past qs b ∙ e

pub donor-answers : Donor
unfolding letter_or_digit reserved is_name before text good_from up_to line_with lines_at front_lines well_formed say value_in words after name_at list_read_at reading_of value_of judged
donor-answers = record {
  present = answers _ _ _ refl refl;
  absent = answers _ _ _ refl refl;
  untested = answers _ _ _ refl refl;
  not-untested = answers _ _ _ refl refl;
  ill-formed = answers _ _ _ refl refl;
  no_query = answers _ _ _ refl refl;
}

pub values-of-written : ValuesOfWritten
unfolding letter_or_digit reserved is_name before text good_from up_to line_with lines_at front_lines well_formed say value_in words after name_at list_read_at reading_of value_of judged
values-of-written log waiting date dsize psize entry scores page p done =
    (λ i. map (λ (e : Valued). search_of-written log waiting date _ dsize psize entry scores page e.text refl p done i) values)

pub border : Border
unfolding counted letter_or_digit reserved is_name before text good_from up_to line_with lines_at front_lines well_formed say value_in words after name_at list_read_at reading_of value_of judged
border = record {
  sizes = (refl, refl, refl);
  first = answers _ _ _ refl refl;
  last = answers _ _ _ refl refl;
  untested = answers _ _ _ refl refl;
  lines = (refl, refl);
  byte_more = answers _ _ _ refl refl;
  line-more = answers _ _ _ refl refl;
}
