use mathlib.Core.Path.{◌∙◌}
use Rattle.antigen.proofs.Names.{letter_or_digit-ascii}
use Rattle.antigen.proofs.is_letter_or_digit.Goals as goal

-- `antigen::is_letter_or_digit` meets its contract: the library's ranges are those of names.
pub returns : goal.returns
returns c = c.is_ascii_alphanumeric.ensures.value ∙ letter_or_digit-ascii c.args.b
