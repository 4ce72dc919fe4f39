use mathlib.Core.Path.{◌∙◌}
use borrow.Author.Tests.{tests}
use Rattle.std.proofs.Common.{rules}
use Rattle.std.proofs.lemmas.Iterator.{YieldsList-from_slice}
use Rattle.std.proofs.lemmas.Iterator.Search.{all_from_yields_List}
use Rattle.antigen.specs.Name.{letter_or_digit}
use Rattle.antigen.proofs.Names.{letters-all}
use Rattle.antigen.proofs.are_letters_and_digits.Goals as goal

-- `antigen::are_letters_and_digits` meets its contract: the test of each byte.
pub returns : goal.returns
returns c =
    all_from_yields_List letter_or_digit _ _ _ c.all.ensures.ran (YieldsList-from_slice c.args.s.now cc) (λ x b q k. search (rules, tests))
    ∙ letters-all c.args.s.now
