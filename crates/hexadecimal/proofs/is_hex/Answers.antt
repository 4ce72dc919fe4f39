use mathlib.Core.Path.{◌∙◌}
use lib.Dec.{ltb}
use borrow.Author.Tests.{tests}
use Rattle.std.proofs.Common.{rules}
use Rattle.std.proofs.lemmas.Iterator.{YieldsList-from_slice}
use Rattle.std.proofs.lemmas.Iterator.Search.{all_from_yields_List}
use Rattle.hexadecimal.specs.Hex.{char_digit}
use Rattle.hexadecimal.proofs.Turns.{hex-all}
use Rattle.hexadecimal.proofs.is_hex.Goals as goal

-- `hexadecimal::is_hex` meets its contract: the test of each character. Assumes nothing.
pub returns : goal.returns
returns c =
    all_from_yields_List (λ x. ltb (char_digit x) 16) _ _ _ c.all.ensures.ran (YieldsList-from_slice c.args.s.now cc) (λ x b q k. search (rules, tests))
    ∙ hex-all c.args.s.now
