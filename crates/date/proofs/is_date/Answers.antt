use mathlib.Core.Path.{sym, ◌∙◌}
use borrow.Author.Tests.{tests, ne_eqb}
use lib.ListN.{length}
use Rattle.std.proofs.Common.{rules}
use Rattle.std.proofs.lemmas.Iterator.{YieldsList-from_slice}
use Rattle.std.proofs.lemmas.Iterator.Search.{all_from_yields_List}
use Rattle.date.proofs.Digits.{decimal, decimals-all, of-eight, not_eight}
use Rattle.date.proofs.is_date.Goals as goal

pub returns-then-d-eq8 : goal.returns-then-d-eq8
returns-then-d-eq8 c =
    let d = c.args.d.now in
    all_from_yields_List decimal _ _ _ c.all.ensures.ran (YieldsList-from_slice d cc) (λ x b q k. search (rules, tests))
    ∙ decimals-all d
    ∙ sym (of-eight d c.if-d-eq8.true)

pub returns-else-d-eq8 : goal.returns-else-d-eq8
returns-else-d-eq8 c =
    let d = c.args.d.now in
    ne_eqb (length d) 8 c.if-d-eq8.false ∙ sym (not_eight d c.if-d-eq8.false)
