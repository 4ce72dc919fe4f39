use native.Mathlib.Omega.{arith}
use Rattle.card_calls.proofs.Searches.{search_small, told_few, searched_so}
use Rattle.card_calls.proofs.search.Goals as goal

pub overflow_mul-result : goal.overflow_mul-result
overflow_mul-result c =
    let s = c.args in
    let few = search_small s.log.now s.waiting.now s.page.now s.entry.now s.query.now _ c.search-answer.ensures in
    omega (arith, few, told_few c.search-answer.result, c.told_number-told.ensures, c.answer_sector-sector.ensures)

pub overflow_add-result : goal.overflow_add-result
overflow_add-result c =
    let s = c.args in
    let few = search_small s.log.now s.waiting.now s.page.now s.entry.now s.query.now _ c.search-answer.ensures in
    omega (arith, few, told_few c.search-answer.result, c.told_number-told.ensures, c.answer_sector-sector.ensures)

pub overflow_mul-result-2 : goal.overflow_mul-result-2
overflow_mul-result-2 c =
    let s = c.args in
    let few = search_small s.log.now s.waiting.now s.page.now s.entry.now s.query.now _ c.search-answer.ensures in
    omega (arith, few, told_few c.search-answer.result, c.told_number-told.ensures, c.answer_sector-sector.ensures)

pub overflow_add-result-2 : goal.overflow_add-result-2
overflow_add-result-2 c =
    let s = c.args in
    let few = search_small s.log.now s.waiting.now s.page.now s.entry.now s.query.now _ c.search-answer.ensures in
    omega (arith, few, told_few c.search-answer.result, c.told_number-told.ensures, c.answer_sector-sector.ensures)

pub returns : goal.returns
returns c =
    let search = c.search-answer in
    let number = c.number-number in
    let told = c.told_number-told in
    let sector = c.answer_sector-sector in
    searched_so search.result _ number.result told.result sector.result search.ensures number.ensures told.ensures sector.ensures
