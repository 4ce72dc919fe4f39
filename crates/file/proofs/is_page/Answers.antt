use mathlib.Core.Path.{◌∙◌}
use Rattle.file.proofs.Tests.{page-none, page-some}
use Rattle.file.proofs.is_page.Goals as goal

-- `file::is_page` meets its contract.
pub returns-then-page-eq0 : goal.returns-then-page-eq0
returns-then-page-eq0 c = page-none c.args.page.now c.if-page-eq0.true

pub returns : goal.returns
returns c = c.is_zero.ensures ∙ page-some c.args.page.now c.if-page-eq0.false
