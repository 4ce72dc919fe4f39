use mathlib.Core.Path.{sym, ap}
use Rattle.entry.specs.declared.Entry.{Entry}
use Rattle.difference.proofs.Positions.{past_end}
use Rattle.difference.proofs.is_active.Goals as goal

-- `difference::is_active` meets its contract: past the end, or by the entry.
pub returns-then-b-at : goal.returns-then-b-at
returns-then-b-at c = let a = c.args in sym (past_end a.b.now a.i c.if-b-at.true)

pub returns : goal.returns
returns c = ap (λ (e : Entry). e.active) c.entry_at-e.ensures
