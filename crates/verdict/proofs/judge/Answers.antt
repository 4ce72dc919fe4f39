use mathlib.Core.Path.{sym, ◌∙◌}
use Rattle.verdict.proofs.Verdicts.{equal-bytes, other_bytes}
use Rattle.verdict.proofs.judge.Goals as goal

-- `verdict::judge` meets its contract: equal bytes, else by the entries.
pub returns-then-equal : goal.returns-then-equal
returns-then-equal c = let a = c.args in equal-bytes a.x.now a.y.now (sym c.equal.ensures ∙ c.if-equal.true)

pub returns : goal.returns
returns c =
    let a = c.args in
    c.judge_entries.ensures
    ∙ other_bytes a.x.now a.y.now c.requires.0 c.requires.1 (sym c.equal.ensures ∙ c.if-equal.false) c.entry_at.ensures c.entry_at-2.ensures
