use mathlib.Core.Path.{sym, ap, ◌∙◌}
use native.Mathlib.Omega.{arith}
use Rattle.block.specs.Log.{joined}
use Rattle.pair.proofs.Opened.{found_at}
use Rattle.comparison.specs.Compared.{one_unit}
use Rattle.open_pair.proofs.Pairs.{equal-scores, too_deep, nothing_left, first-not-read, second-not-read, both_read, lies}
use Rattle.open_pair.proofs.open.Goals as goal

-- `open_pair::open` meets its contract: equal scores, refused, not read, or where both are.
pub returns-then-equal : goal.returns-then-equal
returns-then-equal c =
    let a = c.args in
    equal-scores (joined a.runs.end.0 a.runs.log.now a.runs.waiting.now) a.e a.level a.nest a.s.now a.t.now a.left (sym c.equal.ensures ∙ c.if-equal.true)

pub returns-then-nest-gt16 : goal.returns-then-nest-gt16
returns-then-nest-gt16 c =
    let a = c.args in
    λ f h. c.refused.ensures
    ∙ too_deep (joined a.runs.end.0 a.runs.log.now a.runs.waiting.now) a.e a.level a.nest a.s.now a.t.now a.left (sym c.equal.ensures ∙ c.if-equal.false) c.if-nest-gt16.true f h

pub returns-then-left-eq0 : goal.returns-then-left-eq0
returns-then-left-eq0 c =
    let a = c.args in
    λ f h. c.refused-then-left-eq0.ensures
    ∙ nothing_left (joined a.runs.end.0 a.runs.log.now a.runs.waiting.now) a.e a.level a.nest a.s.now a.t.now a.left (sym c.equal.ensures ∙ c.if-equal.false)
    c.if-nest-gt16.false c.if-left-eq0.true f h

pub returns-in-Err : goal.returns-in-Err
returns-in-Err c =
    let a = c.args in
    λ f h. c.one_unit-in-Err.ensures ∙ ap one_unit c.refused-in-Err.ensures
    ∙ first-not-read (joined a.runs.end.0 a.runs.log.now a.runs.waiting.now) a.e a.level a.nest a.s.now a.t.now a.left (sym c.equal.ensures ∙ c.if-equal.false)
    c.if-nest-gt16.false c.if-left-eq0.false _ (sym c.read_block-one.ensures ∙ c.in-Err.is) f h

pub returns-in-Err-other : goal.returns-in-Err-other
returns-in-Err-other c =
    let a = c.args in
    let O = found_at _ _ _ _ _ (sym c.read_block-one.ensures ∙ c.in-Ok.is) in
    λ f h. c.one_unit.ensures ∙ ap one_unit c.refused-in-Err-other.ensures
    ∙ second-not-read (joined a.runs.end.0 a.runs.log.now a.runs.waiting.now) a.e a.level a.nest a.s.now a.t.now a.left (sym c.equal.ensures ∙ c.if-equal.false)
    c.if-nest-gt16.false c.if-left-eq0.false O _ (sym c.read_block-other.ensures ∙ c.in-Err-other.is) f h

pub returns-in-Ok-other : goal.returns-in-Ok-other
returns-in-Ok-other c =
    let a = c.args in
    let p = c.requires.0 in
    let O = found_at _ _ _ _ _ (sym c.read_block-one.ensures ∙ c.in-Ok.is) in
    let O' = found_at _ _ _ _ _ (sym c.read_block-other.ensures ∙ c.in-Ok-other.is) in (
      lies a.runs.end.0 a.runs.log.now a.runs.waiting.now p O,
      lies a.runs.end.0 a.runs.log.now a.runs.waiting.now p O',
      c.if-nest-gt16.false,
      omega (arith, c.if-left-eq0.false),
      both_read (joined a.runs.end.0 a.runs.log.now a.runs.waiting.now) a.e a.level a.nest a.s.now a.t.now a.left (sym c.equal.ensures ∙ c.if-equal.false) c.if-nest-gt16.false c.if-left-eq0.false O O',
    )
