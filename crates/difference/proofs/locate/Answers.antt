use mathlib.Core.Path.{sym, ◌∙◌}
use native.Mathlib.Omega.{arith}
use Rattle.difference.proofs.Rest.{rest-at-first, none_left, ends_here, goes_on_lem, allowed_facts, first-refused, second-refused, both-allowed}
use Rattle.difference.proofs.locate.Goals as goal

pub returns-then-not-is_block : goal.returns-then-not-is_block
returns-then-not-is_block c = let a = c.args in first-refused a.a.now a.b.now (sym c.is_block.ensures ∙ c.if-not-is_block.true)

pub returns-then-not-is_block-2 : goal.returns-then-not-is_block-2
returns-then-not-is_block-2 c =
    let a = c.args in
    second-refused a.a.now a.b.now (sym c.is_block-2.ensures ∙ c.if-not-is_block-2.true)

pub loop-i-init : goal.loop-i-init
loop-i-init c = rest-at-first _ _ _

pub side_at-side-requires : goal.side_at-side-requires
side_at-side-requires c =
    let p = allowed_facts _ (sym c.is_block.ensures ∙ c.if-not-is_block.false) in
    let q = allowed_facts _ (sym c.is_block-2.ensures ∙ c.if-not-is_block-2.false) in
    (p.0, q.0, omega (arith, c.max-count.ensures, p.1, q.1))

-- the first of all positions, as both blocks are allowed
pub returns-in-First : goal.returns-in-First
returns-in-First c =
    both-allowed _ _ (sym c.is_block.ensures ∙ c.if-not-is_block.false) (sym c.is_block-2.ensures ∙ c.if-not-is_block-2.false) c.max-count.ensures
    (ends_here c.loop-i.invariant c.loop-i-test.true c.side_at-side.ensures c.in-First.is)

pub returns-in-Second : goal.returns-in-Second
returns-in-Second c =
    both-allowed _ _ (sym c.is_block.ensures ∙ c.if-not-is_block.false) (sym c.is_block-2.ensures ∙ c.if-not-is_block-2.false) c.max-count.ensures
    (ends_here c.loop-i.invariant c.loop-i-test.true c.side_at-side.ensures c.in-Second.is)

pub loop-i-preserved : goal.loop-i-preserved
loop-i-preserved c = goes_on_lem c.loop-i.invariant c.loop-i-test.true c.side_at-side.ensures c.in-Neither.is

pub returns : goal.returns
returns c =
    both-allowed _ _ (sym c.is_block.ensures ∙ c.if-not-is_block.false) (sym c.is_block-2.ensures ∙ c.if-not-is_block-2.false) c.max-count.ensures
    (none_left c.loop-i.invariant c.loop-i-test.false)
