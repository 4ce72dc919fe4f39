use mathlib.Core.Path.{◌∙◌}
use Prim.Native.Nat.{◌-◌}
use native.Mathlib.Omega.{arith}
use lib.ListN.{take, drop}
use Rattle.card.proofs.Lines.{lawful-whole}
use Rattle.card.proofs.Turns.{placed, placed-none, ill-line, ill-name, ill-order, lawful-on, lawful-end}
use Rattle.card.proofs.is_card.Goals as goal

pub loop-at-init : goal.loop-at-init
loop-at-init c = (omega arith, omega arith, omega arith, lawful-whole c.args.s.now)

pub returns-in_default : goal.returns-in_default
returns-in_default c =
    let s = c.args.s.now in
    let l = c.loop-at in
    let r = c.line_at in
    ill-line s (take (l.to - l.from) (drop l.from s)) l.at (omega arith) (placed-none s l.at (omega arith) r.result r.ensures c.in_default.is) ∙ l.invariant.3

pub slice_bounds-is_name-count : goal.slice_bounds-is_name-count
slice_bounds-is_name-count c =
    let s = c.args.s.now in
    let l = c.loop-at in
    let r = c.line_at in
    let p = placed s l.at (omega arith) r.result r.ensures _ c.in-Some.is in
    omega (arith, p.1.starts)

pub slice_bounds-is_name-start : goal.slice_bounds-is_name-start
slice_bounds-is_name-start c =
    let s = c.args.s.now in
    let l = c.loop-at in
    let r = c.line_at in
    let p = placed s l.at (omega arith) r.result r.ensures _ c.in-Some.is in
    omega (arith, p.1.starts)

pub slice_bounds-is_name-end : goal.slice_bounds-is_name-end
slice_bounds-is_name-end c =
    let s = c.args.s.now in
    let l = c.loop-at in
    let r = c.line_at in
    let p = placed s l.at (omega arith) r.result r.ensures _ c.in-Some.is in
    omega (arith, p.1.ends, p.1.fits)

pub returns-then-not-is_name : goal.returns-then-not-is_name
returns-then-not-is_name c =
    let s = c.args.s.now in
    let l = c.loop-at in
    let r = c.line_at in
    let p = placed s l.at (omega arith) r.result r.ensures _ c.in-Some.is in
    ill-name s (take (l.to - l.from) (drop l.from s)) l.at _ _ _ p.0 p.1 _ c.is_name.ensures c.if-not-is_name.true ∙ l.invariant.3

pub slice_bounds-is_before-count-in-loop-at : goal.slice_bounds-is_before-count-in-loop-at
slice_bounds-is_before-count-in-loop-at c =
    let s = c.args.s.now in
    let l = c.loop-at in
    let r = c.line_at in
    let p = placed s l.at (omega arith) r.result r.ensures _ c.in-Some.is in
    omega (arith, p.1.starts)

pub returns-then-not-is_before : goal.returns-then-not-is_before
returns-then-not-is_before c =
    let s = c.args.s.now in
    let l = c.loop-at in
    let r = c.line_at in
    let n = take (l.to - l.from) (drop l.from s) in
    let is_name = c.is_name in
    let if1 = c.if-not-is_name in
    let p = placed s l.at (omega arith) r.result r.ensures _ c.in-Some.is in
    ill-order s n l.at _ _ _ p.0 p.1 _ is_name.ensures if1.false _ c.is_before.ensures c.if-not-is_before.true ∙ l.invariant.3

pub loop-at-smaller : goal.loop-at-smaller
loop-at-smaller c =
    let s = c.args.s.now in
    let l = c.loop-at in
    let r = c.line_at in
    let p = placed s l.at (omega arith) r.result r.ensures _ c.in-Some.is in
    omega (arith, p.1.starts, p.1.ends, p.1.fits)

pub loop-at-preserved : goal.loop-at-preserved
loop-at-preserved c =
    let s = c.args.s.now in
    let l = c.loop-at in
    let r = c.line_at in
    let n = take (l.to - l.from) (drop l.from s) in
    let is_name = c.is_name in
    let if1 = c.if-not-is_name in
    let p = placed s l.at (omega arith) r.result r.ensures _ c.in-Some.is in (
      p.1.fits,
      omega (arith, p.1.starts),
      omega (arith, p.1.ends, p.1.fits),
      lawful-on s n l.at _ _ _ p.0 p.1 _ is_name.ensures if1.false _ c.is_before.ensures c.if-not-is_before.false ∙ l.invariant.3,
    )

pub returns : goal.returns
returns c =
    let l = c.loop-at in
    lawful-end _ _ l.at (omega arith) ∙ l.invariant.3
