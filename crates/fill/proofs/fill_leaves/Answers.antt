use mathlib.Core.Path.{◌≡◌, refl, ap, ◌∙◌}
use Prim.Native.Nat.{ℕ, ◌+◌, ◌-◌, ◌%◌, ◌≤◌, ◌<◌, min}
use native.Mathlib.Nat.{mod-lt}
use native.Mathlib.Omega.{arith}
use lib.ListN.{length, take, drop, length-take, length-drop}
use Rattle.buffer.specs.Bytes.{Bytes}
use Rattle.block.specs.Log.{joined}
use Rattle.entry.specs.declared.Entry.{Entry}
use Rattle.leaf.specs.Fetch.{Open}
use Rattle.fill.specs.declared.Filled.{Filled}
use Rattle.fill.specs.Fill.{byte_below, gathered, fill_outcome, filled_with}
use Rattle.fill.proofs.Gather.{rest_all, rest-none}
use Rattle.fill.proofs.Tests.{open_on}
use Rattle.fill.proofs.Turn.{Filling, Turned, turned}
use Rattle.fill.proofs.fill_leaves.Goals as goal

pub overflow_sub-e : goal.overflow_sub-e
overflow_sub-e c = omega (arith, c.requires.1.inside)

pub loop-done-init : goal.loop-done-init
loop-done-init c =
    let a = c.args in
    let log = joined a.runs.end.0 a.runs.log.now a.runs.waiting.now in
    (omega arith, refl, rest_all (byte_below log a.e a.top.now) c.lesser-count.result a.offset a.d.now)

pub overflow_add-o : goal.overflow_add-o
overflow_add-o c = omega (arith, c.loop-done-test.true, c.lesser-count.ensures)

pub slice_bounds-fill_leaf-end : goal.slice_bounds-fill_leaf-end
slice_bounds-fill_leaf-end c = omega (arith, c.loop-done.invariant.1, c.lesser-count.ensures)

pub fill_leaf-leaf-requires : goal.fill_leaf-leaf-requires
fill_leaf-leaf-requires c =
    let lesser = c.lesser-count in
    let l = c.loop-done in
    let lt = c.loop-done-test.true in
    let p = c.requires in
    let short : lesser.result ≤ c.args.e.size - c.args.offset = omega (arith, lesser.ensures) in
    let full : lesser.result ≤ length l.d = omega (arith, l.invariant.1, lesser.ensures) in
    (p.0, open_on c.args.e c.args.offset _ p.1 (omega (arith, lt, short)), p.2, simp (length-take, length-drop) (omega (arith, lt, full)))

-- where a leaf was filled
turn : (log : Bytes) (e : Entry) (top : Bytes) (offset count : ℕ) (d₀ d : Bytes) (done : ℕ) (f : Filled) (ys : Bytes)
    → Open e offset → count ≡ min (length d₀) (e.size - offset) → Filling (byte_below log e top) count offset d₀ d done → done < count
    → let part = take (count - done) (drop done d) in
    fill_outcome f ys ≡ filled_with part (gathered (byte_below log e top) (min (length part) (e.dsize - (offset + done) % e.dsize)) (offset + done))
    → Turned (byte_below log e top) count offset d₀ d done f ys
turn log e top offset count d₀ d done f ys opened least held lt filled =
    turned (byte_below log e top) count offset d₀ d done (omega (arith, least)) held lt (e.dsize - (offset + done) % e.dsize)
    (omega (arith, mod-lt (offset + done) opened.dsize-from)) f ys filled

pub overflow_add-done : goal.overflow_add-done
overflow_add-done c =
    let a = c.args in
    let T =
    turn (joined a.runs.end.0 a.runs.log.now a.runs.waiting.now) a.e a.top.now a.offset _ a.d.now _ _ _ _ c.requires.1 c.lesser-count.ensures c.loop-done.invariant
    c.loop-done-test.true c.fill_leaf-leaf.ensures in
    omega (arith, T.within)

pub loop-done-smaller : goal.loop-done-smaller
loop-done-smaller c =
    let a = c.args in
    let T =
    turn (joined a.runs.end.0 a.runs.log.now a.runs.waiting.now) a.e a.top.now a.offset _ a.d.now _ _ _ _ c.requires.1 c.lesser-count.ensures c.loop-done.invariant
    c.loop-done-test.true c.fill_leaf-leaf.ensures in
    omega (arith, c.loop-done-test.true, T.some c.in-Ok.is)

pub loop-done-preserved : goal.loop-done-preserved
loop-done-preserved c =
    let a = c.args in
    let T =
    turn (joined a.runs.end.0 a.runs.log.now a.runs.waiting.now) a.e a.top.now a.offset _ a.d.now _ _ _ _ c.requires.1 c.lesser-count.ensures c.loop-done.invariant
    c.loop-done-test.true c.fill_leaf-leaf.ensures in
    T.goes_on c.in-Ok.is

pub shape_of-d-in_default : goal.shape_of-d-in_default
shape_of-d-in_default c =
    let a = c.args in
    let T =
    turn (joined a.runs.end.0 a.runs.log.now a.runs.waiting.now) a.e a.top.now a.offset _ a.d.now _ _ _ _ c.requires.1 c.lesser-count.ensures c.loop-done.invariant
    c.loop-done-test.true c.fill_leaf-leaf.ensures in
    T.same_length

pub returns-in_default : goal.returns-in_default
returns-in_default c =
    let a = c.args in
    let log = joined a.runs.end.0 a.runs.log.now a.runs.waiting.now in
    let T =
    turn log a.e a.top.now a.offset _ a.d.now _ _ _ _ c.requires.1 c.lesser-count.ensures c.loop-done.invariant c.loop-done-test.true
    c.fill_leaf-leaf.ensures in
    T.ends _ c.in_default.is ∙ ap (λ (n : ℕ). filled_with a.d.now (gathered (byte_below log a.e a.top.now) n a.offset)) c.lesser-count.ensures

pub shape_of-d : goal.shape_of-d
shape_of-d c = c.loop-done.invariant.1

pub returns : goal.returns
returns c =
    let a = c.args in
    let log = joined a.runs.end.0 a.runs.log.now a.runs.waiting.now in
    let lesser = c.lesser-count in
    let l = c.loop-done in
    let loop-test = c.loop-done-test in
    rest-none (byte_below log a.e a.top.now) lesser.result a.offset a.d.now l.d l.done l.invariant.2 (omega (arith, loop-test.false))
    ∙ ap (λ (n : ℕ). filled_with a.d.now (gathered (byte_below log a.e a.top.now) n a.offset)) lesser.ensures
