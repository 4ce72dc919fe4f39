use mathlib.Core.Path.{◌≡◌, refl, sym, ap, ◌∙◌}
use mathlib.Core.Bool.{true, false}
use Prim.Native.Nat.{ℕ, ◌+◌, ◌-◌, ◌≤◌}
use native.Mathlib.Omega.{arith}
use borrow.Author.Tests.{not-true, not-false}
use lib.ListN.{length}
use Rattle.buffer.specs.Bytes.{Bytes}
use Rattle.sector.specs.Sector.{front_of}
use Rattle.block.specs.Log.{joined, labelled}
use Rattle.block.proofs.At.{length_at}
use Rattle.block_tests.proofs.Rest.{size_bound}
use Rattle.block_tests.proofs.Turns.{all_turn, all-stop, all_end, label_test, label-tested}
use Rattle.block_tests.proofs.labels_agree.Goals as goal

pub parts_of-of-requires : goal.parts_of-of-requires
parts_of-of-requires c =
    let a = c.args in
    let q = c.requires in
    (q.1.1, omega (arith, size_bound a.b q.1.1))

pub loop-i-init : goal.loop-i-init
loop-i-init c =
    let a = c.args in
    let log = joined a.runs.end.0 a.runs.log.now a.runs.waiting.now in
    let of = c.parts_of-of.result in
    let e : of - 0 ≡ of = omega arith in
    λ date _. ap (λ (k : ℕ). labelled log date of a.b.first.0 a.kind a.b.size a.score.now k 0) e

pub overflow_add-n : goal.overflow_add-n
overflow_add-n c = omega (arith, c.parts_of-of.ensures)

pub sector_at-s-requires : goal.sector_at-s-requires
sector_at-s-requires c = omega (arith, c.parts_of-of.ensures)

pub has_label-requires : goal.has_label-requires
has_label-requires c =
    let a = c.args in
    let log = joined a.runs.end.0 a.runs.log.now a.runs.waiting.now in
    let q = c.requires in
    let l = c.loop-i in
    (omega (arith, ap length c.sector_at-s.ensures ∙ length_at log (a.b.first.0 + l.i)), q.3)

pub returns-then-not-has_label : goal.returns-then-not-has_label
unfolding labelled
returns-then-not-has_label c =
    let a = c.args in
    let log = joined a.runs.end.0 a.runs.log.now a.runs.waiting.now in
    let parts-of = c.parts_of-of in
    let l = c.loop-i in
    let test = c.loop-i-test in
    let sector-at = c.sector_at-s in
    let of = parts-of.result in
    let has-label = c.has_label in
    let score = a.score.now in
    λ date g.
    let T = label_test log date of a.b.first.0 a.kind a.b.size score in
    let F = labelled log date of a.b.first.0 a.kind a.b.size score in
    let z : T l.i ≡ false =
    label-tested log date score _ a.front.now of a.b.first.0 a.kind a.b.size l.i _ g sector-at.ensures has-label.ensures ∙ c.if-not-has_label.true in
    sym (all-stop F T (λ k j. refl) of l.i test.true z) ∙ l.invariant date g
    ∙ ap (λ (k : ℕ). labelled log date k a.b.first.0 a.kind a.b.size score k 0) parts-of.ensures

pub loop-i-preserved : goal.loop-i-preserved
unfolding labelled
loop-i-preserved c =
    let a = c.args in
    let log = joined a.runs.end.0 a.runs.log.now a.runs.waiting.now in
    let parts-of = c.parts_of-of in
    let l = c.loop-i in
    let test = c.loop-i-test in
    let sector-at = c.sector_at-s in
    let of = parts-of.result in
    let has-label = c.has_label in
    let score = a.score.now in
    λ date g.
    let T = label_test log date of a.b.first.0 a.kind a.b.size score in
    let F = labelled log date of a.b.first.0 a.kind a.b.size score in
    let z : T l.i ≡ true =
    label-tested log date score _ a.front.now of a.b.first.0 a.kind a.b.size l.i _ g sector-at.ensures has-label.ensures ∙ c.if-not-has_label.false in
    all_turn F T (λ k j. refl) of l.i test.true z ∙ l.invariant date g

pub returns : goal.returns
unfolding labelled
returns c =
    let a = c.args in
    let log = joined a.runs.end.0 a.runs.log.now a.runs.waiting.now in
    let parts-of = c.parts_of-of in
    let l = c.loop-i in
    let of = parts-of.result in
    let score = a.score.now in
    λ date g.
    let F = labelled log date of a.b.first.0 a.kind a.b.size score in
    sym (all_end F (λ j. refl) of l.i (omega arith)) ∙ l.invariant date g
    ∙ ap (λ (k : ℕ). labelled log date k a.b.first.0 a.kind a.b.size score k 0) parts-of.ensures
