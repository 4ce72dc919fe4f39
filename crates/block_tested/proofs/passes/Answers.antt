use mathlib.Core.Path.{sym, ap, ◌∙◌}
use native.Mathlib.Nat.{add-zero}
use native.Mathlib.Omega.{arith}
use borrow.Author.Tests.{not-true, not-false}
use lib.ListN.{length}
use Rattle.buffer.specs.Bytes.{Bytes, same}
use Rattle.sector.specs.Sector.{payload_of, date_field}
use Rattle.block.specs.Log.{joined, at, checked}
use Rattle.block.proofs.Facts.{some-parts}
use Rattle.block.proofs.At.{length_at}
use Rattle.block.proofs.Joined.{small-joined}
use Rattle.block_bytes.proofs.Pieces.{small_bytes}
use Rattle.block_tests.proofs.Rest.{size_bound}
use Rattle.block_tests.proofs.Turns.{label-tested}
use Rattle.block_tested.specs.Tested.{sector_tests}
use Rattle.block_tested.proofs.Tests.{all_fails, last_decides, other_first}
use Rattle.block_tested.proofs.passes.Goals as goal

-- `block_tested::passes` meets its contract: each return knows which test failed, the last one that the others passed.
pub parts_of-of-requires : goal.parts_of-of-requires
parts_of-of-requires c =
    let q = c.requires in
    let a = c.args in
    (q.2.1, omega (arith, size_bound a.b q.2.1))

pub sector_at-s-requires : goal.sector_at-s-requires
sector_at-s-requires c =
    let q = c.requires in
    let a = c.args in
    let short = q.2.1 in
    (q.0, omega (arith, some-parts (payload_of a.b.label) (omega arith) a.b.size q.1))

pub has_label-requires : goal.has_label-requires
has_label-requires c =
    let a = c.args in
    let q = c.requires in
    let sector-at = c.sector_at-s in
    let log = joined a.runs.end.0 a.runs.log.now a.runs.waiting.now in
    (omega (arith, q.2.1, ap length sector-at.ensures, length_at log a.b.first.0), q.5)

pub returns-then-not-has_label : goal.returns-then-not-has_label
returns-then-not-has_label c =
    let a = c.args in
    let q = c.requires in
    let parts-of = c.parts_of-of in
    let sector-at = c.sector_at-s in
    let has-label = c.has_label in
    let if1 = c.if-not-has_label in
    let log = joined a.runs.end.0 a.runs.log.now a.runs.waiting.now in
    let tested =
    label-tested log (date_field (at log a.b.first.0)) a.score.now _ a.front.now parts-of.result a.b.first.0 a.kind a.b.size 0 _ (sym q.4)
    (sector-at.ensures ∙ ap (at log) (sym (add-zero a.b.first.0))) has-label.ensures in
    sym (other_first log a.b a.kind a.score.now parts-of.result _ q.1 q.2.1 parts-of.ensures tested if1.true)

pub returns-then-not-checks_fit : goal.returns-then-not-checks_fit
returns-then-not-checks_fit c =
    let a = c.args in
    let parts-of = c.parts_of-of in
    let checks-fit = c.checks_fit in
    let if2 = c.if-not-checks_fit in
    let log = joined a.runs.end.0 a.runs.log.now a.runs.waiting.now in
    sym (all_fails (sector_tests log a.b a.kind a.score.now) 1
    (ap (λ m. checked log m a.b.first.0) (sym parts-of.ensures) ∙ sym checks-fit.ensures ∙ if2.true))

pub returns-then-not-labels_agree : goal.returns-then-not-labels_agree
returns-then-not-labels_agree c =
    let a = c.args in
    let q = c.requires in
    let labels-agree = c.labels_agree in
    let if3 = c.if-not-labels_agree in
    let log = joined a.runs.end.0 a.runs.log.now a.runs.waiting.now in
    sym (all_fails (sector_tests log a.b a.kind a.score.now) 0
    (sym (labels-agree.ensures (date_field (at log a.b.first.0)) (sym q.4)) ∙ if3.true))

pub returns-then-not-rest_is_zero : goal.returns-then-not-rest_is_zero
returns-then-not-rest_is_zero c =
    let a = c.args in
    let rest-is-zero = c.rest_is_zero in
    let if4 = c.if-not-rest_is_zero in
    let log = joined a.runs.end.0 a.runs.log.now a.runs.waiting.now in
    sym (all_fails (sector_tests log a.b a.kind a.score.now) 2 (sym rest-is-zero.ensures ∙ if4.true))

pub returns : goal.returns
returns c =
    let a = c.args in
    let q = c.requires in
    let parts-of = c.parts_of-of in
    let checks-fit = c.checks_fit in
    let if2 = c.if-not-checks_fit in
    let labels-agree = c.labels_agree in
    let if3 = c.if-not-labels_agree in
    let rest-is-zero = c.rest_is_zero in
    let if4 = c.if-not-rest_is_zero in
    let digest = c.digest-d in
    let equal = c.equal in
    let log = joined a.runs.end.0 a.runs.log.now a.runs.waiting.now in
    let bytes = small-joined a.runs.end.0 a.runs.log.now a.runs.waiting.now q.0 c.are_bytes.ensures.log c.are_bytes.ensures.waiting in
    equal.ensures ∙ ap (λ (x : Bytes). same x a.score.now) digest.ensures
    ∙ sym (last_decides _
    (sym (labels-agree.ensures (date_field (at log a.b.first.0)) (sym q.4)) ∙ if3.false)
    (ap (λ m. checked log m a.b.first.0) (sym parts-of.ensures) ∙ sym checks-fit.ensures ∙ if2.false)
    (sym rest-is-zero.ensures ∙ if4.false)
    (small_bytes log a.b bytes))
