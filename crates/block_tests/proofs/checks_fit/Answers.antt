use mathlib.Core.Path.{◌≡◌, refl, sym, ap, ◌∙◌}
use Prim.Native.Nat.{ℕ, ◌+◌, ◌-◌, ◌≤◌}
use native.Mathlib.Omega.{arith}
use borrow.Author.Tests.{not-true, not-false}
use lib.ListN.{length}
use Rattle.sector.specs.Sector.{fits}
use Rattle.block.specs.Log.{joined, at, checked}
use Rattle.block.proofs.At.{length_at}
use Rattle.block_tests.proofs.Turns.{all_turn, all-stop, all_end}
use Rattle.block_tests.proofs.checks_fit.Goals as goal

pub loop-n-init : goal.loop-n-init
loop-n-init c =
    let a = c.args in
    let log = joined a.runs.end.0 a.runs.log.now a.runs.waiting.now in
    let n = a.first.0 in
    let k = a.count in
    let e : n + k - n ≡ k = omega arith in
    ap (λ (m : ℕ). checked log m n) e

pub has_check-requires : goal.has_check-requires
has_check-requires c =
    let a = c.args in
    let log = joined a.runs.end.0 a.runs.log.now a.runs.waiting.now in
    let l = c.loop-n in (
      c.low-low.ensures,
      c.high-high.ensures,
      ap length c.sector_at-s.ensures
          ∙ length_at log l.n,
    )

pub returns-then-not-has_check : goal.returns-then-not-has_check
unfolding checked
returns-then-not-has_check c =
    let a = c.args in
    let log = joined a.runs.end.0 a.runs.log.now a.runs.waiting.now in
    let l = c.loop-n in
    let sector-at = c.sector_at-s in
    let z = sym (ap fits sector-at.ensures) ∙ sym c.has_check.ensures ∙ c.if-not-has_check.true in
    sym (all-stop (checked log) (λ m. fits (at log m)) (λ k m. refl) (a.first.0 + a.count) l.n (omega arith) z) ∙ l.invariant

pub loop-n-preserved : goal.loop-n-preserved
unfolding checked
loop-n-preserved c =
    let a = c.args in
    let log = joined a.runs.end.0 a.runs.log.now a.runs.waiting.now in
    let l = c.loop-n in
    let sector-at = c.sector_at-s in
    let z = sym (ap fits sector-at.ensures) ∙ sym c.has_check.ensures ∙ c.if-not-has_check.false in
    all_turn (checked log) (λ m. fits (at log m)) (λ k m. refl) (a.first.0 + a.count) l.n (omega arith) z ∙ l.invariant

pub returns : goal.returns
unfolding checked
returns c =
    let a = c.args in
    let log = joined a.runs.end.0 a.runs.log.now a.runs.waiting.now in
    let l = c.loop-n in
    sym (all_end (checked log) (λ m. refl) (a.first.0 + a.count) l.n (omega arith)) ∙ l.invariant
