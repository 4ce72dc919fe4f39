use mathlib.Core.Path.{◌≡◌, refl, sym, ◌∙◌}
use Prim.Native.Nat.{ℕ, ◌-◌, ◌≤◌}
use native.Mathlib.Omega.{arith}
use borrow.Author.Tests.{eq-eqb}
use Rattle.hint.specs.Tells.{tells_from, tells}
use Rattle.hint.proofs.Tells.{tell-starts, tell-here, tell-next, tell_ends}
use Rattle.settled_lookup.proofs.Settled.{nowhere_settled, told-settled, scanned_settled}
use Rattle.settled_lookup.proofs.find_settled.Goals as goal

pub returns-then-is_zero_score : goal.returns-then-is_zero_score
returns-then-is_zero_score c = let a = c.args in nowhere_settled a.log.now a.index.now a.kind a.score.now

pub loop-p-init : goal.loop-p-init
loop-p-init c =
    let a = c.args in
    let b = c.bucket_of-b in
    λ n. tell-starts a.index.now a.kind a.score.now n b.result b.ensures.places

pub returns-then-end-first : goal.returns-then-end-first
returns-then-end-first c =
    let a = c.args in nowhere_settled a.log.now a.index.now a.kind a.score.now

pub returns-then-names : goal.returns-then-names
returns-then-names c =
    let a = c.args in
    let l = c.loop-p in
    let b = c.bucket_of-b in
    let n = c.sector_at-first.result.0 in
    let more = c.loop-p-test.true in
    let told =
    tell-here a.index.now a.kind a.score.now n l.p b.result.to more (l.invariant n) _ c.names.ensures n
    c.if-names.true c.sector_at-first.ensures in
    told-settled a.log.now a.index.now a.kind a.score.now _ c.is_zero_score.ensures c.if-is_zero_score.false n (sym told ∙ eq-eqb n n refl) _ c.sound_as.ensures

pub loop-p-preserved : goal.loop-p-preserved
loop-p-preserved c =
    let a = c.args in
    let l = c.loop-p in
    let b = c.bucket_of-b in
    let more = c.loop-p-test.true in
    λ n. tell-next a.index.now a.kind a.score.now n l.p b.result.to more (l.invariant n) _ c.names.ensures c.if-names.false

pub returns : goal.returns
returns c =
    let a = c.args in
    let l = c.loop-p in
    let b = c.bucket_of-b in
    let ends = c.loop-p-test.false in
    let zero = sym c.is_zero_score.ensures ∙ c.if-is_zero_score.false in
    scanned_settled a.log.now a.index.now a.kind a.score.now zero (λ n. sym (tell_ends a.index.now a.kind a.score.now n l.p b.result.to ends
    (l.invariant n))) _ c.find_held.ensures
