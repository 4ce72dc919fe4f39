use mathlib.Core.Path.{◌≡◌, refl, sym, ap, ◌∙◌}
use Prim.Native.Nat.{◌+◌, ◌/◌, ◌^◌, ◌≤◌, ◌<◌}
use native.Mathlib.Omega.{arith}
use borrow.Author.Tests.{not-true, not-false, lt-leb}
use lib.ListN.{length}
use Rattle.kind.specs.Kind.{longest}
use Rattle.sector.specs.Sector.{payload_of}
use Rattle.sector.proofs.Dates.{front-most}
use Rattle.block.specs.Block.{parts_of}
use Rattle.block.specs.Log.{joined, at}
use Rattle.block.proofs.Joined.{sectors-joined}
use Rattle.reader.proofs.Pieces.{few_parts}
use Rattle.reader.proofs.Sound.{unsized, unsound_behind, untested, passed}
use Rattle.reader.proofs.sound_behind.Goals as goal

-- `reader::sound_behind` meets its contract: each return knows which test failed, the last one that all passed.
pub field_number-size-requires : goal.field_number-size-requires
field_number-size-requires c =
    let q = c.requires in
    (q.0, q.1, ap length q.2, omega arith, omega arith)

pub returns-then-size-lt1 : goal.returns-then-size-lt1
returns-then-size-lt1 c =
    let a = c.args in
    let q = c.requires in
    let number_at = c.field_number-size in
    let log = joined a.runs.end.0 a.runs.log.now a.runs.waiting.now in
    let z : number_at.result ≡ 0 = omega arith in
    unsized log a.first.0 a.kind a.score.now q.3 (sym number_at.ensures ∙ z)

pub returns-then-size-gt-LONGEST : goal.returns-then-size-gt-LONGEST
returns-then-size-gt-LONGEST c =
    let a = c.args in
    let q = c.requires in
    let number_at = c.field_number-size in
    let if1 = c.if-size-lt1 in
    let log = joined a.runs.end.0 a.runs.log.now a.runs.waiting.now in
    let size = number_at.result in
    unsound_behind log a.first.0 a.kind a.score.now a.front.now q.2 size number_at.ensures if1.false 1 (lt-leb size longest (omega arith))

pub returns-then-not-is_lawful : goal.returns-then-not-is_lawful
returns-then-not-is_lawful c =
    let a = c.args in
    let q = c.requires in
    let number_at = c.field_number-size in
    let if1 = c.if-size-lt1 in
    let is_lawful = c.is_lawful in
    let if3 = c.if-not-is_lawful in
    let log = joined a.runs.end.0 a.runs.log.now a.runs.waiting.now in
    let size = number_at.result in
    unsound_behind log a.first.0 a.kind a.score.now a.front.now q.2 size number_at.ensures if1.false 2 (sym is_lawful.ensures ∙ if3.true)

pub parts_of-of-requires : goal.parts_of-of-requires
parts_of-of-requires c =
    let a = c.args in
    let q = c.requires in
    let if2 = c.if-size-gt-LONGEST in
    let log = joined a.runs.end.0 a.runs.log.now a.runs.waiting.now in
    let h : length a.front.now ≤ 14 = omega (arith, ap length q.2, front-most (at log a.first.0)) in
    (omega arith, omega (arith, if2.false))

pub overflow_add-after : goal.overflow_add-after
overflow_add-after c =
    let q = c.requires in
    let a = c.args in
    let number_at = c.field_number-size in
    let if2 = c.if-size-gt-LONGEST in
    let parts-of = c.parts_of-of in
    let few = few_parts (payload_of (length a.front.now + 96)) number_at.result in
    omega (arith, q.0, q.1, if2.false, parts-of.ensures, few)

pub returns-then-runs-after : goal.returns-then-runs-after
returns-then-runs-after c =
    let a = c.args in
    let q = c.requires in
    let number_at = c.field_number-size in
    let if1 = c.if-size-lt1 in
    let parts-of = c.parts_of-of in
    let log = joined a.runs.end.0 a.runs.log.now a.runs.waiting.now in
    let k = length a.front.now in
    let size = number_at.result in
    unsound_behind log a.first.0 a.kind a.score.now a.front.now q.2 size number_at.ensures if1.false 3
    (lt-leb (a.first.0 + parts_of (payload_of (k + 96)) size) (length log / 512)
    (omega (arith, parts-of.ensures, sectors-joined a.runs.end.0 a.runs.log.now a.runs.waiting.now q.0)))

pub returns-then-after-gt-PLACES : goal.returns-then-after-gt-PLACES
returns-then-after-gt-PLACES c =
    let a = c.args in
    let q = c.requires in
    let number_at = c.field_number-size in
    let if1 = c.if-size-lt1 in
    let parts-of = c.parts_of-of in
    let if5 = c.if-after-gt-PLACES in
    let log = joined a.runs.end.0 a.runs.log.now a.runs.waiting.now in
    let k = length a.front.now in
    let size = number_at.result in
    unsound_behind log a.first.0 a.kind a.score.now a.front.now q.2 size number_at.ensures if1.false 4
    (lt-leb (a.first.0 + parts_of (payload_of (k + 96)) size) (16 ^ 8) (omega (arith, parts-of.ensures, if5.true)))

pub passes-requires : goal.passes-requires
passes-requires c =
    let a = c.args in
    let q = c.requires in
    let if1 = c.if-size-lt1 in
    let parts-of = c.parts_of-of in
    let log = joined a.runs.end.0 a.runs.log.now a.runs.waiting.now in
    let short : length a.front.now + 96 < 499 = omega (arith, ap length q.2, front-most (at log a.first.0)) in
    (q.0, omega (arith, if1.false), (omega (arith, parts-of.ensures), short), refl, q.2, q.3)

pub returns-then-not-passes : goal.returns-then-not-passes
returns-then-not-passes c =
    let a = c.args in
    let q = c.requires in
    let number_at = c.field_number-size in
    let if1 = c.if-size-lt1 in
    let passes = c.passes in
    let if6 = c.if-not-passes in
    let log = joined a.runs.end.0 a.runs.log.now a.runs.waiting.now in
    let size = number_at.result in
    untested log a.first.0 a.kind a.score.now a.front.now q.2 size number_at.ensures if1.false (sym passes.ensures ∙ if6.true)

pub returns : goal.returns
returns c =
    let a = c.args in
    let q = c.requires in
    let number_at = c.field_number-size in
    let if1 = c.if-size-lt1 in
    let if2 = c.if-size-gt-LONGEST in
    let is_lawful = c.is_lawful in
    let if3 = c.if-not-is_lawful in
    let parts-of = c.parts_of-of in
    let if4 = c.if-runs-after in
    let if5 = c.if-after-gt-PLACES in
    let passes = c.passes in
    let if6 = c.if-not-passes in
    let log = joined a.runs.end.0 a.runs.log.now a.runs.waiting.now in
    let size = number_at.result in
    passed log a.first.0 a.kind a.score.now a.front.now q.2 size number_at.ensures if1.false (omega (arith, if2.false))
    (sym is_lawful.ensures ∙ if3.false)
    (omega (arith, parts-of.ensures, if4.false, sectors-joined a.runs.end.0 a.runs.log.now a.runs.waiting.now q.0))
    (omega (arith, parts-of.ensures, if5.false)) (sym passes.ensures ∙ if6.false)
