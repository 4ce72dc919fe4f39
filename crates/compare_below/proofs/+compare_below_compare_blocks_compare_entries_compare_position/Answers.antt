-- The four functions that call each other meet their contracts: the allowance that is left gets less.
use Prim.Native.Nat.{ℕ, ◌+◌, ◌-◌, ◌≤◌, ◌<◌}
use mathlib.Core.Path.{◌≡◌, sym, subst, ◌∙◌}
use native.Mathlib.Omega.{arith}
use Rattle.buffer.specs.Bytes.{Bytes}
use Rattle.kind.specs.Kind.{longest}
use Rattle.block.specs.Log.{joined, bytes_of}
use Rattle.entry.specs.declared.Entry.{Entry}
use Rattle.descent.proofs.EntryBlocks as blocks
use Rattle.comparison.specs.declared.Compared.{Compared}
use Rattle.comparison.specs.Compare.{most_leaf, compare_position, compare_below}
use Rattle.comparison.proofs.Bounds.{Within, below_units, position-within, positions_few}
use Rattle.compare_below.proofs.InOrder.{rest-at-first, all_done, rest_goes_on, refused_stops}
use Rattle.compare_below.proofs.Entries.{entry_read, score-of_20, by_verdict_lem, by_blocks, listed-of_40, in_leaves, above_leaves, of-below}
use Rattle.compare_below.proofs.+compare_below_compare_blocks_compare_entries_compare_position.Goals as goal

-- `compare_below::compare_entries`: by the verdict
pub compare_entries-returns-in-Skip : goal.compare_entries-returns-in-Skip
compare_entries-returns-in-Skip t c =
    let a = c.args in
    λ f h. by_verdict_lem f (joined a.runs.end.0 a.runs.log.now a.runs.waiting.now) _ _ _ _ (sym c.judge-verdict.ensures ∙ c.in-Skip.is)

pub compare_entries-returns-in-IllFormed : goal.compare_entries-returns-in-IllFormed
compare_entries-returns-in-IllFormed t c =
    let a = c.args in
    λ f h. by_verdict_lem f (joined a.runs.end.0 a.runs.log.now a.runs.waiting.now) _ _ _ _ (sym c.judge-verdict.ensures ∙ c.in-IllFormed.is)

pub compare_entries-compare_blocks-requires : goal.compare_entries-compare_blocks-requires
compare_entries-compare_blocks-requires t c =
    let a = c.args in
    let p = c.requires in
    let r = entry_read a.x.now a.y.now p.1 p.2 (sym c.judge-verdict.ensures ∙ c.in-Open.is) c.entry_at-e.ensures in
    (omega arith, (p.0, score-of_20 a.x.now p.1, score-of_20 a.y.now p.2, r.depth-at-most_7, r.leaves, p.4))

pub compare_entries-returns-in-Open : goal.compare_entries-returns-in-Open
compare_entries-returns-in-Open t c =
    let a = c.args in
    let p = c.requires in
    let r = entry_read a.x.now a.y.now p.1 p.2 (sym c.judge-verdict.ensures ∙ c.in-Open.is) c.entry_at-e.ensures in
    λ f h. c.compare_blocks.ensures f h ∙ by_blocks r f (joined a.runs.end.0 a.runs.log.now a.runs.waiting.now) a.nest a.left

pub compare_entries-returns-in-Differ : goal.compare_entries-returns-in-Differ
compare_entries-returns-in-Differ t c =
    let a = c.args in
    λ f h. by_verdict_lem f (joined a.runs.end.0 a.runs.log.now a.runs.waiting.now) _ _ _ _ (sym c.judge-verdict.ensures ∙ c.in-Differ.is)

-- `compare_below::compare_blocks`: what opening the pair gives, or what is below
pub compare_blocks-returns-in-Ended : goal.compare_blocks-returns-in-Ended
compare_blocks-returns-in-Ended t c = c.in-Ended.ensures

pub compare_blocks-overflow_sub-left : goal.compare_blocks-overflow_sub-left
compare_blocks-overflow_sub-left t c = omega (arith, c.in-Both.ensures.3)

pub compare_blocks-compare_below-requires : goal.compare_blocks-compare_below-requires
compare_blocks-compare_below-requires t c =
    let o = c.in-Both.ensures in
    let p = c.requires in
    (omega (arith, o.3), (p.0, o.0, o.1, p.3, o.2, p.4, omega (arith, o.3, p.5)))

-- what is below two blocks spends no more than what is left
few_units : (log : Bytes) (e : Entry) (level nest : ℕ) (b c : Bytes) (n : ℕ) {r : Compared} → e.dsize ≤ most_leaf
    → ((f : ℕ) → n < f → r ≡ compare_below f log e level nest b c n) → r.units ≤ n
few_units log e level nest b c n h k = subst (λ (x : Compared). x.units ≤ n) (sym (k (n + 1) (omega arith))) (below_units (n + 1) log e level nest b c n h)

pub compare_blocks-one_unit-requires : goal.compare_blocks-one_unit-requires
compare_blocks-one_unit-requires t c =
    let a = c.args in
    let p = c.requires in
    let log = joined a.runs.end.0 a.runs.log.now a.runs.waiting.now in
    omega (arith, few_units log a.e a.level a.nest (bytes_of log c.in-Both.b) (bytes_of log c.in-Both.c) (a.left - 1) p.4 c.compare_below.ensures, p.5)

pub compare_blocks-returns-in-Both : goal.compare_blocks-returns-in-Both
compare_blocks-returns-in-Both t c = rw c.one_unit.ensures (c.in-Both.ensures.4 _ c.compare_below.ensures)

-- `compare_below::compare_below`: the positions of two blocks in order
pub compare_below-positions_of_both-most-requires : goal.compare_below-positions_of_both-most-requires
compare_below-positions_of_both-most-requires t c = (c.requires.1.not_many, c.requires.2.not_many)

pub compare_below-loop-i-init : goal.compare_below-loop-i-init
compare_below-loop-i-init t c = rest-at-first _ _ _

-- what a position gives is bounded
within : (log : Bytes) (e : Entry) (level nest : ℕ) (b c : Bytes) (i n : ℕ) {r : Compared} → e.dsize ≤ most_leaf
    → ((f : ℕ) → n < f → r ≡ compare_position f log e level nest b c i n) → Within n 1 r
within log e level nest b c i n h k = subst (Within n 1) (sym (k (n + 1) (omega arith))) (position-within (n + 1) log e level nest b c i n h)

pub compare_below-compare_position-r-requires : goal.compare_below-compare_position-r-requires
compare_below-compare_position-r-requires t c =
    let a = c.args in
    let p = c.requires in
    let few : c.loop-i.i ≤ longest =
    omega (arith, c.positions_of_both-most.ensures, positions_few a.level a.b.size a.c.size p.1.not_many p.2.not_many, c.loop-i-test.true) in
    (omega (arith, c.loop-i.invariant.spent), (p.0, p.1, p.2, p.3, p.4, p.5, omega (arith, p.6), few))

pub compare_below-overflow_add-count : goal.compare_below-overflow_add-count
compare_below-overflow_add-count t c =
    let a = c.args in
    let p = c.requires in
    let few : c.loop-i.i ≤ longest =
    omega (arith, c.positions_of_both-most.ensures, positions_few a.level a.b.size a.c.size p.1.not_many p.2.not_many, c.loop-i-test.true) in
    let log = joined a.runs.end.0 a.runs.log.now a.runs.waiting.now in
    let b = within log a.e a.level a.nest (bytes_of log a.b) (bytes_of log a.c) c.loop-i.i (a.left - c.loop-i.units) p.5 c.compare_position-r.ensures in
    omega (arith, c.loop-i.invariant.counted, c.loop-i.invariant.spent, b.0, b.1, few, p.6)

pub compare_below-overflow_add-units : goal.compare_below-overflow_add-units
compare_below-overflow_add-units t c =
    let a = c.args in
    let p = c.requires in
    let log = joined a.runs.end.0 a.runs.log.now a.runs.waiting.now in
    let b = within log a.e a.level a.nest (bytes_of log a.b) (bytes_of log a.c) c.loop-i.i (a.left - c.loop-i.units) p.5 c.compare_position-r.ensures in
    omega (arith, c.loop-i.invariant.spent, b.0, p.6)

pub compare_below-returns-in_default : goal.compare_below-returns-in_default
compare_below-returns-in_default t c =
    let a = c.args in
    let p = c.requires in
    of-below (joined a.runs.end.0 a.runs.log.now a.runs.waiting.now) a.e a.level a.nest a.b a.c _ p.1 p.2 a.left c.positions_of_both-most.ensures _
    (refused_stops c.loop-i.invariant c.loop-i-test.true _ c.compare_position-r.ensures _ c.in_default.is)

pub compare_below-loop-i-preserved : goal.compare_below-loop-i-preserved
compare_below-loop-i-preserved t c =
    let a = c.args in
    let p = c.requires in
    let log = joined a.runs.end.0 a.runs.log.now a.runs.waiting.now in
    let b = within log a.e a.level a.nest (bytes_of log a.b) (bytes_of log a.c) c.loop-i.i (a.left - c.loop-i.units) p.5 c.compare_position-r.ensures in
    rest_goes_on c.loop-i.invariant c.loop-i-test.true _ c.compare_position-r.ensures b c.in-Ok.is

pub compare_below-returns : goal.compare_below-returns
compare_below-returns t c =
    let a = c.args in
    let p = c.requires in
    of-below (joined a.runs.end.0 a.runs.log.now a.runs.waiting.now) a.e a.level a.nest a.b a.c _ p.1 p.2 a.left c.positions_of_both-most.ensures _
    (all_done c.loop-i.invariant c.loop-i-test.false)

-- `compare_below::compare_position`: two entries, or two scores
pub compare_position-entry_bytes-x-requires : goal.compare_position-entry_bytes-x-requires
compare_position-entry_bytes-x-requires t c = let p = c.requires in (p.0, p.1.before, omega (arith, p.7))

pub compare_position-entry_bytes-y-requires : goal.compare_position-entry_bytes-y-requires
compare_position-entry_bytes-y-requires t c = let p = c.requires in (p.0, p.2.before, omega (arith, p.7))

pub compare_position-compare_entries-requires : goal.compare_position-compare_entries-requires
compare_position-compare_entries-requires t c =
    let p = c.requires in
    (omega arith, (p.0, listed-of_40 _ c.entry_bytes-x.ensures, listed-of_40 _ c.entry_bytes-y.ensures, p.4, p.6))

pub compare_position-returns-then-level-eq0 : goal.compare_position-returns-then-level-eq0
compare_position-returns-then-level-eq0 t c =
    let a = c.args in
    λ f h. c.compare_entries.ensures f h
    ∙ in_leaves f (joined a.runs.end.0 a.runs.log.now a.runs.waiting.now) a.e a.level a.nest _ _ a.i a.left c.if-level-eq0.true c.entry_bytes-x.ensures c.entry_bytes-y.ensures

pub compare_position-score_at-s-requires : goal.compare_position-score_at-s-requires
compare_position-score_at-s-requires t c = let p = c.requires in (p.0, p.1.before, p.1.full-scores c.if-level-eq0.false, omega (arith, p.7))

pub compare_position-score_at-t-requires : goal.compare_position-score_at-t-requires
compare_position-score_at-t-requires t c = let p = c.requires in (p.0, p.2.before, p.2.full-scores c.if-level-eq0.false, omega (arith, p.7))

pub compare_position-compare_blocks-requires : goal.compare_position-compare_blocks-requires
compare_position-compare_blocks-requires t c =
    let a = c.args in
    let p = c.requires in
    let log = joined a.runs.end.0 a.runs.log.now a.runs.waiting.now in (
      omega arith,
      (
        p.0,
        blocks.score-of_20 log a.b p.1.before.1 a.i c.score_at-s.ensures (p.1.full-scores c.if-level-eq0.false),
        blocks.score-of_20 log a.c p.2.before.1 a.i c.score_at-t.ensures (p.2.full-scores c.if-level-eq0.false),
        omega (arith, p.3),
        p.5,
        p.6,
      ),
    )

pub compare_position-returns : goal.compare_position-returns
compare_position-returns t c =
    let a = c.args in
    λ f h. c.compare_blocks.ensures f h
    ∙ above_leaves f (joined a.runs.end.0 a.runs.log.now a.runs.waiting.now) a.e a.level a.nest _ _ a.i a.left c.if-level-eq0.false c.score_at-s.ensures c.score_at-t.ensures
