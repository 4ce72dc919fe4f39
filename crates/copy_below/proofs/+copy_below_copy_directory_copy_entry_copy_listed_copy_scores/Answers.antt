-- The five functions that call each other meet their contracts: the allowance that is left gets less.
use Prim.Native.Nat.{ℕ, ◌+◌, ◌<◌, ◌^◌}
use mathlib.Core.Path.{◌≡◌, sym, ◌∙◌}
use native.Mathlib.Omega.{arith}
use Rattle.buffer.specs.Bytes.{Bytes}
use Rattle.block.specs.Log.{joined}
use Rattle.entry.specs.declared.Entry.{Entry}
use Rattle.tree.specs.Tree.{type_at, count_at}
use Rattle.visit.specs.declared.Met.{Met}
use Rattle.visit.specs.Met.{met_of}
use Rattle.visit.proofs.Visits.{in_both}
use Rattle.descent.proofs.InOrder.{rest-at-first, all_done, rest_goes_on, refused_stops}
use Rattle.descent.proofs.Listed.{entry_read, depth-at-most_7, score-of_20}
use Rattle.descent.proofs.EntryBlocks.{EntryMet, block-known, whole-scores}
use Rattle.descent.proofs.EntryBlocks as blocks
use Rattle.copy_below.proofs.InOrder.{copy_in_order_lem}
use Rattle.copy_below.proofs.Listed.{entries_are_directory, ends_unvisited, is-copied}
use Rattle.copy_below.proofs.EntryBlocks.{refused_ends, kept-behind, below-ended, below-directory, below-scores, scores-one_by_one, score-copied}
use Rattle.copy_below.proofs.+copy_below_copy_directory_copy_entry_copy_listed_copy_scores.Goals as goal

-- `copy_below::copy_directory`: the entries of the block in order
pub copy_directory-loop-i-init : goal.copy_directory-loop-i-init
copy_directory-loop-i-init t c = rest-at-first (copy_in_order_lem _ _ _ _) _ _

pub copy_directory-returns-in_default : goal.copy_directory-returns-in_default
copy_directory-returns-in_default t c =
    let a = c.args in
    let w = c.copy_listed-w.ensures in
    let d =
    entries_are_directory _ a.date.now _ a.b c.requires.1.1 _ _ _ _
    (refused_stops c.loop-i.invariant c.loop-i-test.true _ _ w.within w.exact _ c.in_default.is) in
    record { within = d.0; exact = d.1 }

pub copy_directory-loop-i-preserved : goal.copy_directory-loop-i-preserved
copy_directory-loop-i-preserved t c =
    let w = c.copy_listed-w.ensures in
    rest_goes_on c.loop-i.invariant c.loop-i-test.true _ _ w.within w.exact c.in-Ok.is

pub copy_directory-returns : goal.copy_directory-returns
copy_directory-returns t c =
    let a = c.args in
    let d = entries_are_directory _ a.date.now _ a.b c.requires.1.1 _ _ _ _ (all_done c.loop-i.invariant c.loop-i-test.false) in
    record { within = d.0; exact = d.1 }

-- `copy_below::copy_listed`: by what the entry says
pub copy_listed-copy_entry-requires : goal.copy_listed-copy_entry-requires
copy_listed-copy_entry-requires t c =
    let q = c.requires in
    let r = entry_read _ _ q.1.1 _ q.4 c.entry_bytes-bytes.ensures c.entry_at-e.ensures in
    (omega arith, (q.0, score-of_20 r, depth-at-most_7 r, q.5))

pub copy_listed-returns-in-Ends-clause-exact : goal.copy_listed-returns-in-Ends-clause-exact
copy_listed-returns-in-Ends-clause-exact t c =
    let q = c.requires in
    let r = entry_read _ _ q.1.1 _ q.4 c.entry_bytes-bytes.ensures c.entry_at-e.ensures in
    λ f l. ends_unvisited r _ (sym c.in-Ends.is ∙ c.judge-judged.ensures) f _ _ _ _ _

pub copy_listed-returns-in-Visited-clause-exact : goal.copy_listed-returns-in-Visited-clause-exact
copy_listed-returns-in-Visited-clause-exact t c =
    let q = c.requires in
    let r = entry_read _ _ q.1.1 _ q.4 c.entry_bytes-bytes.ensures c.entry_at-e.ensures in
    λ f l. is-copied r (sym c.in-Visited.is ∙ c.judge-judged.ensures) _ _ _ _ _ c.nest_of.ensures f (c.copy_entry.ensures.exact f l)

-- `copy_below::copy_entry`: by what was met
met : {log : Bytes} {e : Entry} {level nest : ℕ} {score : Bytes} {left : ℕ} {m : Met} → m ≡ met_of log nest left (type_at e level) (count_at e level) score
    → EntryMet log e level nest score left m
met h = record { met = h }

pub copy_entry-returns-in_default : goal.copy_entry-returns-in_default
copy_entry-returns-in_default t c =
    let a = c.args in
    let log = joined a.runs.end.0 a.runs.log.now a.runs.waiting.now in
    let v =
    refused_ends log a.date.now a.e a.level a.nest a.score.now a.left a.second.now _ c.visit_level-m.ensures _ c.in_default.is _ c.answer.ensures in
    record { within = v.0; exact = v.1 }

pub copy_entry-overflow_sub-left : goal.copy_entry-overflow_sub-left
copy_entry-overflow_sub-left t c =
    let k = block-known (met c.visit_level-m.ensures) c.in-Ok.is in
    omega (arith, k.some_left)

pub copy_entry-copy_below-below-requires : goal.copy_entry-copy_below-below-requires
copy_entry-copy_below-below-requires t c =
    let a = c.args in
    let k = block-known (met c.visit_level-m.ensures) c.in-Ok.is in
    let p = c.requires in
    (omega (arith, k.some_left), (p.0, in_both a.runs.end.0 a.runs.log.now a.runs.waiting.now p.0 _ k.in_log, k.not_many, p.2, k.not-deep, p.3))

pub copy_entry-keep-requires : goal.copy_entry-keep-requires
copy_entry-keep-requires t c =
    let a = c.args in
    let k = block-known (met c.visit_level-m.ensures) c.in-Ok.is in
    let p = c.requires in
    let w = c.copy_below-below in
    let h : w.result.visits + 1 < 2 ^ 64 = omega (arith, k.some_left, w.ensures.within, c.ranges.left) in
    (p.0, in_both a.runs.end.0 a.runs.log.now a.runs.waiting.now p.0 _ k.in_log, k.not_many, p.3, h)

pub copy_entry-returns : goal.copy_entry-returns
copy_entry-returns t c =
    let a = c.args in
    let log = joined a.runs.end.0 a.runs.log.now a.runs.waiting.now in
    let b = c.copy_below-below.ensures in
    let v =
    kept-behind log a.date.now a.e a.level a.nest a.score.now a.left a.second.now _ c.visit_level-m.ensures _ c.in-Ok.is _ _ (b.within, b.exact)
    _ c.type_at-kind.ensures _ _ c.keep.ensures.count c.keep.ensures.exact in
    record { within = v.0; exact = v.1 }

-- `copy_below::copy_below`: by the part that is below
pub copy_below-returns-in-Ends-clause-exact : goal.copy_below-returns-in-Ends-clause-exact
copy_below-returns-in-Ends-clause-exact t c =
    let a = c.args in
    let log = joined a.runs.end.0 a.runs.log.now a.runs.waiting.now in
    (below-ended log a.date.now a.e a.level a.nest a.left a.b c.requires.1.1 a.second.now c.below_block-below.ensures _ c.in-Ends.is).1

pub copy_below-returns-in-Entries-clause-exact : goal.copy_below-returns-in-Entries-clause-exact
copy_below-returns-in-Entries-clause-exact t c =
    let a = c.args in
    let log = joined a.runs.end.0 a.runs.log.now a.runs.waiting.now in
    let d = c.copy_directory.ensures in
    (below-directory log a.date.now a.e a.level a.nest a.left a.b c.requires.1.1 a.second.now c.below_block-below.ensures c.in-Entries.is _ _
    (d.within, d.exact)).1

pub copy_below-overflow_sub-level : goal.copy_below-overflow_sub-level
copy_below-overflow_sub-level t c = (whole-scores _ _ _ c.below_block-below.ensures c.in-Scores.is).0

pub copy_below-copy_scores-requires : goal.copy_below-copy_scores-requires
copy_below-copy_scores-requires t c =
    let p = c.requires in
    (omega arith, (p.0, p.1, p.2, (whole-scores _ _ _ c.below_block-below.ensures c.in-Scores.is).1, omega (arith, p.3), p.5))

pub copy_below-returns-in-Scores-clause-exact : goal.copy_below-returns-in-Scores-clause-exact
copy_below-returns-in-Scores-clause-exact t c =
    let a = c.args in
    let log = joined a.runs.end.0 a.runs.log.now a.runs.waiting.now in
    let d = c.copy_scores.ensures in
    (below-scores log a.date.now a.e a.level a.nest a.left a.b c.requires.1.1 a.second.now c.below_block-below.ensures c.in-Scores.is _ _
    (d.within, d.exact)).1

-- `copy_below::copy_scores`: the scores of the block in order
pub copy_scores-loop-i-init : goal.copy_scores-loop-i-init
copy_scores-loop-i-init t c = rest-at-first (copy_in_order_lem _ _ _ _) _ _

pub copy_scores-copy_entry-w-requires : goal.copy_scores-copy_entry-w-requires
copy_scores-copy_entry-w-requires t c =
    let q = c.requires in
    (omega arith, (q.0, blocks.score-of_20 _ c.args.b q.1.1 _ c.score_at-s.ensures q.3, q.4, q.5))

pub copy_scores-returns-in_default : goal.copy_scores-returns-in_default
copy_scores-returns-in_default t c =
    let a = c.args in
    let log = joined a.runs.end.0 a.runs.log.now a.runs.waiting.now in
    let short = c.requires.1.1 in
    let w = c.copy_entry-w.ensures in
    let h = c.loop-i-test.true in
    let v =
    scores-one_by_one log a.date.now a.b short _ _ _ _ _ _ _
    (refused_stops c.loop-i.invariant h _ _ w.within (score-copied log a.date.now a.b short _ _ _ _ _ _ h c.score_at-s.ensures w.exact) _ c.in_default.is) in
    record { within = v.0; exact = v.1 }

pub copy_scores-loop-i-preserved : goal.copy_scores-loop-i-preserved
copy_scores-loop-i-preserved t c =
    let a = c.args in
    let log = joined a.runs.end.0 a.runs.log.now a.runs.waiting.now in
    let w = c.copy_entry-w.ensures in
    let h = c.loop-i-test.true in
    rest_goes_on c.loop-i.invariant h _ _ w.within (score-copied log a.date.now a.b c.requires.1.1 _ _ _ _ _ _ h c.score_at-s.ensures w.exact) c.in-Ok.is

pub copy_scores-returns : goal.copy_scores-returns
copy_scores-returns t c =
    let a = c.args in
    let log = joined a.runs.end.0 a.runs.log.now a.runs.waiting.now in
    let v = scores-one_by_one log a.date.now a.b c.requires.1.1 _ _ _ _ _ _ _ (all_done c.loop-i.invariant c.loop-i-test.false) in
    record { within = v.0; exact = v.1 }
