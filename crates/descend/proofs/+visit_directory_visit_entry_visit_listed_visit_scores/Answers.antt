-- The four functions that call each other meet their contracts: the allowance that is left gets less.
use Prim.Native.Nat.{ℕ}
use mathlib.Core.Path.{◌≡◌, sym, ◌∙◌}
use native.Mathlib.Omega.{arith}
use mathlib.Core.List.{List}
use Rattle.entry.specs.declared.Entry.{Entry}
use Rattle.tree.specs.Tree.{type_at, count_at}
use Rattle.visit.specs.declared.Met.{Met}
use Rattle.visit.specs.Met.{met_of}
use Rattle.visit.proofs.Visits.{in_both}
use Rattle.descent.proofs.InOrder.{rest-at-first, all_done, rest_goes_on, refused_stops, walk_in_order}
use Rattle.descent.proofs.Listed.{entries_are_directory, entry_read, depth-at-most_7, score-of_20, ends_unvisited, is_visited}
use Rattle.descent.proofs.EntryBlocks.{EntryMet, block-known, refused_ends, ended-below, directory-below, scores-below, whole-scores, scores-one_by_one, score_visited}
use Rattle.descent.proofs.EntryBlocks as blocks
use Rattle.descend.proofs.+visit_directory_visit_entry_visit_listed_visit_scores.Goals as goal

-- `descend::visit_directory`: the entries of the block in order
pub visit_directory-loop-i-init : goal.visit_directory-loop-i-init
visit_directory-loop-i-init t c = rest-at-first (walk_in_order _ _ _ _) _ _

pub visit_directory-returns-in_default : goal.visit_directory-returns-in_default
visit_directory-returns-in_default t c =
    let w = c.visit_listed-w in
    let d =
    entries_are_directory _ _ c.args.b c.requires.1.1 _ _
    (refused_stops c.loop-i.invariant c.loop-i-test.true _ _ w.ensures.within w.ensures.exact _ c.in_default.is) in
    record { within = d.0; exact = d.1 }

pub visit_directory-loop-i-preserved : goal.visit_directory-loop-i-preserved
visit_directory-loop-i-preserved t c =
    let w = c.visit_listed-w in
    rest_goes_on c.loop-i.invariant c.loop-i-test.true _ _ w.ensures.within w.ensures.exact c.in-Ok.is

pub visit_directory-returns : goal.visit_directory-returns
visit_directory-returns t c =
    let d = entries_are_directory _ _ c.args.b c.requires.1.1 _ _ (all_done c.loop-i.invariant c.loop-i-test.false) in
    record { within = d.0; exact = d.1 }

-- `descend::visit_listed`: by what the entry says
pub visit_listed-visit_entry-requires : goal.visit_listed-visit_entry-requires
visit_listed-visit_entry-requires t c =
    let q = c.requires in
    let r = entry_read _ _ q.1.1 _ q.4 c.entry_bytes-bytes.ensures c.entry_at-e.ensures in
    (omega arith, (q.0, score-of_20 r, depth-at-most_7 r))

pub visit_listed-returns-in-Ends-clause-exact : goal.visit_listed-returns-in-Ends-clause-exact
visit_listed-returns-in-Ends-clause-exact t c =
    let q = c.requires in
    let r = entry_read _ _ q.1.1 _ q.4 c.entry_bytes-bytes.ensures c.entry_at-e.ensures in
    λ f l. ends_unvisited r _ (sym c.in-Ends.is ∙ c.judge-judged.ensures) f _ _ _

pub visit_listed-returns-in-Visited-clause-exact : goal.visit_listed-returns-in-Visited-clause-exact
visit_listed-returns-in-Visited-clause-exact t c =
    let q = c.requires in
    let r = entry_read _ _ q.1.1 _ q.4 c.entry_bytes-bytes.ensures c.entry_at-e.ensures in
    λ f l. is_visited r (sym c.in-Visited.is ∙ c.judge-judged.ensures) _ _ _ c.nest_of.ensures f (c.visit_entry.ensures.exact f l)

-- `descend::visit_entry`: by what was met, the level and the length
met : {log : List ℕ} {e : Entry} {level nest : ℕ} {score : List ℕ} {left : ℕ} {m : Met} → m ≡ met_of log nest left (type_at e level) (count_at e level) score
    → EntryMet log e level nest score left m
met h = record { met = h }

pub visit_entry-returns-in_default : goal.visit_entry-returns-in_default
visit_entry-returns-in_default t c =
    let v = refused_ends (met c.visit_level-m.ensures) _ c.in_default.is _ c.answer.ensures in
    record { within = v.0; exact = v.1 }

pub visit_entry-returns-in-Ends : goal.visit_entry-returns-in-Ends
visit_entry-returns-in-Ends t c =
    let v = ended-below (met c.visit_level-m.ensures) c.in-Ok.is c.below_block-below.ensures _ c.in-Ends.is in
    record { within = v.0; exact = v.1 }

pub visit_entry-overflow_sub-left : goal.visit_entry-overflow_sub-left
visit_entry-overflow_sub-left t c = omega (arith, (block-known (met c.visit_level-m.ensures) c.in-Ok.is).some_left)

pub visit_entry-visit_directory-requires : goal.visit_entry-visit_directory-requires
visit_entry-visit_directory-requires t c =
    let a = c.args in
    let b = block-known (met c.visit_level-m.ensures) c.in-Ok.is in
    let p = c.requires.0 in
    (omega (arith, b.some_left), (p, in_both a.runs.end.0 a.runs.log.now a.runs.waiting.now p _ b.in_log, b.not_many, b.not-deep))

pub visit_entry-returns-in-Entries : goal.visit_entry-returns-in-Entries
visit_entry-returns-in-Entries t c =
    let w = c.visit_directory.ensures in
    let v =
    directory-below (met c.visit_level-m.ensures) c.in-Ok.is c.below_block-below.ensures c.in-Entries.is _ (w.within, w.exact) in
    record { within = rw c.one_more.ensures v.0; exact = λ f h. c.one_more.ensures ∙ v.1 f h }

pub visit_entry-overflow_sub-level : goal.visit_entry-overflow_sub-level
visit_entry-overflow_sub-level t c = (whole-scores _ _ _ c.below_block-below.ensures c.in-Scores.is).0

pub visit_entry-overflow_sub-left-in-Scores : goal.visit_entry-overflow_sub-left-in-Scores
visit_entry-overflow_sub-left-in-Scores t c = omega (arith, (block-known (met c.visit_level-m.ensures) c.in-Ok.is).some_left)

pub visit_entry-visit_scores-requires : goal.visit_entry-visit_scores-requires
visit_entry-visit_scores-requires t c =
    let a = c.args in
    let b = block-known (met c.visit_level-m.ensures) c.in-Ok.is in
    let p = c.requires in (
      omega (arith, b.some_left),
      (p.0, in_both a.runs.end.0 a.runs.log.now a.runs.waiting.now p.0 _ b.in_log, b.not_many, (whole-scores _ _ _ c.below_block-below.ensures c.in-Scores.is).1, omega (arith, p.2)),
    )

pub visit_entry-returns-in-Scores : goal.visit_entry-returns-in-Scores
visit_entry-returns-in-Scores t c =
    let w = c.visit_scores.ensures in
    let v =
    scores-below (met c.visit_level-m.ensures) c.in-Ok.is c.below_block-below.ensures c.in-Scores.is _ (w.within, w.exact) in
    record { within = rw c.one_more-in-Scores.ensures v.0; exact = λ f h. c.one_more-in-Scores.ensures ∙ v.1 f h }

-- `descend::visit_scores`: the scores of the block in order
pub visit_scores-loop-i-init : goal.visit_scores-loop-i-init
visit_scores-loop-i-init t c = rest-at-first (walk_in_order _ _ _ _) _ _

pub visit_scores-visit_entry-w-requires : goal.visit_scores-visit_entry-w-requires
visit_scores-visit_entry-w-requires t c =
    let q = c.requires in
    (omega arith, (q.0, blocks.score-of_20 _ c.args.b q.1.1 _ c.score_at-s.ensures q.3, q.4))

pub visit_scores-returns-in_default : goal.visit_scores-returns-in_default
visit_scores-returns-in_default t c =
    let b = c.args.b in
    let short = c.requires.1.1 in
    let w = c.visit_entry-w.ensures in
    let h = c.loop-i-test.true in
    let v =
    scores-one_by_one _ b short _ _ _ _ _
    (refused_stops c.loop-i.invariant h _ _ w.within (score_visited _ b short _ _ _ _ h c.score_at-s.ensures w.exact) _ c.in_default.is) in
    record { within = v.0; exact = v.1 }

pub visit_scores-loop-i-preserved : goal.visit_scores-loop-i-preserved
visit_scores-loop-i-preserved t c =
    let w = c.visit_entry-w.ensures in
    let h = c.loop-i-test.true in
    rest_goes_on c.loop-i.invariant h _ _ w.within (score_visited _ c.args.b c.requires.1.1 _ _ _ _ h c.score_at-s.ensures w.exact) c.in-Ok.is

pub visit_scores-returns : goal.visit_scores-returns
visit_scores-returns t c =
    let v = scores-one_by_one _ c.args.b c.requires.1.1 _ _ _ _ _ (all_done c.loop-i.invariant c.loop-i-test.false) in
    record { within = v.0; exact = v.1 }
