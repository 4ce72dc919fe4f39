-- What the two given entries alone decide.
use mathlib.Core.Path.{◌≡◌, refl, sym, ap, ◌∙◌}
use mathlib.Core.Bool.{Bool, true, false, cond, ◌&&◌, true≢false}
use Prim.Native.Nat.{ℕ, ◌+◌}
use native.Mathlib.Numerals.{add-one}
use lib.Dec.{eqb}
use lib.ListN.{length}
use borrow.Author.Tests.{le-ltb}
use Rattle.bedrock.proofs.Choices.{and-true}
use Rattle.buffer.specs.Bytes.{Bytes, same}
use Rattle.buffer.proofs.Bytes.{same_true}
use Rattle.sector_log.specs.Parts.{tape}
use Rattle.entry.specs.declared.Entry.{Entry}
use Rattle.entry.specs.Entry.{entry_of, well_formed, score_of}
use Rattle.file.specs.File.{entry_readable}
use Rattle.walk.specs.Walk.{most_allowance}
use Rattle.verdict.specs.declared.Verdict.TheVariants.{Open, Differ}
use Rattle.verdict.specs.Verdict.{same_shape, verdict_of, verdict}
use Rattle.verdict.proofs.Verdicts.{by_tests_lem, shape_self}
use Rattle.comparison.specs.declared.Compared.{Compared}
use Rattle.comparison.specs.Compared.{none}
use Rattle.comparison.specs.Compare.{by_verdict, compare_blocks, compare_entries}
use Rattle.comparison.specs.Differences.{directory_allowed, differences_in, differences_of}
use Rattle.comparison.proofs.Absent.{equal-scores_unread}
use Rattle.compare_laws.specs.Given.{Passes, NotDirectoryRefused, OtherShapeCountsOne, SameScoreIsNone}

pub not-directory-refused : NotDirectoryRefused
unfolding differences_in
not-directory-refused log waiting x n p d = rw (p.0, le-ltb most_allowance n p.1, d)

-- an active, well-formed directory
record Directory (e : Entry) : Type 0 where
  active : e.active ≡ true
  formed : well_formed e ≡ true
  directory : e.directory ≡ true

directory-of : (x : Bytes) → directory_allowed x ≡ true → Directory (entry_of x)
unfolding directory_allowed entry_readable
directory-of x h =
    let a = and-true (eqb (length x) 40 && ((entry_of x).active && well_formed (entry_of x))) (entry_of x).directory h in
    let b = and-true (eqb (length x) 40) ((entry_of x).active && well_formed (entry_of x)) a.0 in
    let c = and-true (entry_of x).active (well_formed (entry_of x)) b.1 in
    record { active = c.0; formed = c.1; directory = a.1 }

module _ (log waiting x y : Bytes) (n : ℕ) (p : Passes log waiting n) (dx : directory_allowed x ≡ true) (dy : directory_allowed y ≡ true) where
  -- the tests are passed, and the two entries differ or not by their verdict
  given : differences_of log waiting x y n ≡ compare_entries (n + 1) (tape log waiting) 0 x y n
  unfolding differences_in
  given = rw (p.0, le-ltb most_allowance n p.1, dx, dy)

  by_shape : (s : Bool) → same_shape (entry_of x) (entry_of y) ≡ s → verdict_of (entry_of x) (entry_of y) ≡ cond s Open Differ
  by_shape s q = go s q
    where
      go : (s : Bool) → same_shape (entry_of x) (entry_of y) ≡ s → verdict_of (entry_of x) (entry_of y) ≡ cond s Open Differ
      go true q =
          sym (by_tests_lem (entry_of x) (entry_of y) true true true true true (directory-of x dx).active (directory-of y dy).active (directory-of x dx).formed (directory-of y dy).formed q)
      go false q =
          sym (by_tests_lem (entry_of x) (entry_of y) true true true true false (directory-of x dx).active (directory-of y dy).active (directory-of x dx).formed (directory-of y dy).formed q)

-- two directories of different shape are not the same bytes
pub other_shape_counts-one : OtherShapeCountsOne
unfolding verdict
other_shape_counts-one log waiting x y n p dx dy q = given log waiting x y n p dx dy ∙ go (same x y) refl
  where
    c : Compared
    c = compare_blocks (n + 1) (tape log waiting) (entry_of x) (entry_of x).depth (0 + 1) (score_of x) (score_of y) n

    go : (t : Bool) → same x y ≡ t → compare_entries (n + 1) (tape log waiting) 0 x y n ≡ by_verdict Differ c
    go true e =
        let z : same_shape (entry_of x) (entry_of x) ≡ false = ap (λ (b : Bytes). same_shape (entry_of x) (entry_of b)) (same_true x y e) ∙ q in
        absurd (true≢false (sym (shape_self (entry_of x) (directory-of x dx).directory) ∙ z))
    go false e = rw (e, by_shape log waiting x y n p dx dy false q)

pub same-score-is-none : SameScoreIsNone
unfolding verdict
same-score-is-none log waiting x y n p dx dy q s = given log waiting x y n p dx dy ∙ go (same x y) refl
  where
    go : (t : Bool) → same x y ≡ t → compare_entries (n + 1) (tape log waiting) 0 x y n ≡ none
    go true e = rw e
    go false e =
        rw (e, by_shape log waiting x y n p dx dy true q, ← s, add-one n) (equal-scores_unread n (tape log waiting) (entry_of x) (entry_of x).depth 1 (score_of x) n)
