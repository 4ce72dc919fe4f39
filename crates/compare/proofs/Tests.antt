-- The tests before a comparison, one after the other.
use mathlib.Core.Path.{◌≡◌, refl, sym, ap, ◌∙◌}
use mathlib.Core.Bool.{Bool, true, false}
use Prim.Native.Nat.{ℕ, ◌+◌, ◌≤◌, ◌<◌}
use lib.ListN.{length, take, drop}
use borrow.Author.Tests.{lt-ltb, le-ltb}
use Rattle.bedrock.proofs.Choices.{and-true, and-false}
use Rattle.buffer.specs.Bytes.{Bytes}
use Rattle.refusal.specs.declared.Refusal.TheVariants.{LogLength, Entry as EntryRefused, Allowance}
use Rattle.entry.specs.declared.Entry.{Entry}
use Rattle.entry.specs.Entry.{entry_of}
use Rattle.file.specs.File.{entry_readable}
use Rattle.file.proofs.Tests.{readable-length, entry_whole}
use Rattle.walk.specs.Walk.{most_allowance}
use Rattle.comparison.specs.declared.Compared.{Compared}
use Rattle.comparison.specs.Compared.{refused}
use Rattle.comparison.specs.Compare.{compare_entries}
use Rattle.comparison.specs.Differences.{directory_allowed, differences_in}

-- ---- an entry

module _ (x : Bytes) {r : Bool} (e : r ≡ entry_readable x) where
  pub not-readable : r ≡ false → false ≡ directory_allowed x
  unfolding directory_allowed
  not-readable q = rw (sym e ∙ q)

  pub by_directory : r ≡ true → {d : Entry} → d ≡ entry_of (take 40 (drop 0 x)) → d.directory ≡ directory_allowed x
  unfolding directory_allowed
  by_directory q {d} h = rw (sym e ∙ q) (ap (λ (z : Entry). z.directory) (entry_whole x d (readable-length x r e q) h))

pub directory-length : (x : Bytes) → directory_allowed x ≡ true → length x ≡ 40
unfolding directory_allowed
directory-length x h = readable-length x (entry_readable x) refl (and-true (entry_readable x) (entry_of x).directory h).0

-- ---- the tests

module _ (lent : Bool) (log x y : Bytes) (allowance : ℕ) where
  pub log-not-allowed : lent ≡ false → refused LogLength ≡ differences_in lent log x y allowance
  unfolding differences_in
  log-not-allowed q = rw q

  module _ (l : lent ≡ true) where
    pub allowance_too_large : most_allowance < allowance → refused Allowance ≡ differences_in lent log x y allowance
    unfolding differences_in
    allowance_too_large h = rw (l, lt-ltb most_allowance allowance h)

    module _ (h : allowance ≤ most_allowance) where
      pub first-not-allowed : directory_allowed x ≡ false → refused EntryRefused ≡ differences_in lent log x y allowance
      unfolding differences_in
      first-not-allowed p = rw (l, le-ltb most_allowance allowance h, p)

      pub second-not-allowed : directory_allowed y ≡ false → refused EntryRefused ≡ differences_in lent log x y allowance
      unfolding differences_in
      second-not-allowed q = rw (l, le-ltb most_allowance allowance h, q, and-false (directory_allowed x))

      pub tests_passed : directory_allowed x ≡ true → directory_allowed y ≡ true → {r : Compared} → r ≡ compare_entries (allowance + 1) log 0 x y allowance
          → r ≡ differences_in lent log x y allowance
      unfolding differences_in
      tests_passed p q e = e ∙ rw (l, le-ltb most_allowance allowance h, p, q)
