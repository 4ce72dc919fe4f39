-- The tests of a copy.
use mathlib.Core.Path.{◌≡◌, sym, ◌∙◌}
use mathlib.Core.Bool.{Bool, true, false}
use Prim.Native.Nat.{ℕ, ◌≤◌, ◌<◌}
use borrow.Author.Tests.{lt-ltb, le-ltb}
use Rattle.buffer.specs.Bytes.{Bytes}
use Rattle.refusal.specs.declared.Refusal.TheVariants.{LogLength, Allowance, Date}
use Rattle.sector.specs.Sector.{is_date}
use Rattle.sector_log.specs.LookUp.{log_allowed, lent_allowed}
use Rattle.walk.specs.Walk.{most_allowance}
use Rattle.copying.specs.Copy.{Copied, stopped, copy_root, copy_in, copy_allowed}
use Rattle.std.specs.Prelude.{Err}

pub parts-refused : (m w k : ℕ) → lent_allowed m w ≡ false → false ≡ copy_allowed m w k
unfolding copy_allowed
parts-refused m w k e = rw e

pub parts-allowed : (m w k : ℕ) (r : Bool) → lent_allowed m w ≡ true → r ≡ log_allowed k → r ≡ copy_allowed m w k
unfolding copy_allowed
parts-allowed m w k r e h = rw e h

module _ (lent : Bool) (log date score : Bytes) (allowance : ℕ) (s₀ : Bytes) (a : Bool) (e : a ≡ lent) where
  pub log-not-allowed : a ≡ false → stopped 0 (Err LogLength) s₀ ≡ copy_in lent log date score allowance s₀
  unfolding copy_in
  log-not-allowed q = rw (sym e ∙ q)

  module _ (q : a ≡ true) (d : Bool) (ed : d ≡ is_date date) where
    pub not-a-date : d ≡ false → stopped 0 (Err Date) s₀ ≡ copy_in lent log date score allowance s₀
    unfolding copy_in
    not-a-date z = rw (sym e ∙ q, sym ed ∙ z)

    pub allowance_too_large : d ≡ true → most_allowance < allowance → stopped 0 (Err Allowance) s₀ ≡ copy_in lent log date score allowance s₀
    unfolding copy_in
    allowance_too_large z h = rw (sym e ∙ q, sym ed ∙ z, lt-ltb most_allowance allowance h)

    pub tests_passed : d ≡ true → allowance ≤ most_allowance → (c : Copied) → c ≡ copy_root log date score allowance s₀ → c ≡ copy_in lent log date score allowance s₀
    unfolding copy_in
    tests_passed z h c k = rw (sym e ∙ q, sym ed ∙ z, le-ltb most_allowance allowance h) k
