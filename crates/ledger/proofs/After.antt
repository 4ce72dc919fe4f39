-- What holds after a list of requests on a blank log, after damage to what it left, and after a second list.
use mathlib.Core.Path.{◌≡◌, refl, sym, ap, subst, ◌∙◌}
use mathlib.Core.List.{List, []}
use Prim.Native.Nat.{ℕ, max}
use Rattle.ledger.specs.Archive.{Archive}
use Rattle.ledger.specs.Ledger.{told, end_rows, end_changed, NoneWaits}
use Rattle.ledger.specs.Lawful.{Lawful}
use Rattle.ledger.specs.Trace.{trace}
use Rattle.ledger.specs.History.{Item, AllOfBytes, answer, recount, blank-log, blank_books, harmed, harmed_books, first-log, first_books, Damage, Zeroing, Harm}
use Rattle.ledger.specs.Reflects.{cell, Reflects}
use Rattle.ledger.proofs.Trace.{Agree}
use Rattle.ledger.proofs.Steps.{reflects_start, none-waits, reflects_told, waits-told}
use Rattle.ledger.proofs.Harm.{damage_zeroing, zeroing_over, zeroing_harm}
use Rattle.ledger.proofs.Lists.{Stands, changed-after, follows}
use Rattle.ledger.proofs.Happens.{begins-blank}

module _ (A : Archive) (W : Lawful A) (x : A.Extent) (before : List (Item A)) (b : AllOfBytes A before) where
  open A use {Log, Sector, Extent, extent, at, used, start}
  open W use {extent-void}

  pub first_list : Agree (Stands A) (trace (answer A) (blank-log A x) before) (trace (recount A) (blank_books A x) before)
  first_list = follows A W (blank-log A x) (blank_books A x) before b (begins-blank A W x)

  pub extent-begin : extent (first_books A x before).begin ≡ x
  extent-begin = ap extent (changed-after A (blank_books A x) before b).1 ∙ extent-void x

  pub extent-first : extent (first-log A x before).log ≡ x
  extent-first = first_list.left.size ∙ extent-begin

  -- the log that the first list left reflects the ledger, and no sector of it is changed
  pub reflects_clean : Reflects A (first-log A x before).log (told A [] (first_books A x before).ledger)
  reflects_clean =
      let L = (first_books A x before).ledger in
      let e : ℕ = max (end_rows A L.rows) (end_changed A []) in
      subst (λ cs. Reflects A (first-log A x before).log (record { rows = L.rows; changed = cs; start = e })) (changed-after A (blank_books A x) before b).0
      (reflects_start A (first-log A x before).log L e first_list.left.mirrors)

  -- what the rows put in each sector is what stands there
  pub was : (n : ℕ) → at (first-log A x before).log n ≡ cell A (first_books A x before).ledger.rows n
  was n = reflects_clean.plain n refl

  pub none-waits-first : start (first-log A x before).log ≡ used (first-log A x before).log → NoneWaits A (first_books A x before).ledger
  none-waits-first = none-waits A W (first-log A x before).log (first_books A x before).ledger first_list.left.mirrors first_list.left.waiting

  module _ (cs : List ℕ) (hurt : Log) where
    -- damage to the log is damage against what the rows put there
    pub zeroing_first : Zeroing A (at (first-log A x before).log) x cs hurt → Harm A (cell A (first_books A x before).ledger.rows) (extent (first_books A x before).begin) cs hurt
    zeroing_first D =
        let rows = (first_books A x before).ledger.rows in
        subst (λ (y : Extent). Harm A (cell A rows) y cs hurt) (sym extent-begin)
        (zeroing_harm A W rows x cs hurt reflects_clean.valids (zeroing_over A W (at (first-log A x before).log) (cell A rows) x cs hurt was D))

    module _ (D : Damage A (at (first-log A x before).log) x cs hurt) where
      harm-first : Harm A (cell A (first_books A x before).ledger.rows) (extent (first-log A x before).log) cs hurt
      harm-first =
          let H = zeroing_first (damage_zeroing A W (at (first-log A x before).log) x cs hurt D) in
          rw first_list.left.size H

      pub stands-hurt : Stands A (harmed A hurt (first-log A x before)) (harmed_books A cs hurt (first_books A x before))
      stands-hurt = record {
        mirrors = reflects_told A W (first-log A x before).log (first_books A x before).ledger cs hurt first_list.left.mirrors harm-first;
        waiting = waits-told A W (first-log A x before).log (first_books A x before).ledger cs hurt first_list.left.mirrors harm-first;
        since = refl;
        size = refl;
        sessions = first_list.left.sessions;
      }

      pub extent-hurt : extent hurt ≡ x
      extent-hurt = D.size

      -- the second list, with the sessions of the first
      pub second_list : (later : List (Item A)) → AllOfBytes A later
          → Agree (Stands A) (trace (answer A) (harmed A hurt (first-log A x before)) later) (trace (recount A) (harmed_books A cs hurt (first_books A x before)) later)
      second_list later c = follows A W (harmed A hurt (first-log A x before)) (harmed_books A cs hurt (first_books A x before)) later c stands-hurt
