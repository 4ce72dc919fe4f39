-- Rows with names, in our archive their type and score: a row that waits is the only intact one of its name, at every moment.
use Rattle.std.specs.Prelude.{◌≡◌, false, ℕ, ◌≤◌}
use mathlib.Core.List.{List, Memᴰ}
use Rattle.std.proofs.Math.Option.{Option}
use Rattle.ledger.specs.Archive.{adds, Archive}
use Rattle.ledger.specs.Ledger.{Ledger, has_all, intact, crashed}
use Rattle.ledger.specs.History.{Item}
use Rattle.ledger.specs.Events.{beginning, SomeOfBytes, EventHistory, books_then}
use Rattle.ledger.specs.Aftermath.{Stopped, OnItsWay}

module _ (A : Archive) {Name : Type 0} (name : A.Row → Name) where
  open A use {Log, Extent, Loan, Row, first, parts, Request, Session, OfBytes, tell}

  -- "A write ... of those in the first intact row of its type and SHA-1, adds no row. If that row has other bytes ... it is 15": a row is added
  -- only where no intact row has its name
  abbrev pub AddsNewNames : Type 0
  AddsNewNames = (L : Ledger A) (x : Extent) (s : Session) (q : Request) (r : Row) → OfBytes q → (tell L.rows L.changed L.start x s q).effect ≡ adds r
      → (y : Row) → Memᴰ y (intact A L) → name y ≡ name r → ⊥

  -- each row that waits is intact, and the only intact one of its name
  abbrev pub WaitingAreOnly : Ledger A → Type 0
  WaitingAreOnly L = (r : Row) → Memᴰ r L.rows → L.start ≤ first r
      → Memᴰ r (intact A L) × ((x : Row) → Memᴰ x (intact A L) → name x ≡ name r → x ≡ r)

  -- at every moment, and with what a request had begun that was never answered. Settled rows of one name may both be intact: one that was damaged,
  -- stored again and healed
  abbrev pub WaitingIsOnly : Type 0
  WaitingIsOnly = (h : EventHistory A) (q : Option (Item A)) → SomeOfBytes A q → WaitingAreOnly (beginning A (books_then A h) q)

  -- so after a stop inside a write no intact row has the name of one that did not arrive whole
  abbrev pub TornIsGone : Type 0
  TornIsGone = (h : EventHistory A) (q : Option (Item A)) (arrived torn : List ℕ) (l : Loan) (hurt : Log) → Stopped A h q arrived torn l hurt
      → (r : Row) → OnItsWay A h q arrived torn l hurt r → has_all arrived (first r) (parts r) ≡ false
      → (x : Row) → Memᴰ x (intact A (crashed A arrived torn (beginning A (books_then A h) q))) → name x ≡ name r → ⊥
