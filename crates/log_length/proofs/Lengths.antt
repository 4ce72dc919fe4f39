-- Which lengths a log and a waiting part may have, test by test, and how many sectors that is.
use mathlib.Core.Path.{◌≡◌, refl, sym, ◌∙◌}
use mathlib.Core.Bool.{Bool, true, false, true≢false}
use Prim.Native.Nat.{ℕ, ◌/◌, ◌%◌, ◌≤◌}
use lib.Dec.{leb, eqb}
use borrow.Author.Tests.{eq-eqb, ne_eqb, leb-true}
use Rattle.bedrock.proofs.Choices.{and-true}
use Rattle.sector_log.specs.LookUp.{most_sectors, log_allowed, most_waiting, waiting_allowed, lent_allowed}
use Rattle.sector_log.proofs.Allowed.{allowed-sectors}

-- a log's length
pub ragged : (m : ℕ) → (m % 512 ≡ 0 → ⊥) → false ≡ log_allowed m
unfolding log_allowed
ragged m h = rw (ne_eqb (m % 512) 0 h)

pub whole-allowed : (m : ℕ) → m % 512 ≡ 0 → leb (m / 512) most_sectors ≡ log_allowed m
unfolding log_allowed
whole-allowed m h = rw (eq-eqb (m % 512) 0 h)

-- test 3 of a log and a waiting part
pub lent-log : (m w : ℕ) (a : Bool) → a ≡ log_allowed m → a ≡ false → false ≡ lent_allowed m w
unfolding lent_allowed
lent-log m w a p q = rw (sym p ∙ q)

pub lent-ragged : (m w : ℕ) (a : Bool) → a ≡ log_allowed m → a ≡ true → (w % 512 ≡ 0 → ⊥) → false ≡ lent_allowed m w
unfolding lent_allowed waiting_allowed
lent-ragged m w a p q h = rw (sym p ∙ q, ne_eqb (w % 512) 0 h)

pub lent-whole : (m w : ℕ) (a : Bool) → a ≡ log_allowed m → a ≡ true → w % 512 ≡ 0 → leb (w / 512) most_waiting ≡ lent_allowed m w
unfolding lent_allowed waiting_allowed
lent-whole m w a p q h = rw (sym p ∙ q, eq-eqb (w % 512) 0 h)

waiting-sectors : (m : ℕ) → waiting_allowed m ≡ true → m / 512 ≤ most_waiting
unfolding waiting_allowed
waiting-sectors m q = go (eqb (m % 512) 0) refl
  where
    go : (b : Bool) → eqb (m % 512) 0 ≡ b → m / 512 ≤ most_waiting
    go true e = leb-true (m / 512) most_waiting (rw e at q)
    go false e = absurd (true≢false (sym (rw e at q)))

pub lent-sectors : (m w : ℕ) (a : Bool) → a ≡ lent_allowed m w → a ≡ true → (m / 512 ≤ most_sectors) × (w / 512 ≤ most_waiting)
unfolding lent_allowed
lent-sectors m w a p q =
    let t = and-true (log_allowed m) (waiting_allowed w) (sym p ∙ q) in
    (allowed-sectors m t.0, waiting-sectors w t.1)
