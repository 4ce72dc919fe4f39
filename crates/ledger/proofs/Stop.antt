-- A stop between two requests is a stop inside a write of which nothing arrived: the log alone reflects the ledger at the last settling.
use mathlib.Core.Path.{◌≡◌, refl, ap, ◌∙◌}
use mathlib.Core.Bool.{Bool, true, false, false≢true}
use mathlib.Core.List.{List, [], ◌∷◌, append-nil, Memᴰ}
use Prim.Native.Nat.{ℕ, zero, suc, ◌<◌}
use native.Mathlib.Omega.{arith}
use lib.Dec.{ltb}
use Rattle.ledger.specs.Archive.{Archive}
use Rattle.ledger.specs.Ledger.{has_all, Ledger, told, at_settling, keep_rows, there, there_rows, crashed}
use Rattle.ledger.specs.Lawful.{Lawful}
use Rattle.ledger.specs.Reflects.{Reflects, Waits}
use Rattle.ledger.specs.Events.{Crash}
use Rattle.ledger.proofs.Doubt.{alone_early, alone_late}
use Rattle.ledger.proofs.Crash.{Pending, pending_all, reflects_crash, waits-crash}

none-all : (n k : ℕ) → 0 < k → has_all [] n k ≡ false
none-all n zero h = absurd (omega arith)
none-all n (suc k) h = refl

module _ (A : Archive) where
  open A use {Row, first, parts}

  -- the rows that are there if nothing arrived
  settled-there : (e : ℕ) (rows : List Row) → ((r : Row) → Memᴰ r rows → 0 < parts r) → keep_rows A (there A e []) rows ≡ keep_rows A (λ r. ltb (first r) e) rows
  settled-there e [] p = refl
  settled-there e (r ∷ rows) p = go (ltb (first r) e) refl (settled-there e rows (λ s m. p s (Memᴰ.tail m)))
    where
      go : (b : Bool) → ltb (first r) e ≡ b → keep_rows A (there A e []) rows ≡ keep_rows A (λ s. ltb (first s) e) rows
          → keep_rows A (there A e []) (r ∷ rows) ≡ keep_rows A (λ s. ltb (first s) e) (r ∷ rows)
      go true q f = rw q (ap (λ l. r ∷ l) f)
      go false q f = rw (q, none-all (first r) (parts r) (p r (Memᴰ.head refl))) f

module _ (A : Archive) (W : Lawful A) (l : A.Loan) (log : A.Log) (L : Ledger A) (R : Reflects A log L) (S : Waits A log L) where
  open A use {alone, Row}
  open W use {extent-alone, start-alone, parts_pos}

  pending : Pending A log L
  pending = pending_all A log L R S

  nothing_arrived : Crash A log L [] [] l (alone l log)
  nothing_arrived = record {
    size = extent-alone l log;
    settled = λ n h. alone_early A W l log n (omega (arith, h, S.starts));
    arrived_whole = λ n e. absurd (false≢true e);
    broken = λ n e. absurd (false≢true e);
    still = λ n h a t. alone_late A W l log n (omega (arith, h, S.starts));
    none-waits = start-alone l log;
  }

  same : crashed A [] [] L ≡ at_settling A L
  same =
      ap (λ cs. told A cs (record { rows = there_rows A [] L; changed = L.changed; start = L.start })) (append-nil L.changed)
      ∙ ap (λ (rows : List Row). told A L.changed (record { rows = rows; changed = L.changed; start = L.start }))
      (settled-there A L.start L.rows (λ r m. parts_pos r (R.valids r m)))

  pub reflects_stop : Reflects A (alone l log) (at_settling A L)
  reflects_stop = rw (← same) (reflects_crash A W log L pending [] [] l (alone l log) nothing_arrived)

  pub waits-stop : Waits A (alone l log) (at_settling A L)
  waits-stop = rw (← same) (waits-crash A W log L pending [] [] l (alone l log) nothing_arrived)
