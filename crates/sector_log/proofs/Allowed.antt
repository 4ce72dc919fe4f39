-- A log that test 3 allows, and what may be written into it.
use mathlib.Core.Path.{◌≡◌, refl}
use mathlib.Core.Bool.{true, false, ◌&&◌, false≢true}
use mathlib.Core.List.{[], ◌∷◌}
use mathlib.Core.Option.{none, some}
use Prim.Native.Nat.{ℕ, ◌+◌, ◌%◌, ◌≤◌}
use native.Mathlib.Omega.{arith}
use lib.Dec.{eqb, leb}
use borrow.Author.Tests.{leb-true}
use lib.ListN.{length}
use Rattle.bedrock.proofs.Choices.{cond-first}
use Rattle.buffer.specs.Bytes.{Bytes, same}
use Rattle.buffer.proofs.Bytes.{same_refl}
use Rattle.digits.specs.Number.{small}
use Rattle.sha1_digest.specs.Sha1.{sha1_of}
use Rattle.kind.specs.Kind.{lawful, longest, zero_score}
use Rattle.sector.specs.Sector.{sector_length, is_date_or_none}
use Rattle.block.specs.Block.{valid}
use Rattle.block.specs.Log.{sectors}
use Rattle.block.proofs.Facts.{facts_valid}
use Rattle.sector_log.specs.LookUp.{empty_row, held, most_sectors, log_allowed}
use Rattle.sector_log.specs.Store.{parts_for}

module _ (m : ℕ) where
  pub allowed-sectors : log_allowed m ≡ true → sectors m ≤ most_sectors
  unfolding log_allowed
  allowed-sectors e = leb-true (sectors m) most_sectors (cond-first (eqb (m % sector_length) 0) (leb (sectors m) most_sectors) false true false≢true e).1

  pub allowed-whole : log_allowed m ≡ true → eqb (m % sector_length) 0 ≡ true
  unfolding log_allowed
  allowed-whole e = (cond-first (eqb (m % sector_length) 0) (leb (sectors m) most_sectors) false true false≢true e).0

-- the row of data with a date that is written at sector e of a log of m bytes, which has room
pub row-valid : (date : Bytes) (t : ℕ) (d : Bytes) (e m : ℕ) → is_date_or_none date ≡ true → log_allowed m ≡ true → lawful t ≡ true
    → length d ≤ longest → 1 ≤ length d → small d ≡ true → e + parts_for date d ≤ sectors m
    → valid (record { kind = t; score = sha1_of d; bytes = d; first = e; date = date }) ≡ true
row-valid date t d e m w a l le n sm room = facts_valid (record { kind = t; score = sha1_of d; bytes = d; first = e; date = date }) (record {
  lawful-kind = l;
  some_bytes = n;
  not_many = le;
  of-bytes = sm;
  scored = refl;
  can_be_named = omega (arith, allowed-sectors m a);
  dated = w;
})

-- data that look-up does not find is not empty
pub some_bytes : (log : Bytes) (t : ℕ) (d : Bytes) → lawful t ≡ true → held log t (sha1_of d) ≡ none → 1 ≤ length d
unfolding held zero_score
some_bytes log t [] l e =
    let q : (lawful t && same (sha1_of []) (sha1_of [])) ≡ true = rw (l, same_refl (sha1_of [])) in
    let y : some (empty_row t) ≡ none = rw q at e in
    let z : ◌≡◌ {A = ℕ} 0 1 = cc in absurd (omega arith)
some_bytes log t (x ∷ d) l e = omega arith
