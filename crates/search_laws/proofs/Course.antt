-- How a search goes: a test stops it, or the card is read and judged.
use mathlib.Core.Path.{◌≡◌, refl}
use mathlib.Core.Bool.{Bool, true, false}
use Prim.Native.Nat.{ℕ, ◌≤◌, ◌<◌}
use native.Mathlib.Omega.{arith}
use lib.Dec.{leb}
use borrow.Author.Tests.{leb-true, leb-false, le-leb}
use lib.ListN.{length}
use Rattle.std.specs.Prelude.{Result, Ok, Err}
use Rattle.buffer.specs.Bytes.{Bytes}
use Rattle.refusal.specs.declared.Refusal.{Refusal}
use Rattle.refusal.specs.declared.Refusal.TheVariants as why
use Rattle.sector_log.specs.LookUp.{lent_allowed}
use Rattle.entry.specs.Entry.{entry_of}
use Rattle.file.specs.File.{page_allowed, entry_readable}
use Rattle.kleene.specs.declared.Value.{Value}
use Rattle.card_answer.specs.CardAnswer.{once_read}
use Rattle.search.specs.Search.{longest_card, card_of, search_of}

-- what the tests show
pub record Open (log waiting page entry : Bytes) : Type 0 where
  pub log-allowed : lent_allowed (length log) (length waiting) ≡ true
  pub page-allowed : page_allowed page ≡ true
  pub entry-readable : entry_readable entry ≡ true
  pub short : (entry_of entry).size ≤ longest_card

abbrev pub at_last : Bytes → Bytes → Bytes → Bytes → Result Value Refusal
at_last log waiting entry query = once_read (card_of log waiting entry).stop (card_of log waiting entry).bytes query

-- a refusal is no value
no_value : (w : Refusal) (v : Value) (x : Result Value Refusal) → x ≡ Err w → x ≡ Ok v → ⊥
no_value w v x e f = let z : ◌≡◌ {A = ℕ} 0 1 = cc in omega arith

module _ (log waiting page entry query : Bytes) where
  -- past the tests
  pub opened : Open log waiting page entry → search_of log waiting page entry query ≡ at_last log waiting entry query
  unfolding search_of
  opened p = rw (p.log-allowed, p.page-allowed, p.entry-readable, le-leb (entry_of entry).size longest_card p.short) refl

  pub data Course : Type 0 where
    bad-log : lent_allowed (length log) (length waiting) ≡ false → search_of log waiting page entry query ≡ Err why.LogLength → Course
    bad-page : lent_allowed (length log) (length waiting) ≡ true → page_allowed page ≡ false → search_of log waiting page entry query ≡ Err why.Page → Course
    bad-entry : lent_allowed (length log) (length waiting) ≡ true → page_allowed page ≡ true → entry_readable entry ≡ false → search_of log waiting page entry query ≡ Err why.Entry → Course
    long : lent_allowed (length log) (length waiting) ≡ true → page_allowed page ≡ true → entry_readable entry ≡ true → longest_card < (entry_of entry).size
        → search_of log waiting page entry query ≡ Err why.Card → Course
    through : Open log waiting page entry → Course

  pub course : Course
  unfolding search_of
  course = go (lent_allowed (length log) (length waiting)) (page_allowed page) (entry_readable entry) (leb (entry_of entry).size longest_card) refl refl refl refl
    where
      go : (a g r t : Bool) → lent_allowed (length log) (length waiting) ≡ a → page_allowed page ≡ g → entry_readable entry ≡ r → leb (entry_of entry).size longest_card ≡ t → Course
      go false g r t p q u e = bad-log p (rw p refl)
      go true false r t p q u e = bad-page p q (rw (p, q) refl)
      go true true false t p q u e = bad-entry p q u (rw (p, q, u) refl)
      go true true true false p q u e = long p q u (leb-false (entry_of entry).size longest_card e) (rw (p, q, u, e) refl)
      go true true true true p q u e = through (record { log-allowed = p; page-allowed = q; entry-readable = u; short = leb-true (entry_of entry).size longest_card e })

  -- a value comes only past the tests
  pub past-tests : (v : Value) → search_of log waiting page entry query ≡ Ok v → Open log waiting page entry
  past-tests v e = go course
    where
      go : Course → Open log waiting page entry
      go (bad-log p q) = absurd (no_value why.LogLength v (search_of log waiting page entry query) q e)
      go (bad-page p r q) = absurd (no_value why.Page v (search_of log waiting page entry query) q e)
      go (bad-entry p r s q) = absurd (no_value why.Entry v (search_of log waiting page entry query) q e)
      go (long p r s h q) = absurd (no_value why.Card v (search_of log waiting page entry query) q e)
      go (through p) = p
