-- Damaged and missing cards: what look-up does not find, by the ledger, is what the search refuses.
use mathlib.Core.Path.{◌≡◌, ap, ◌∙◌}
use mathlib.Core.Bool.{true, false}
use mathlib.Core.Logic.{◌≢◌}
use native.Mathlib.Omega.{arith}
use Rattle.std.specs.Prelude.{Err}
use Rattle.buffer.specs.Bytes.{Bytes}
use Rattle.buffer.proofs.Bytes.{same_false}
use Rattle.refusal.specs.declared.Refusal.{Refusal}
use Rattle.refusal.specs.declared.Refusal.TheVariants.{NotHeld}
use Rattle.kind.specs.Kind.{zero_score}
use Rattle.block.specs.Block.{Row}
use Rattle.sector_log.specs.LookUp.{absence}
use Rattle.sector_log.specs.Parts.{tape, one_log}
use Rattle.ledger.specs.Ledger.{intact, end}
use Rattle.demands.specs.Ledger.{any_uncovered, absent}
use Rattle.demands.specs.Instance.{archive}
use Rattle.demands.proofs.First.{first-none}
use Rattle.demands.proofs.Seen.{absence-is}
use Rattle.promises.proofs.Reflected.{mirrored}
use Rattle.promises.proofs.Uncovered.{changed_uncovered}
use Rattle.promises.proofs.Moment.{held-row}
use Rattle.events.specs.Events.{Past, log_then, ledger_then, not_known_then, Unchanged}
use Rattle.events.proofs.Events.{mirrors, from-intact}
use Rattle.entry.specs.Entry.{entry_of, score_of}
use Rattle.tree.specs.Tree.{type_at}
use Rattle.file_laws.specs.Path.{Lacks}
use Rattle.file_laws.proofs.Missing.{leaf_lacks}
use Rattle.trees.specs.Again.{waiting_of}
use Rattle.trees.proofs.Again.{held_one, absence-one}
use Rattle.search_laws.proofs.Unreadable.{missing-is_its_number, missing-has_no_value}
use Rattle.card_events.specs.Damaged.{NoCopyNotHeld, DamagedCardIsTwelve, DamagedLeafIsTwelve, MissingCardIsEleven, NoCopyNoValue}

pub no_copy_not-held : NoCopyNotHeld
no_copy_not-held h t s z n =
    held-row (log_then h) (ledger_then h) (mirrors h) t s z ∙ first-none t s (intact archive (ledger_then h)) (λ r m k e. n r (from-intact h t s r m k e))

module _ (h : Past) where
  -- what is lent, read as one log
  abbrev both : Bytes
  both = tape (log_then h).log (waiting_of (log_then h))

  -- the refusal of what is not found is the ledger's
  absence-then : absence both ≡ absent (intact archive (ledger_then h)) (end archive (ledger_then h))
  absence-then = absence-one (log_then h).log (log_then h).waiting
      ∙ absence-is (one_log (log_then h)) (intact archive (ledger_then h)) (end archive (ledger_then h)) (mirrored (log_then h) (ledger_then h) (mirrors h))

  uncovered_twelve : any_uncovered (intact archive (ledger_then h)) (end archive (ledger_then h)) ≡ true → absence both ≡ not_known_then h
  uncovered_twelve u = absence-then ∙ rw u

  covered_eleven : any_uncovered (intact archive (ledger_then h)) (end archive (ledger_then h)) ≡ false → absence both ≡ NotHeld
  covered_eleven u = absence-then ∙ rw u

  -- a card of one leaf of which no unchanged copy is there lacks it
  lacks : (entry : Bytes) → (entry_of entry).depth ≡ 0 → score_of entry ≢ zero_score → ((r : Row) → Unchanged h (type_at (entry_of entry) 0) (score_of entry) r → ⊥)
      → Lacks both (entry_of entry) 0 (entry_of entry).depth (score_of entry)
  lacks entry d z n =
      let t = type_at (entry_of entry) 0 in
      let s = score_of entry in
      leaf_lacks both (entry_of entry) 0 (entry_of entry).depth s d (same_false s zero_score z)
      (held_one (log_then h).log (log_then h).waiting t s ∙ no_copy_not-held h t s z n)

pub damaged_card-is_twelve : DamagedCardIsTwelve
damaged_card-is_twelve h page entry query o k a g r s l f c m =
    missing-is_its_number (log_then h).log (waiting_of (log_then h)) page entry query o a g r s l f m
    ∙ ap (λ (x : Refusal). Err x) (uncovered_twelve h (changed_uncovered (ledger_then h) k c))

pub damaged_leaf-is_twelve : DamagedLeafIsTwelve
damaged_leaf-is_twelve h page entry query k a g r s l d z c n =
    damaged_card-is_twelve h page entry query 0 k a g r s l (λ p b. absurd (omega arith)) c (lacks h entry d z n)

pub missing-card-is_eleven : MissingCardIsEleven
missing-card-is_eleven h page entry query a g r s l d z c n =
    missing-is_its_number (log_then h).log (waiting_of (log_then h)) page entry query 0 a g r s l (λ p b. absurd (omega arith)) (lacks h entry d z n)
    ∙ ap (λ (x : Refusal). Err x) (covered_eleven h c)

pub no_copy_no_value : NoCopyNoValue
no_copy_no_value h page entry query v l d z n = missing-has_no_value (log_then h).log (waiting_of (log_then h)) page entry query 0 v l (lacks h entry d z n)
