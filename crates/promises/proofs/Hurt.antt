-- A damaged log: a block that was found and has no changed sector is found there still, after any requests that follow.
use mathlib.Core.Path.{◌≡◌, refl, sym, ap, ◌∙◌}
use mathlib.Core.Bool.{Bool, true, false}
use mathlib.Core.List.{[]}
use mathlib.Core.Option.{Option, none, some}
use Prim.Native.Nat.{ℕ}
use lib.Dec.{ltb}
use lib.ListN.{length}
use Rattle.buffer.specs.Bytes.{Bytes, same}
use Rattle.kind.specs.Kind.{lawful, zero_score}
use Rattle.block.specs.Block.{Row}
use Rattle.sector_log.specs.LookUp as look
use Rattle.sector_log.specs.Parts.{Lent, one_log}
use Rattle.request.specs.Step as steps
use Rattle.ledger.specs.Ledger.{told, hit, intact, end}
use Rattle.demands.specs.Ledger.{allowed, first_row}
use Rattle.demands.specs.Instance.{extent_of, archive}
use Rattle.promises.specs.Requests.{Reads}
use Rattle.promises.specs.Histories.{History, clean_log, log_of, told_ledger}
use Rattle.demands.proofs.First.{first-intact, intact-all}
use Rattle.demands.proofs.Seen.{given, held-zero, held_other}
use Rattle.promises.proofs.Reflected.{mirrored}
use Rattle.promises.proofs.Histories.{clean_ledger, clean, length_clean, stands-told, later-keeps}

-- the answer of a read that finds a block is the same in two logs, but for the log
pub given-same : (a b : Lent) (m buffer : Bytes) (count : ℕ) (r : Row) → let o = given a m buffer count (some r) in
    given b m buffer count (some r) ≡ record { number = o.number; session = o.session; lent = b; reply = o.reply }
given-same a b m buffer count r = go (ltb count (length r.bytes)) refl
  where
    go : (t : Bool) → ltb count (length r.bytes) ≡ t → let o = given a m buffer count (some r) in
        given b m buffer count (some r) ≡ record { number = o.number; session = o.session; lent = b; reply = o.reply }
    go true q = rw q
    go false q = rw q

-- what may be lent with these lengths may be lent with other bytes, and so a read that is well-formed with one log is so with another
pub allowed_with : (a b : Lent) → extent_of b ≡ extent_of a → steps.allowed a ≡ true → steps.allowed b ≡ true
allowed_with a b e q = by_lengths b.log b.waiting ∙ ap allowed e ∙ sym (by_lengths a.log a.waiting) ∙ q
  where
    by_lengths : (log : Bytes) (o : Option Bytes) → let L : Lent = record { log = log; waiting = o } in steps.allowed L ≡ allowed (extent_of L)
    by_lengths log none = refl
    by_lengths log (some w) = refl

pub reads_with : (a b : Lent) (m : Bytes) (date : Option Bytes) (buffer : Bytes) (t count : ℕ) (s : Bytes)
    → extent_of b ≡ extent_of a → Reads m date buffer a t count s → Reads m date buffer b t count s
reads_with a b m date buffer t count s e Q = record {
  asks = record {
    frame = Q.asks.frame;
    buffer-room = Q.asks.buffer-room;
    lent-allowed = allowed_with a b e Q.asks.lent-allowed;
    date-allowed = Q.asks.date-allowed;
    request = Q.asks.request;
  };
  score = Q.score;
  lawful_type = Q.lawful_type;
}

module _ (h : History) where
  -- what look-up finds before the damage, other than the empty block, is the ledger's first row of that type and score
  pub clean_first : (t : ℕ) (s : Bytes) → same s zero_score ≡ false → look.held (one_log (clean_log h)) t s ≡ first_row t s (clean_ledger h).rows
  clean_first t s q =
      held_other (one_log (clean_log h)) (intact archive (told archive [] (clean_ledger h))) (end archive (told archive [] (clean_ledger h)))
      (mirrored (clean_log h) (told archive [] (clean_ledger h)) (clean h)) t s q ∙ ap (first_row t s) (intact-all (clean_ledger h).rows)

  pub length-later : extent_of (log_of h) ≡ extent_of (clean_log h)
  length-later = (later-keeps h).0 ∙ h.damage.size ∙ sym (length_clean h)

  pub held-later : (t : ℕ) (s : Bytes) (r : Row) → lawful t ≡ true → look.held (one_log (clean_log h)) t s ≡ some r → hit archive h.changed r ≡ false → look.held (one_log (log_of h)) t s ≡ some r
  held-later t s r l e n = (later-keeps h).1 t s r (go (same s zero_score) refl)
    where
      go : (b : Bool) → same s zero_score ≡ b → look.held (one_log h.hurt) t s ≡ some r
      go true q = held-zero (one_log h.hurt) t s l q ∙ sym (held-zero (one_log (clean_log h)) t s l q) ∙ e
      go false q =
          held_other (one_log h.hurt) (intact archive (told_ledger h)) (end archive (told_ledger h)) (mirrored h.hurt (told_ledger h) (stands-told h).mirrors) t s q
          ∙ first-intact t s h.changed (clean_ledger h).rows r (sym (clean_first t s q) ∙ e) n
