-- A card read into a buffer: by what filling a buffer promises.
use mathlib.Core.Path.{◌≡◌, sym, ap, ap₂, ◌∙◌}
use mathlib.Core.Bool.{true}
use mathlib.Core.Logic.{◌≢◌}
use Prim.Native.Nat.{ℕ, ◌+◌, ◌-◌, ◌≤◌, min}
use native.Mathlib.Omega.{arith}
use borrow.Author.Tests.{lt-ltb}
use lib.ListN.{length, take, drop}
use lib.Seq.{take-append_seam}
use Rattle.std.specs.Prelude.{Result, ⊤}
use Rattle.buffer.specs.Bytes.{Bytes}
use Rattle.kleene.specs.declared.Value.{Value}
use Rattle.refusal.specs.declared.Refusal.{Refusal}
use Rattle.sector_log.specs.LookUp.{lent_allowed}
use Rattle.entry.specs.Entry.{entry_of}
use Rattle.file.specs.File.{entry_readable}
use Rattle.fill.specs.declared.Filled.{Filled}
use Rattle.fill.specs.Fill.{gathered, FillOutcome, fill_outcome, filled_with, fill_in, fill_of}
use Rattle.file_laws.proofs.Filled.{fill_files}
use Rattle.card_answer.specs.CardAnswer.{judged, once_read}
use Rattle.search.specs.Search.{card_of}

-- a file of no bytes
pub unread : (log waiting entry query d : Bytes) (size : ℕ) (x : Result Value Refusal) → size ≡ (entry_of entry).size → size ≡ 0 → x ≡ judged (take 0 d) query
    → x ≡ once_read (card_of log waiting entry).stop (card_of log waiting entry).bytes query
unfolding gathered
unread log waiting entry query d size x s z e = e ∙ sym (rw (sym s ∙ z))

module _ (log waiting entry d : Bytes) (size : ℕ) (a : lent_allowed (length log) (length waiting) ≡ true) (r : entry_readable entry ≡ true)
    (s : size ≡ (entry_of entry).size) (h : size ≤ length d) (some : size ≢ 0) where
  -- the buffer gets the whole card
  pub filled-card : fill_of log waiting entry 0 d ≡ filled_with d (card_of log waiting entry)
  unfolding fill_in
  filled-card =
      let n : min (length d) ((entry_of entry).size - 0) ≡ (entry_of entry).size = omega arith in
      rw (a, r, lt-ltb 0 (entry_of entry).size (omega arith), n)

  module _ (f : Filled) (d' : Bytes) (e : fill_outcome f d' ≡ fill_of log waiting entry 0 d) where
    outcome : fill_outcome f d' ≡ filled_with d (card_of log waiting entry)
    outcome = e ∙ filled-card

    pub room : f.count ≤ length d
    room = rw (ap (λ (x : FillOutcome). x.filled.count) e) (fill_files log waiting entry 0 d).0

    pub read-card : (query : Bytes) → once_read f.stop (take f.count d') query ≡ once_read (card_of log waiting entry).stop (card_of log waiting entry).bytes query
    read-card query =
        let g = card_of log waiting entry in
        let b : take f.count d' ≡ g.bytes = ap (λ (x : FillOutcome). take x.filled.count x.buffer) outcome ∙ take-append_seam g.bytes (drop (0 + length g.bytes) d) in
        ap₂ (λ (x : Result ⊤ Refusal) (y : Bytes). once_read x y query) (ap (λ (x : FillOutcome). x.filled.stop) outcome) b
