-- Doubtful sectors, and the used part: how they go over from one log to another.
use mathlib.Core.Path.{◌≡◌, sym, ap, ◌∙◌}
use mathlib.Core.Bool.{true, false, true≢false}
use Prim.Native.Nat.{ℕ, ◌+◌, ◌-◌, ◌≤◌, ◌<◌}
use native.Mathlib.Omega.{arith}
use borrow.Author.Tests.{lt-ltb, le-ltb}
use Rattle.bedrock.proofs.Choices.{false_unless, true_unless}
use Rattle.ledger.specs.Archive.{Archive}
use Rattle.ledger.specs.Ledger.{covers, Doubtful}
use Rattle.ledger.specs.Lawful.{Lawful}
use Rattle.ledger.proofs.Covers.{covers-reads}

module _ (A : Archive) (W : Lawful A) where
  open A use {Log, at, blank, is_blank, fits, used, start, Loan, alone, Row, first, parts, image, valid, sound}
  open W use {lt_used, used_le, at-alone, image-fits, sound-reads, sound_finds}

  -- a log that is blank nowhere but where the other is
  pub used-within : (log next : Log) → ((n : ℕ) → is_blank (at log n) ≡ false → is_blank (at next n) ≡ false) → used log ≤ used next
  used-within log next f = used_le log (used next) (λ n h. true_unless (is_blank (at log n)) (λ q. omega (arith, h, lt_used next n (f n q))))

  -- the same sectors
  pub used-same : (log next : Log) → ((n : ℕ) → at next n ≡ at log n) → used next ≡ used log
  used-same log next f =
      omega (arith, used-within log next (λ n q. ap is_blank (f n) ∙ q), used-within next log (λ n q. ap is_blank (sym (f n)) ∙ q))

  -- the log alone is the log up to where the waiting part starts
  pub alone_early : (l : Loan) (log : Log) (n : ℕ) → n < start log → at (alone l log) n ≡ at log n
  alone_early l log n h = at-alone l log n ∙ rw (lt-ltb n (start log) h)

  pub alone_late : (l : Loan) (log : Log) (n : ℕ) → start log ≤ n → at (alone l log) n ≡ blank
  alone_late l log n h = at-alone l log n ∙ rw (le-ltb n (start log) h)

  -- a sector of a log that does not fit its check is in no sound block
  pub unfit-doubtful : (log : Log) (n : ℕ) → n < used log → fits (at log n) ≡ false → Doubtful A log n
  unfit-doubtful log n u bad = (
    u,
    λ m r e. false_unless (covers A r n) (λ q.
        let s = sound-reads log m r e in
        let c = covers-reads A r n q in
        let same : m + (n - m) ≡ n = omega (arith, s.1) in
        let reads : at log n ≡ image r (n - m) = rw same at (s.2 (n - m) (omega (arith, s.1))) in
        true≢false (sym (image-fits r (n - m) s.0 (omega (arith, s.1))) ∙ ap fits (sym reads) ∙ bad)),
  )

  -- row s lies whole in the log
  abbrev pub Lies : Log → Row → Type 0
  Lies log s = (k : ℕ) → k < parts s → at log (first s + k) ≡ image s k

  -- a sector stays doubtful while no block that comes to lie over it is whole
  pub doubt-on : (log next : Log) (n : ℕ) → Doubtful A log n → n < used next
      → ((s : Row) → valid s ≡ true → covers A s n ≡ true → Lies next s → Lies log s) → Doubtful A next n
  doubt-on log next n D u back = (
    u,
    λ m s e. false_unless (covers A s n) (λ q.
        let p = sound-reads next m s e in
        let lies : Lies next s = rw p.1 p.2 in
        true≢false (sym q ∙ D.1 (first s) s (sound_finds log s p.0 (back s p.0 q lies)))),
  )

  -- the same sectors
  pub doubt-same : (log next : Log) (n : ℕ) → ((m : ℕ) → at next m ≡ at log m) → Doubtful A log n → Doubtful A next n
  doubt-same log next n f D =
      doubt-on log next n D (omega (arith, D.0, used-same log next f)) (λ s v c lies k h. sym (f (first s + k)) ∙ lies k h)
