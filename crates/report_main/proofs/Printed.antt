-- Case laws of what is printed.
use mathlib.Core.Path.{◌≡◌, ap, ◌∙◌}
use Prim.Native.Nat.{ℕ, ◌≤◌, ◌<◌}
use borrow.Author.Tests.{le-leb, lt-leb}
use lib.ListN.{length}
use Rattle.buffer.specs.Bytes.{Bytes, put}
use Rattle.refusal.specs.declared.Refusal.{Refusal}
use Rattle.report.specs.Report.{report_outcome, report_of}
use Rattle.report.proofs.Answer.{if_written, if_refused}
use Rattle.report_main.specs.Printed.{why, printed}
use Rattle.std.specs.Prelude.{Ok, Err, Result}

-- x stands at the front of e, which was d, and has r bytes
abbrev pub Front : Bytes → Bytes → Bytes → ℕ → Type 0
Front d e x r = (e ≡ put d 0 x) × (r ≡ length x)

pub print_long : (log d e : Bytes) (r : ℕ) → 65024 < length log → (e ≡ put d 0 why) × (r ≡ 7) → Front d e (printed log) r
unfolding printed
print_long log d e r h w = rw (lt-leb (length log) 65024 h) w

module _ (log d e : Bytes) (told : Result ℕ Refusal) (h : length log ≤ 65024) (k : 128 ≤ length d) (q : report_outcome told e ≡ report_of log d) where
  pub print_refused : (w : Refusal) (f : Bytes) (r : ℕ) → told ≡ Err w → (f ≡ put e 0 why) × (r ≡ 7) → Front d f (printed log) r
  unfolding printed
  print_refused w f r t p =
      let g = if_refused log d e told k q w t in
      rw (le-leb (length log) 65024 h, g.0) (p.0 ∙ ap (λ (x : Bytes). put x 0 why) g.1, p.1)

  pub print_report : (n : ℕ) → told ≡ Ok n → Front d e (printed log) n
  unfolding printed
  print_report n t =
      let g = if_written log d e told k q n t in
      rw (le-leb (length log) 65024 h, g.0) (g.1, g.2)
