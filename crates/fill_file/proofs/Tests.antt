-- The tests before the tree, one after the other.
use mathlib.Core.Path.{◌≡◌, refl, sym, ap, ◌∙◌}
use mathlib.Core.Bool.{Bool, true, false}
use mathlib.Core.List.{[], ◌∷◌}
use Prim.Native.Nat.{ℕ, ◌+◌, ◌-◌, ◌≤◌, ◌<◌, min}
use native.Mathlib.Omega.{arith}
use borrow.Author.Tests.{lt-ltb, le-ltb}
use lib.ListN.{length}
use Rattle.buffer.specs.Bytes.{Bytes}
use Rattle.refusal.specs.declared.Refusal.TheVariants as why
use Rattle.entry.specs.declared.Entry.{Entry}
use Rattle.entry.specs.Entry.{entry_of, score_of}
use Rattle.file.specs.File.{entry_readable}
use Rattle.file.proofs.Tests.{goes_down}
use Rattle.fill.specs.Fill.{byte_of, byte_at, byte_below, gathered, filled_with, fill_in}
use Rattle.fill.proofs.Gather.{gathered-same}
use Rattle.fill.proofs.Tests.{zero-page, nothing}

module _ (lent : Bool) (log b : Bytes) (offset : ℕ) (d : Bytes) (a : Bool) (ea : a ≡ lent) where
  pub fill_stops_log : a ≡ false → nothing d why.LogLength ≡ fill_in lent log b offset d
  unfolding fill_in
  fill_stops_log q = rw (sym ea ∙ q)

  module _ (ta : a ≡ true) (r : Bool) (er : r ≡ entry_readable b) where
    pub fill_stops_entry : r ≡ false → nothing d why.Entry ≡ fill_in lent log b offset d
    unfolding fill_in
    fill_stops_entry q = rw (sym ea ∙ ta, sym er ∙ q)

    module _ (tr : r ≡ true) (e : Entry) (ee : e ≡ entry_of b) where
      pub fill_stops_offset : e.size ≤ offset → nothing d why.Offset ≡ fill_in lent log b offset d
      unfolding fill_in
      fill_stops_offset h = rw (sym ea ∙ ta, sym er ∙ tr, ← ee, le-ltb offset e.size h)

      -- at every offset of the file the tests let through
      below : (o : ℕ) → o < e.size → byte_below log e (score_of b) o ≡ byte_at lent log b o
      below o h = ap (byte_of log) (goes_down lent log (0 ∷ []) b o a ea ta true (sym zero-page) refl r er tr e ee h)

      pub fill_goes_down : offset < e.size
          → filled_with d (gathered (byte_below log e (score_of b)) (min (length d) (e.size - offset)) offset) ≡ fill_in lent log b offset d
      unfolding fill_in
      fill_goes_down h =
          let n = min (length d) (e.size - offset) in
          let s : offset + n ≤ e.size = omega arith in
          ap (filled_with d) (gathered-same (byte_below log e (score_of b)) (byte_at lent log b) n offset (λ j p q. below j (omega arith)))
          ∙ sym (rw (sym ea ∙ ta, sym er ∙ tr, ← ee, lt-ltb offset e.size h) refl)
