-- A block's cutting and padding in numbers and byte strings.
use mathlib.Core.Path.{◌≡◌, ap, ◌∙◌}
use Prim.Native.Nat.{ℕ, ◌≤◌, ◌<◌}
use native.Mathlib.Omega.{arith}
use lib.ListN.{length}
use Rattle.std.specs.Prelude.{Result, Ok, Err, ⊤}
use Rattle.buffer.specs.Bytes.{Bytes}
use Rattle.refusal.specs.declared.Refusal.{Refusal}
use Rattle.cut.specs.Cut.{cut_of}
use Rattle.cut.specs.Pad.{AfterPad, after_pad}
use Rattle.cut.proofs.CutAndPad.{cut_never_longer}
use Rattle.block_calls.specs.Blocks.{cut_result, pad_number, padded_buffer, pad_result}
use Rattle.results.proofs.Numbers.{number-bounds}

-- a caller tells the two results of cutting apart: a length is at most the block's, a refusal is more
module _ (kind : ℕ) (b : Bytes) where
  pub cut_kept : (n : ℕ) → cut_of kind b ≡ Ok n → cut_result (length b) (cut_of kind b) ≤ length b
  cut_kept n e = rw e (cut_never_longer kind b n e)

  pub cut_refused : (w : Refusal) → cut_of kind b ≡ Err w → length b < cut_result (length b) (cut_of kind b)
  cut_refused w e = rw e (omega (arith, (number-bounds w).0))

pub padded_so : (a : Result ⊤ Refusal) (b : Bytes) (o : AfterPad) (k : ℕ) → after_pad a b ≡ o → k ≡ pad_number a → padded_buffer k b ≡ pad_result o
padded_so a b o k e f = ap (λ (x : ℕ). padded_buffer x b) f ∙ ap pad_result e
